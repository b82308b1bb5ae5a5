-- How a book goes on, and what helpers add to it. Own.
use Rattle.std.specs.Prelude.{◌≡◌, ℕ, ◌≤◌, List, ◌++◌, length, slice_get, Some}
use Rattle.line_rules.specs.Units.{UnitsOf}
use Rattle.line_rules.specs.declared.types.Entry.{Entry}
use Rattle.lemma_core.specs.Books.{BookView}

-- each entry has the cycle X
abbrev pub AreAtCycle : ℕ → List Entry → Type 0
AreAtCycle X es = (k : ℕ) (e : Entry) → slice_get es k ≡ Some e → e.cycle ≡ X

-- The book went on: it is about the same and opened with the same, its entries stay and these were added, each at the
-- book's cycle, and the best balance has no more stations than before.
pub record GoesOn (old new : BookView) (gained : List Entry) : Type 0 where
  pub about : new.about ≡ old.about
  pub opening : new.opening ≡ old.opening
  pub entries : new.state.entries ≡ old.state.entries ++ gained
  pub cycles : AreAtCycle old.about.cycle gained
  pub best : new.state.best.stations ≤ old.state.best.stations

-- What helpers add to a book for the units that they used: at most one entry for each unit, and no more units than were
-- used.
pub record Helps (old new : BookView) (used : ℕ) : Type 0 where
  pub gained : List Entry
  pub goes_on : GoesOn old new gained
  pub few : length gained ≤ used
  pub published : ℕ
  pub units : UnitsOf old.about.line gained published
  pub within : published ≤ used
