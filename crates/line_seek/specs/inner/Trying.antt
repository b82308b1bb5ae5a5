-- What a try finds, and what a search adds to the scratch book.
use Rattle.std.specs.Prelude.{ℕ, ◌≤◌, List, length}
use Rattle.line_rules.specs.Balance.{IsRight, all_tasks}
use Rattle.line_rules.specs.Entries.{HasAnswer}
use Rattle.line_rules.specs.Units.{UnitsOf}
use Rattle.line_rules.specs.declared.types.Entry.{Entry}
use Rattle.lemma_core.specs.Books.{BookView}
use Rattle.round_helpers.specs.Growth.{AreAtCycle, GoesOn}
use Rattle.line_seek.specs.declared.trying.Told.{Told}
use Rattle.line_seek.specs.declared.trying.Told.TheVariants as told

-- What is told of the question whether all tasks have a balance in `most` stations, with the scratch book after the
-- try: a right balance in no more stations; or that an entry of the book refutes it; or nothing.
abbrev pub IsTold : BookView → ℕ → Told → Type 0
IsTold book most (told.Found b) = IsRight book.about.kind book.about.line book.about.cycle b × (b.stations ≤ most)
IsTold book most told.Refuted = HasAnswer book.state.entries (all_tasks book.about.line) most book.about.cycle
IsTold book most told.Open = Unit {0}

-- how many entries a try may add that no load paid for: one where it refutes
abbrev pub may_add : Told → ℕ
may_add (told.Found b) = 0
may_add told.Refuted = 1
may_add told.Open = 0

-- a book went on, and gained at most so many entries, with at most so many units
pub record Gains (old new : BookView) (paid most : ℕ) : Type 0 where
  pub gained : List Entry
  pub goes_on : GoesOn old new gained
  pub few : length gained ≤ most
  pub units : ℕ
  pub counted : UnitsOf old.about.line gained units
  pub within : units ≤ paid

-- a book whose entries are all at its cycle, at most so many, and have at most so many units
pub record IsPaid (book : BookView) (paid most : ℕ) : Type 0 where
  pub cycles : AreAtCycle book.about.cycle book.state.entries
  pub few : length book.state.entries ≤ most
  pub units : ℕ
  pub counted : UnitsOf book.about.line book.state.entries units
  pub within : units ≤ paid
