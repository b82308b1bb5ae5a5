-- What a book gains for the units used.
use Rattle.std.proofs.Common.{◌≡◌, ℕ, ◌+◌, ◌≤◌, List, [], sym, ◌∙◌, subst, arith, Option}
use Rattle.line_instance.specs.Line.{Line}
use Rattle.line_rules.specs.Units.{UnitsOf, UnitsIn}
use Rattle.line_rules.specs.declared.types.LineKind.{LineKind}
use Rattle.line_rules.specs.declared.types.Mode.{Mode}
use Rattle.line_rules.specs.declared.types.OpenFrame.{OpenFrame}
use Rattle.lemma_core.specs.History.{Item}
use Rattle.lemma_core.specs.Desks.{Keeps}
use Rattle.lemma_core.specs.Own.{Did, added_of}
use Rattle.lemma_core.specs.Books.{BookView, IsBook, desk_of}
use Rattle.station_search.specs.Costs.{HasPublished, Spends, AddsFew}
use Rattle.round_helpers.specs.Growth.{GoesOn}
use Rattle.round_helpers.proofs.BookGrowth as growth
pub use Rattle.round_helpers.proofs.BookGrowth.{goes_then, goes_same, best_same}
use Rattle.round_run.specs.Rounds.{Gains, frames_of, IsListed}
use Rattle.round_run.specs.declared.closing.Verdict.{Verdict}

module _ {asked : Option Mode} (old new : BookView) (ok : IsBook old) (okn : IsBook new)
    (k : Keeps (desk_of old) (desk_of new))
    (kind : LineKind) (line : Line) (X : ℕ) (of_line : line ≡ old.about.line) (of_cycle : X ≡ old.about.cycle)
    (h : HasPublished asked kind line X (desk_of old) (desk_of new)) where
  same : (is : List Item) → Did (desk_of old) (desk_of new) is → h.items ≡ is
  same is d = growth.same_items old new ok okn k kind line X of_line of_cycle h is d

  -- each unit is listed
  pub gains_all : (answer : Verdict) (used most : ℕ) → most ≤ used + 1
      → AddsFew line X (desk_of old) (desk_of new) (frames_of answer) used most
      → Spends line X (desk_of old) (desk_of new) (frames_of answer) used → Gains old new answer used
  gains_all answer used most l few s =
      let P : List Item → Type 0 = λ z. UnitsOf old.about.line (added_of z) s.published in
      record {
        gained = added_of few.items;
        goes_on = growth.goes_on old new ok okn k kind line X of_line of_cycle h few.items few.did;
        few = omega (arith, l, few.few);
        published = s.published;
        listed = s.listed;
        entry_units = subst P (sym (same s.items s.did) ∙ same few.items few.did)
            (growth.entry_units old new ok okn k kind line X of_line of_cycle h (added_of s.items) s.published
            s.entry_units);
        frame_units = growth.frame_units old new ok okn k kind line X of_line of_cycle h (frames_of answer)
            s.listed s.framed;
        within = omega (arith, s.sum);
        exact = λ all. s.sum;
      }

  -- no more units are listed than were used, in this book or in one that went on from it without an entry
  pub gains_some : (later : BookView) (answer : Verdict) (frames : List OpenFrame) (used most : ℕ)
      → frames ≡ frames_of answer → (IsListed answer → ⊥) → most ≤ used + 1
      → AddsFew line X (desk_of old) (desk_of new) frames used most → GoesOn new later []
      → Gains old later answer used
  gains_some later answer frames used most e not l few g =
      let P : List OpenFrame → Type 0 = λ z. UnitsIn old.about.line old.about.cycle z few.listed in
      record {
        gained = added_of few.items;
        goes_on = goes_then old new later (added_of few.items)
            (growth.goes_on old new ok okn k kind line X of_line of_cycle h few.items few.did) g;
        few = omega (arith, l, few.few);
        published = few.published;
        listed = few.listed;
        entry_units = growth.entry_units old new ok okn k kind line X of_line of_cycle h (added_of few.items)
            few.published few.entry_units;
        frame_units = subst P e (growth.frame_units old new ok okn k kind line X of_line of_cycle h frames
            few.listed few.framed);
        within = few.sum;
        exact = λ all. absurd (not all);
      }
