-- What asking one question does to a book.
use Rattle.std.specs.Prelude.{◌≡◌, ℕ, ◌+◌, ◌*◌, ◌≤◌, List, ◌++◌, length}
use Rattle.line_rules.specs.Units.{UnitsOf, UnitsIn}
use Rattle.line_rules.specs.declared.types.Entry.{Entry}
use Rattle.lemma_core.specs.Books.{BookView, IsReserved}
use Rattle.round_helpers.specs.Growth.{AreAtCycle}
use Rattle.round_run.specs.Rounds.{IsAnswer, frames_of}
use Rattle.round_run.specs.declared.closing.Verdict.{Verdict}
use Rattle.round_run.specs.declared.closing.Verdict.TheVariants as verdict
use Rattle.round_run.specs.declared.plans.Plan.{Plan}
use Rattle.cycle_search.specs.declared.asking.Asked.{Asked}

-- where units ended, all of them are listed: at least N, and exactly N where there are no helpers
abbrev pub ListsAll : Verdict → Plan → ℕ → Type 0
ListsAll verdict.Refuted plan listed = Unit {0}
ListsAll verdict.Found plan listed = Unit {0}
ListsAll (verdict.Spent frames) plan listed = (plan.units ≤ listed) × (plan.helpers ≡ 0 → listed ≡ plan.units)
ListsAll (verdict.NoMemory frames) plan listed = Unit {0}

-- The question of m stations was asked over a book: what the book gained is at its cycle, no more units are listed than
-- were used, and no more were used than twice the plan's.
pub record HasAskedBook (m : ℕ) (plan : Plan) (old : BookView) (asked : Asked) : Type 0 where
  pub about : asked.book.about ≡ old.about
  pub reserved : IsReserved asked.book
  pub gained : List Entry
  pub entries : asked.book.state.entries ≡ old.state.entries ++ gained
  pub cycles : AreAtCycle old.about.cycle gained
  pub few : length gained ≤ 2 * plan.units + 1
  pub published : ℕ
  pub listed : ℕ
  pub entry_units : UnitsOf old.about.line gained published
  pub frame_units : UnitsIn old.about.line old.about.cycle (frames_of asked.verdict) listed
  pub paid : published + listed ≤ asked.used
  pub within : asked.used ≤ 2 * plan.units
  pub left : ℕ
  pub answer : IsAnswer asked.book m left asked.verdict
  pub all : ListsAll asked.verdict plan (published + listed)
