-- What is done on a desk for a question, and what it answers. Own.
use Rattle.std.specs.Prelude.{◌≡◌, ◌⊎◌, ℕ, ◌≤◌, Bool, List, length, Option, Some, None}
use Rattle.line_instance.specs.Line.{Line}
use Rattle.line_rules.specs.Accepted.{HasBalance}
use Rattle.line_rules.specs.Balance.{all_tasks}
use Rattle.line_rules.specs.Bounds.{bound}
use Rattle.line_rules.specs.Entries.{HasAnswer}
use Rattle.line_rules.specs.Seats.{AreSeated}
use Rattle.line_rules.specs.Units.{UnitsOf}
use Rattle.line_rules.specs.declared.types.Load.{Load}
use Rattle.lemma_core.specs.History.{Item}
use Rattle.lemma_core.specs.Desks.{DeskView, entries, fewest_after}
use Rattle.lemma_core.specs.Own.{Did, added_of}
use Rattle.round_helpers.specs.Growth.{AreAtCycle}
use Rattle.round_helpers.specs.declared.question_work.Question.{Question}
use Rattle.round_helpers.specs.declared.question_work.End.{End}
use Rattle.round_helpers.specs.declared.question_work.End.TheVariants as ends

-- What was done on a desk for so many units: the entries that its own events added are at the cycle X, they are at most
-- so many, and they have no more units than were used.
pub record Works (line : Line) (X : ℕ) (old new : DeskView) (used most : ℕ) : Type 0 where
  pub items : List Item
  pub did : Did old new items
  pub cycles : AreAtCycle X (added_of items)
  pub few : length (added_of items) ≤ most
  pub published : ℕ
  pub units : UnitsOf line (added_of items) published
  pub within : published ≤ used

-- the fewest stations of a balance that the desk has seen
abbrev pub fewest_seen : DeskView → ℕ
fewest_seen d = fewest_after d d.seen

-- A question of R in `most` stations is settled: an entry seen refutes it, unless the bound does; or these are the loads
-- of a balance of it.
abbrev pub IsSettled : DeskView → Line → Question → List Bool → ℕ → Option (List Load) → Type 0
IsSettled desk line question R most None =
    bound question.kind line question.cycle R ≤ most → HasAnswer (entries desk) R most question.cycle
IsSettled desk line question R most (Some loads) =
    (length loads ≤ most) × AreSeated question.kind line question.cycle R loads

-- all tasks have a balance in at most as many stations as the question has
abbrev pub HasFew : Line → Question → Type 0
HasFew line question = (n : ℕ) × HasBalance question.kind line question.cycle n × (n ≤ question.most)

-- How the work of a helper on a question ends: an entry seen refutes the question, or a balance of it was seen; it was
-- told of such a balance, and there is one; no unit is left; or memory ended.
abbrev pub IsEnd : DeskView → Line → Question → ℕ → End → Type 0
IsEnd desk line question left ends.Answered =
    HasAnswer (entries desk) (all_tasks line) question.most question.cycle ⊎ (fewest_seen desk ≤ question.most)
IsEnd desk line question left ends.Told = HasFew line question
IsEnd desk line question left ends.Spent = left ≡ 0
IsEnd desk line question left ends.NoMemory = Unit {0}
