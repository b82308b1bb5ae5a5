-- What the closing pass of a question does.
use Rattle.std.specs.Prelude.{◌≡◌, ℕ, length}
use Rattle.lemma_core.specs.Books.{BookView, IsReserved}
use Rattle.round_helpers.specs.Helping.{IsAnsweredBy}
use Rattle.round_run.specs.Rounds.{Gains, IsAnswer, StaysAbove, WasOpen}
use Rattle.round_run.specs.declared.rounds.Round.{Round}

-- A round whose closing pass began with a book: it gained what it did for so many units, with so many left, and gave
-- the answer; where it found no balance of the question, the best one has more stations; where the book answers the
-- question, no unit is used; and where the units ended, the book doesn't answer it (own).
pub record IsClosed (book : BookView) (most used left : ℕ) (round : Round) : Type 0 where
  pub gains : Gains book round.book round.verdict used
  pub answer : IsAnswer round.book most left round.verdict
  pub above : (old : BookView) → StaysAbove most old round.book round.verdict
  pub reserved : IsReserved round.book
  pub from : round.closing_from ≡ length book.state.entries
  pub known : IsAnsweredBy book most → used ≡ 0
  pub was_open : WasOpen book most round.verdict
