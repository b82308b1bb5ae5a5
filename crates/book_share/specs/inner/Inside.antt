-- What is true of the seat of every pass between two calls.
use Rattle.std.specs.Prelude.{◌≡◌, []}
use Rattle.lemma_core.specs.History.{AreExact}
use Rattle.book_share.specs.Rule.{OwnRises}
use Rattle.book_share.specs.Steps.{Mine, given}

-- it isn't in a turn and has no slot, its own places rise, and what it has seen is exact
pub record IsResting (m : Mine) : Type 0 where
  pub me : m ≡ (given m.0, [])
  pub rises : OwnRises m.0
  pub exact : AreExact m.0.base.opening m.0.seen
