use Rattle.std.proofs.Common.{ℕ, ◌-◌, ◌<◌, ◌/◌, subst}
use Rattle.std.proofs.lemmas.Bool.{false≢true}
use Rattle.effic_check.proofs.ClosedFacts.{closed_not}
use Rattle.effic_check.proofs.checking.is_closed.Goals as goal

pub returns-then-cycle-gt-MAX_CYCLE : goal.returns-then-cycle-gt-MAX_CYCLE
returns-then-cycle-gt-MAX_CYCLE c =
    let P : ℕ → Type 0 = λ z. 1000000000000000000 < (c.args.cert.now.lower - 1) / z in (
      λ t. absurd (false≢true t),
      λ h. absurd (closed_not c.args.inst.now c.args.cert.now.entries c.args.cert.now.lower c.args.stations
          c.args.cert.now.tasks
          c.requires.sayable.entries (subst P c.from.ensures c.if-cycle-gt-MAX_CYCLE.true) h),
    )
