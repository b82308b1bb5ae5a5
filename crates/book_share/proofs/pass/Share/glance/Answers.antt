use Rattle.std.proofs.Common.{[], refl, sym, subst, rules}
use mathlib.Core.Option.{none}
use Rattle.atomic_table.specs.Table.{Allows, step}
use Rattle.book_share.specs.Rule.{Kept}
use Rattle.book_share.specs.Steps.{Mine, given, LoadsCount}
use Rattle.book_share.proofs.LoadSteps.{loads_count}
use Rattle.book_share.proofs.CallFacts.{sound_of, after_load}
use Rattle.book_share.proofs.pass.Share.glance.Goals as goal

pub load-requires : goal.load-requires
load-requires c =
    let n = c.self.inside.table.shared.table_id.slots in
    let seat = c.pass.inside.seat in (
      search rules,
      search rules,
      subst (λ (m : Mine). Allows Kept n seat.id m 1 (λ k. k)
          (LoadsCount (step n 1 0 0 none) m)) (sym c.pass.invariant.0.me)
          (loads_count n seat.id (given seat.me.0) [] refl),
    )

pub returns-clause-sound : goal.returns-clause-sound
returns-clause-sound c = sound_of c.load.new.seat.me (after_load c.pass.inside.seat.me c.load.new.seat.me c.load.result
    c.pass.invariant.0 c.load.ensures.2.0)
