use Rattle.std.proofs.Common.{List, length, drop, ap, sym, subst, arith}
use Rattle.std.proofs.lemmas.List.{take_at}
use Rattle.round_helpers.specs.inner.Seats.{HaveAllWorked}
use Rattle.round_helpers.specs.inner.Teams.{MayAllWork}
use Rattle.round_helpers.specs.declared.teams.Helper.{Helper}
use Rattle.round_helpers.proofs.teams.worked.Goals as goal

pub returns-clause-each : goal.returns-clause-each
returns-clause-each g c =
    let P : List Helper → Type 0 =
    λ z. HaveAllWorked c.args.share.now c.args.inst.now c.args.question z c.work_in_threads.new.helpers in
    let Q : List Helper → Type 0 =
    λ z. HaveAllWorked c.args.share.now c.args.inst.now c.args.question c.args.helpers.items z in
    subst Q (sym (take_at c.work_in_threads.new.helpers
    (drop (length c.work_in_threads.new.helpers) c.args.helpers.items) c.args.helpers.len
    (omega (
      arith,
      c.work_in_threads.ensures.count,
      ap (λ (z : List Helper). length z) c.deref_mut.ensures.value,
      c.args.helpers.ok.0,
    )))) (subst P c.deref_mut.ensures.value c.work_in_threads.ensures.each)

pub work_in_threads-requires-clause-each : goal.work_in_threads-requires-clause-each
work_in_threads-requires-clause-each g c κs within =
    let P : List Helper → Type 0 =
    λ z. MayAllWork c.args.share.now c.args.inst.now c.args.question c.args.jobs.now c.args.pool.now z in
    subst P (sym c.deref_mut.ensures.value) c.requires.each
