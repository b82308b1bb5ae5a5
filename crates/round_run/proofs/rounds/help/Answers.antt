use Rattle.std.proofs.Common.{List, length, drop, ap, sym, subst, arith}
use Rattle.std.proofs.lemmas.List.{take_at}
use Rattle.station_search.specs.declared.answers.Units.{Units}
use Rattle.round_helpers.specs.Helping.{HasHelped}
use Rattle.round_run.proofs.PurseFacts.{spent_long}
use Rattle.round_run.proofs.rounds.help.Goals as goal

pub returns-clause-helped : goal.returns-clause-helped
returns-clause-helped g c =
    let P : List Units → Type 0 =
    λ z. HasHelped c.args.book c.call_helpers.result.book c.args.most z c.call_helpers.result.helped in
    subst P (sym (take_at c.call_helpers.new.units
    (drop (length c.call_helpers.new.units) c.args.team.now.items) c.args.team.now.len
    (omega (
      arith,
      spent_long c.as_mut_slice.result.now c.call_helpers.new.units c.call_helpers.ensures.spent,
      ap (λ (z : List Units). length z) c.as_mut_slice.ensures.value,
      c.args.team.now.ok.0,
    )))) c.call_helpers.ensures.helped
