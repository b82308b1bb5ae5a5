use Rattle.std.proofs.Common.{refl}
use Rattle.line_rules.proofs.Ranks.{ranked_right}
use Rattle.first_fit.proofs.ranked.ranked_balance.Goals as goal

pub returns-in-Ok : goal.returns-in-Ok
returns-in-Ok c =
    let right = ranked_right c.args.kind c.args.inst.now c.args.cycle c.in-Ok.balance c.tasks-tasks.ensures.line
    c.in-Ok.ensures in
    record { ranked = c.in-Ok.ensures; right = right.0; few = right.1; short = c.in_default.ensures.none refl }
