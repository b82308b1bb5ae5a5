use Rattle.std.proofs.Common.{◌≡◌, ap, ◌∙◌}
use Rattle.line_instance.specs.Truths.{meet, union}
use Rattle.line_rules.specs.Pairs.{time_between}
use Rattle.line_rules.proofs.Between.{met_tasks, between_sum}
use Rattle.pair_search.proofs.RowFacts.{nothing_between, no_tasks}
use Rattle.pair_search.proofs.rows.between.Goals as goal

pub returns-in-U : goal.returns-in-U
returns-in-U c = record {
  set = no_tasks c.args.inst.now c.empty.result c.empty.ensures.value;
  time = nothing_between c.args.kind c.in-U.is c.args.inst.now c.args.i c.args.j c.empty.result c.empty.ensures.value;
}

pub returns : goal.returns
returns c =
    let e : c.meet.result ≡ meet c.all.result (union (meet c.after.result.now c.before-2.result.now)
    (meet c.after-2.result.now c.before-3.result.now)) = cc in
    record {
      set = met_tasks c.args.inst.now c.all.result c.union.result c.meet.result c.all.ensures.set
          c.meet.ensures.value c.meet.ensures.truths;
      time = between_sum c.args.inst.now c.all.result c.args.i c.args.j c.after.result.now c.before-2.result.now
          c.after-2.result.now c.before-3.result.now c.after.ensures.members c.before-2.ensures.members
          c.after-2.ensures.members c.before-3.ensures.members c.args.kind c.in-Straight.is c.meet.result e
          ∙ ap (λ s. time_between c.args.kind c.args.inst.now s c.args.i c.args.j) c.all.ensures.value;
    }
