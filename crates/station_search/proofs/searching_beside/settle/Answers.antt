use Rattle.std.proofs.Common.{arith, None, ◌∙◌}
use Rattle.station_search.proofs.PaidSteps.{few_waits}
use Rattle.station_search.proofs.searching_beside.settle.Goals as goal

pub returns-in_ok-publish_branch-in-First-clause-pays : goal.returns-in_ok-publish_branch-in-First-clause-pays
returns-in_ok-publish_branch-in-First-clause-pays g c = λ asked kind line n mode counts.
    (n, (omega arith, c.in_ok-publish_branch-in-First.ensures.pays asked kind line n mode counts))

pub returns-in-Found-clause-pays : goal.returns-in-Found-clause-pays
returns-in-Found-clause-pays g c = λ asked kind line n mode counts. (
  0,
  (
    omega arith,
    few_waits asked kind line c.args.cycle (g.D.Desk.desk c.args.desk.now)
        (g.D.Desk.desk c.look.new.self) 1 c.look.ensures.waits,
  ),
)

pub returns-in-Absent-clause-settles : goal.returns-in-Absent-clause-settles
returns-in-Absent-clause-settles g c = (
  c.look.ensures.waits,
  c.in-Gapped.is,
  λ i. record {
    set = c.args.frame.now.set;
    most = c.args.frame.now.most;
    mode = c.args.frame.now.mode;
    last = None;
    cites = (c.from_vec.ensures ∙ c.new.ensures.items) i;
  },
)
