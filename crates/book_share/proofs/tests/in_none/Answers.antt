use Rattle.std.proofs.Common.{◌<◌, arith}
use Rattle.line_instance.specs.Line.{tasks}
use Rattle.line_rules.specs.declared.types.LineKind.TheVariants.{Straight}
use Rattle.line_rules.proofs.Nonempty.{bound_some}
use Rattle.book_share.proofs.tests.in_none.Goals as goal

pub returns-clause-follows : goal.returns-clause-follows
returns-clause-follows c = λ es.
    let some : 0 < tasks c.args.inst.now = omega (arith, c.tasks-tasks.ensures.line.some) in
    record {
      set = c.all.ensures.set;
      cycle = omega arith;
      by = omega (
        arith,
        bound_some Straight c.args.inst.now 7 c.all.result 0 ((c.all.ensures.members 0).1 some),
      );
    }
