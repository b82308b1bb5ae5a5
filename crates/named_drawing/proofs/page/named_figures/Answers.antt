use Rattle.std.proofs.Common.{ap, arith}
use Rattle.line_instance.specs.Line.{has}
use Rattle.line_instance.specs.Sums.{sum_where}
use Rattle.line_drawing.proofs.NumberFacts.{has_room}
use Rattle.named_drawing.proofs.page.named_figures.Goals as goal

pub returns-clause-figures : goal.returns-clause-figures
returns-clause-figures c =
    let line = c.args.inst.now in
    record {
      some = c.requires.range.some;
      few = c.requires.range.few;
      cycle = c.requires.cycle.some;
      limit = c.requires.cycle.limit;
      room = omega (
        arith,
        c.sum.ensures.sum,
        ap (λ s. sum_where (has s) line.times) c.all.ensures.value,
        has_room line c.args.kind c.args.cycle c.args.balance.now c.requires.right,
      );
      column = c.column_of.ensures.limit;
      notes = c.room_for.ensures.limit;
    }
