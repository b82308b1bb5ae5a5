use Rattle.std.proofs.Common.{arith, string_bytes}
use Rattle.in2_reader.specs.Written.{pair_line}
use Rattle.line_io.proofs.PrintedItems.{next_written}
use Rattle.in2_reader.proofs.Lines.{pair_part}
use Rattle.in2_reader.proofs.writing.push_pairs.Goals as goal

pub loop-pair-preserved : goal.loop-pair-preserved
loop-pair-preserved c =
    next_written pair_line c.args.pairs.now c.loop-pair.pair-index (record { first = 0; «then» = 0 })
    (string_bytes c.args.text.now) (string_bytes c.loop-pair.text) (string_bytes c.writeln.new.self) _ (omega arith)
    (pair_part _ c.from.result c.from-in-loop-pair.result c.from.ensures c.from-in-loop-pair.ensures)
    c.loop-pair.invariant c.in_ok-writeln.ensures.bytes
