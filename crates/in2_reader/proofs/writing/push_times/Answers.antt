use Rattle.std.proofs.Common.{arith, string_bytes, ap, sym}
use Rattle.in2_reader.specs.Written.{number_line}
use Rattle.line_io.proofs.PrintedItems.{next_written}
use Rattle.in2_reader.proofs.writing.push_times.Goals as goal

pub loop-i-preserved : goal.loop-i-preserved
loop-i-preserved c =
    next_written number_line c.args.inst.now.times c.loop-i.i 0 (string_bytes c.args.text.now)
    (string_bytes c.loop-i.text) (string_bytes c.writeln.new.self) _ (omega (arith, c.tasks-i-end.ensures.tasks))
    (ap number_line (sym c.time-time.ensures.time)) c.loop-i.invariant c.in_ok-writeln.ensures.bytes
