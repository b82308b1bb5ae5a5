use Rattle.std.proofs.Common.{◌≡◌, ◌++◌, drop, map}
use Rattle.command_outcome.specs.Print.{printed_byte}
use Rattle.command_outcome.proofs.print.push_printed.Given as goal

abbrev pub invariant-loop-byte : goal.invariant-loop-byte
invariant-loop-byte l = l.text.items ++ map printed_byte (drop l.byte-index l.byte-items) ≡ l.fn.text.items
    ++ map printed_byte l.byte-items
