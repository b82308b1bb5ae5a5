use Rattle.std.proofs.Common.{◌≡◌, ◌+◌, ◌++◌, drop, string_bytes}
use Rattle.command_mix.specs.Utility.{utility_lines}
use Rattle.command_mix.proofs.utility.push_lines.Given as goal

abbrev pub invariant-loop-k : goal.invariant-loop-k
invariant-loop-k l = string_bytes l.text ++ utility_lines (l.k + 1) (drop l.k l.per) ≡ string_bytes l.fn.text
    ++ utility_lines 1 l.per
