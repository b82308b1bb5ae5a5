use Rattle.std.proofs.Common.{◌≡◌, ◌++◌, drop}
use Rattle.command_sequence.specs.SequenceText.{names_text}
use Rattle.command_sequence.proofs.print_sequence.push_names.Given as goal

abbrev pub invariant-loop-k : goal.invariant-loop-k
invariant-loop-k l = l.text.items ++ names_text l.mix.models (drop l.k l.units) ≡ l.fn.text.items
    ++ names_text l.mix.models l.units
