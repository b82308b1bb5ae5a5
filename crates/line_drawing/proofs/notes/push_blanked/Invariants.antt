use Rattle.std.proofs.Common.{◌≡◌, ◌++◌, drop, string_bytes}
use Rattle.line_drawing.specs.Notes.{blanked}
use Rattle.line_drawing.proofs.notes.push_blanked.Given as goal

abbrev pub invariant-loop-number : goal.invariant-loop-number
invariant-loop-number l = string_bytes l.text ++ blanked (drop l.number-index l.numbers) ≡ string_bytes l.fn.text
    ++ blanked l.numbers
