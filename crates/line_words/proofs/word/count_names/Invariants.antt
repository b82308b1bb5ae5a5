use Rattle.std.proofs.Common.{◌≡◌, ◌≤◌, ◌+◌, length, drop}
use Rattle.line_words.specs.Words.{names_of, texts}
use Rattle.line_words.proofs.word.count_names.Given as goal

abbrev pub invariant-loop-i : goal.invariant-loop-i
invariant-loop-i l = (l.names + length (names_of (drop l.i (texts l.words))) ≡ length (names_of (texts l.words)))
    × (l.names ≤ l.i)
