use Rattle.std.proofs.Common.{◌≡◌, drop}
use Rattle.line_words.specs.Words.{value_of, texts}
use Rattle.line_words.proofs.word.value_of.Given as goal

abbrev pub invariant-loop-i : goal.invariant-loop-i
invariant-loop-i l = value_of (drop l.i (texts l.words)) l.key ≡ value_of (texts l.words) l.key
