use Rattle.std.proofs.Common.{◌≡◌, length}
use Rattle.line_words.specs.Words.{all_letters}
use Rattle.line_words.proofs.word.all_letters.Given as goal

abbrev pub decreases-loop-left : goal.decreases-loop-left
decreases-loop-left l = length l.left

abbrev pub invariant-loop-left : goal.invariant-loop-left
invariant-loop-left l = all_letters l.left ≡ all_letters l.bytes
