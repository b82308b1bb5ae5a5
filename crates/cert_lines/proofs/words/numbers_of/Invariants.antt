use Rattle.std.proofs.Common.{◌≡◌, length}
use Rattle.cert_lines.specs.Words.{numbers_in, pieces_at}
use Rattle.cert_lines.proofs.Lists.{behind}
use Rattle.cert_lines.proofs.words.numbers_of.Given as goal

abbrev pub decreases-loop-piece : goal.decreases-loop-piece
decreases-loop-piece l = length l.left

abbrev pub invariant-loop-piece : goal.invariant-loop-piece
invariant-loop-piece l = behind l.cites (numbers_in (pieces_at 44 l.left)) ≡ numbers_in (pieces_at 44 l.word)
