use Rattle.std.proofs.Common.{◌≡◌, drop}
use Rattle.line_words.specs.Words.{texts}
use Rattle.line_words.specs.Jobs.{name_at}
use Rattle.line_words.proofs.settings.name_at.Given as goal

abbrev pub invariant-loop-i : goal.invariant-loop-i
invariant-loop-i l = name_at (drop l.i (texts l.words)) l.left ≡ name_at (texts l.words) l.place
