use Rattle.std.proofs.Common.{◌≡◌, map, drop}
use Rattle.line_words.specs.Words.{texts}
use Rattle.line_words.specs.Table.{sets_all}
use Rattle.line_words.proofs.word.sets_all.Given as goal

abbrev pub invariant-loop-i : goal.invariant-loop-i
invariant-loop-i l = sets_all (texts l.words) (drop l.i (map (λ k. k.now) l.keys))
    ≡ sets_all (texts l.words) (map (λ k. k.now) l.keys)
