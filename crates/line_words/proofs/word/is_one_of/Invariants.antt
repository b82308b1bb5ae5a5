use Rattle.std.proofs.Common.{◌≡◌, map, drop}
use Rattle.line_words.specs.Table.{one_of}
use Rattle.line_words.proofs.word.is_one_of.Given as goal

abbrev pub invariant-loop-i : goal.invariant-loop-i
invariant-loop-i l = one_of l.key (drop l.i (map (λ k. k.now) l.keys)) ≡ one_of l.key (map (λ k. k.now) l.keys)
