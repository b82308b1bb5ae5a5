use Rattle.std.proofs.Common.{◌≡◌, drop, replicate, false}
use Rattle.cert_lines.specs.Words.{are_digits, with_digits}
use Rattle.cert_lines.proofs.words.set_of.Given as goal

abbrev pub invariant-loop-k : goal.invariant-loop-k
invariant-loop-k l = record {
  digits : are_digits l.tasks l.k (drop l.k l.word) ≡ are_digits l.tasks 0 l.word;
  set : with_digits l.set l.k (drop l.k l.word) ≡ with_digits (replicate 1024 false) 0 l.word;
}
