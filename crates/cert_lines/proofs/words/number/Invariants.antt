use Rattle.std.proofs.Common.{◌≡◌, drop, take, min}
use Rattle.line_io.specs.Lines.{all_digits, value_of}
use Rattle.cert_lines.specs.Words.{greatest}
use Rattle.cert_lines.proofs.words.number.Given as goal

abbrev pub invariant-loop-b : goal.invariant-loop-b
invariant-loop-b l = record {
  digits : all_digits (drop l.b-index l.word) ≡ all_digits l.word;
  value : l.value ≡ min (value_of (take l.b-index l.word)) greatest;
}
