use Rattle.std.proofs.Common.{◌≡◌, vec_len}
use Rattle.cert_lines.specs.Pattern.{AreSaid}
use Rattle.cert_lines.specs.ReadingOn.{IsReadOn}
use Rattle.cert_lines.proofs.TextParts.{SoFar}
use Rattle.cert_lines.proofs.pattern.read_lines.Given as goal

abbrev pub invariant-loop : goal.invariant-loop
invariant-loop g l = record {
  many : vec_len l.values ≡ l.counter;
  said : AreSaid (g.P.Pattern.may_say l.pattern) l.counter l.values.items;
  read : g.S.Source.told → SoFar (g.P.Pattern.line_of l.pattern) (g.P.Pattern.may_say l.pattern)
      (g.S.Source.number l.initial.source) (g.S.Source.left l.initial.source) l.values.items (g.S.Source.left l.source)
      (g.S.Source.number l.source);
  source : IsReadOn g.S.Source.base g.S.Source.faults g.S.Source.least l.initial.source l.source;
}
