use Rattle.std.proofs.Common.{◌∙◌, sym, refl, arith, subst, []}
use Rattle.cert_lines.specs.Taking.{IsTaken}
use Rattle.cert_lines.proofs.TextParts.{one_ends, line_error, error_is, one_said}
use Rattle.cert_lines.proofs.pattern.read_line.Goals as goal

pub returns-in-End-clause-read : goal.returns-in-End-clause-read
returns-in-End-clause-read g c t =
    one_ends (g.P.Pattern.line_of c.args.pattern.now) (g.P.Pattern.may_say c.args.pattern.now) c.requires.some.0
    (g.S.Source.number c.args.source.now) c.number.result (g.S.Source.left c.args.source.now)
    c.requires.some.1 (c.in-End.ensures.end t refl) (c.number.ensures ∙ c.in-End.ensures.last refl)

pub returns-in-Err-clause-read : goal.returns-in-Err-clause-read
returns-in-Err-clause-read g c t =
    let T : _ → Type 0 = λ line. IsTaken (g.S.Source.left c.args.source.now) line
    (g.S.Source.left c.advance.new.self) in
    error_is _ _ 0 _ [] c.numbered.result _ c.numbered.ensures
    (line_error (g.P.Pattern.line_of c.args.pattern.now) (g.P.Pattern.may_say c.args.pattern.now) c.requires.some.0
    (g.S.Source.number c.args.source.now) c.number-in-Err.result 0 (g.S.Source.left c.args.source.now)
    c.line.result.now
    (g.S.Source.left c.advance.new.self) [] c.in-Err.error c.requires.some.1
    (subst T (sym c.line.ensures) (c.in-Line.ensures.line t refl))
    (c.number-in-Err.ensures ∙ c.in-Line.ensures.count refl) c.in-Err.ensures)

pub returns-in-Ok-clause-read : goal.returns-in-Ok-clause-read
returns-in-Ok-clause-read g c t = (
  c.in-Ok.ensures.0,
  one_said (g.P.Pattern.line_of c.args.pattern.now c.in-Ok.value) (g.S.Source.left c.args.source.now)
      (g.S.Source.line c.advance.new.self) (g.S.Source.left c.advance.new.self) (c.in-Line.ensures.line t refl)
      (c.in-Ok.ensures.1 ∙ c.line.ensures),
  c.in-Line.ensures.count refl ∙ omega arith,
)
