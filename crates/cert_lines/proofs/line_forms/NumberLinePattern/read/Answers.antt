use Rattle.std.proofs.Common.{◌∙◌, ◌<◌, sym, ap, arith}
use Rattle.cert_lines.specs.inner.LineReading.{keyed_in}
use Rattle.cert_lines.specs.Words.{greatest}
use Rattle.cert_lines.specs.LineForms.{key_text}
use Rattle.cert_lines.proofs.JudgedLine.{number_form, number_range, keyed_line, key_lacks}
use Rattle.cert_lines.proofs.line_forms.NumberLinePattern.read.Goals as goal

pub returns-in_default : goal.returns-in_default
returns-in_default c =
    number_form (key_text c.args.self.now.key) c.args.self.now.low c.args.self.now.high c.args.line.now
    (key_lacks c.args.self.now.key)
    (ap (λ k. keyed_in k c.args.line.now) (sym c.text.ensures) ∙ sym c.in_default.ensures)

pub returns-then-value-self : goal.returns-then-value-self
returns-then-value-self c =
    number_range (key_text c.args.self.now.key) c.args.self.now.low c.args.self.now.high c.args.line.now c.in-Some.value
    (key_lacks c.args.self.now.key) c.requires.0 c.requires.1
    (ap (λ k. keyed_in k c.args.line.now) (sym c.text.ensures) ∙ sym c.in-Some.ensures)
    (λ h. absurd (omega (arith, h.0, c.if-value-self.true)))

pub returns-then-value-self-2 : goal.returns-then-value-self-2
returns-then-value-self-2 c =
    number_range (key_text c.args.self.now.key) c.args.self.now.low c.args.self.now.high c.args.line.now c.in-Some.value
    (key_lacks c.args.self.now.key) c.requires.0 c.requires.1
    (ap (λ k. keyed_in k c.args.line.now) (sym c.text.ensures) ∙ sym c.in-Some.ensures)
    (λ h. absurd (omega (arith, h.1, c.if-value-self-2.true)))

pub returns : goal.returns
returns c =
    let l : c.in-Some.value < greatest = omega (arith, c.requires.1, c.if-value-self-2.false) in (
      (c.if-value-self.false, c.if-value-self-2.false),
      keyed_line (key_text c.args.self.now.key) c.args.line.now c.in-Some.value
          (ap (λ k. keyed_in k c.args.line.now) (sym c.text.ensures) ∙ sym c.in-Some.ensures) l,
    )
