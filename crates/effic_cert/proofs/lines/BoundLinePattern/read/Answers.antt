use Rattle.std.proofs.Common.{◌∙◌, sym, ap, arith}
use Rattle.line_rules.specs.Products.{IsProduct}
use Rattle.effic_cert.specs.inner.Parts.{bound_text}
use Rattle.effic_cert.specs.inner.WideReading.{wide_keyed_in}
use Rattle.effic_cert.proofs.LineFacts.{bound_lacks, bound_none, bound_ok, bound_range}
use Rattle.effic_cert.proofs.lines.BoundLinePattern.read.Goals as goal

pub returns-in_default : goal.returns-in_default
returns-in_default c =
    bound_none (bound_text c.args.self.now.bound) (bound_lacks c.args.self.now.bound) c.args.line.now
    (ap (λ k. wide_keyed_in k c.args.line.now) (sym c.text.ensures) ∙ sym c.in_default.ensures)

pub returns-then-value-lt1 : goal.returns-then-value-lt1
returns-then-value-lt1 c =
    bound_range (bound_text c.args.self.now.bound) (bound_lacks c.args.self.now.bound) c.args.line.now c.in-Some.value
    (ap (λ k. wide_keyed_in k c.args.line.now) (sym c.text.ensures) ∙ sym c.in-Some.ensures)
    (λ h. absurd (omega (arith, h.some, c.if-value-lt1.true)))

pub returns-then-value-gt-MAX_PRODUCT : goal.returns-then-value-gt-MAX_PRODUCT
returns-then-value-gt-MAX_PRODUCT c =
    bound_range (bound_text c.args.self.now.bound) (bound_lacks c.args.self.now.bound) c.args.line.now c.in-Some.value
    (ap (λ k. wide_keyed_in k c.args.line.now) (sym c.text.ensures) ∙ sym c.in-Some.ensures)
    (λ h. absurd (omega (arith, h.limit, c.if-value-gt-MAX_PRODUCT.true)))

pub returns : goal.returns
returns c =
    let r : IsProduct c.in-Some.value = record { some = c.if-value-lt1.false; limit = c.if-value-gt-MAX_PRODUCT.false }
    in (
      r,
      bound_ok (bound_text c.args.self.now.bound) (bound_lacks c.args.self.now.bound) c.args.line.now c.in-Some.value
          (ap (λ k. wide_keyed_in k c.args.line.now) (sym c.text.ensures) ∙ sym c.in-Some.ensures) r,
    )
