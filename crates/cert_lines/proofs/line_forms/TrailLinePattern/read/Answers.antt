use Rattle.std.proofs.Common.{◌∙◌, sym, arith, ap, Some, None}
use Rattle.std.proofs.lemmas.Bool.{false≢true}
use Rattle.cert_lines.specs.LineForms.{IsHead}
use Rattle.cert_lines.proofs.JudgedSeat.{trail_none, trail_ok, trail_range}
use Rattle.cert_lines.proofs.line_forms.TrailLinePattern.read.Goals as goal

pub returns-in_default : goal.returns-in_default
returns-in_default c = trail_none c.args.line.now (sym c.in_default.ensures)

pub returns-in_default-head : goal.returns-in_default-head
returns-in_default-head c = (
  tt,
  trail_ok c.args.line.now None
      (sym c.in-Some.ensures ∙ ap (λ h. Some h) c.in_default-head.is) tt,
)

pub returns-then-frames-lt1 : goal.returns-then-frames-lt1
returns-then-frames-lt1 c =
    trail_range c.args.line.now (c.in-Some-head.frames, c.in-Some-head.cycle)
    (sym c.in-Some.ensures ∙ ap (λ h. Some h) c.in-Some-head.is)
    (λ h. absurd (omega (arith, h.0, c.if-frames-lt1.true)))

pub returns-then-frames-gt1024 : goal.returns-then-frames-gt1024
returns-then-frames-gt1024 c =
    trail_range c.args.line.now (c.in-Some-head.frames, c.in-Some-head.cycle)
    (sym c.in-Some.ensures ∙ ap (λ h. Some h) c.in-Some-head.is)
    (λ h. absurd (omega (arith, h.1, c.if-frames-gt1024.true)))

pub returns-then-not-is_cycle : goal.returns-then-not-is_cycle
returns-then-not-is_cycle c =
    trail_range c.args.line.now (c.in-Some-head.frames, c.in-Some-head.cycle)
    (sym c.in-Some.ensures ∙ ap (λ h. Some h) c.in-Some-head.is)
    (λ h. false≢true (sym c.if-not-is_cycle.true ∙ c.is_cycle.ensures.1 h.2))

pub returns : goal.returns
returns c =
    let h : IsHead (Some (c.in-Some-head.frames, c.in-Some-head.cycle)) =
    (c.if-frames-lt1.false, c.if-frames-gt1024.false, c.is_cycle.ensures.0 c.if-not-is_cycle.false) in (
      h,
      trail_ok c.args.line.now (Some (c.in-Some-head.frames, c.in-Some-head.cycle))
          (sym c.in-Some.ensures ∙ ap (λ h. Some h) c.in-Some-head.is) h,
    )
