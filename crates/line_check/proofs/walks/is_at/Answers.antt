use Rattle.std.proofs.Common.{◌∙◌, sym, ap}
use Rattle.std.proofs.lemmas.Bool.{false≢true}
use Rattle.line_rules.specs.declared.types.Load.{Load}
use Rattle.line_rules.proofs.NextLoad.{same_pair}
use Rattle.line_check.proofs.walks.is_at.Goals as goal

pub returns-then-not-is_same : goal.returns-then-not-is_same
returns-then-not-is_same c = (
  λ e. absurd (false≢true e),
  λ h.
      absurd (false≢true (sym c.if-not-is_same.true ∙ c.is_same.ensures.1 (ap (λ (l : Load). l.front) h))),
)

pub returns : goal.returns
returns c = (
  λ e. same_pair c.args.walk.now.front.tasks c.args.load.now.front c.args.walk.now.back.tasks c.args.load.now.back
      (c.is_same.ensures.0 c.if-not-is_same.false) (c.is_same-2.ensures.0 e),
  λ h. c.is_same-2.ensures.1 (ap (λ (l : Load). l.back) h),
)
