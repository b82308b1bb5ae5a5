use Rattle.std.proofs.Common.{◌∙◌, sym}
use Rattle.line_rules.specs.lines.inner.Words.{equal_sets}
use Rattle.entry_lists.proofs.trimming.is_same.Goals as goal

pub returns : goal.returns
returns c = (
  λ t. (equal_sets c.args.set.now c.args.other.now).0 (sym c.eq.ensures ∙ t),
  λ h. c.eq.ensures
      ∙ (equal_sets c.args.set.now c.args.other.now).1 h,
)
