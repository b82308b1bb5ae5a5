use Rattle.std.proofs.Common.{◌-◌, ◌∙◌, sym, arith}
use Rattle.line_instance.specs.inner.Words.{equal_sets}
use Rattle.effic_search.proofs.counting.ends_with_all.Goals as goal

pub returns : goal.returns
returns c = λ t. record {
  before = c.len-count.result - 1;
  entry = c.at.result.now;
  last = omega (arith, c.len-count.ensures, c.if-count-eq0.false);
  there = c.at.ensures;
  same = (equal_sets c.at.result.now.set c.all.result).0 (sym c.eq.ensures ∙ t) ∙ c.all.ensures.value;
}
