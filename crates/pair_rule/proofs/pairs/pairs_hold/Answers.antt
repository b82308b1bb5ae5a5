use Rattle.std.proofs.Common.{◌≡◌, ◌*◌, ◌+◌, ap, arith}
use Rattle.std.proofs.lemmas.Bool.{lt-ltb, ltb-true}
use Rattle.line_instance.specs.Truths.{count}
use Rattle.line_rules.proofs.PairGrowth.{one_set}
use Rattle.pair_rule.proofs.pairs.pairs_hold.Goals as goal

pub returns : goal.returns
returns c = (
  λ t. record {
    truths = c.capacity-truths.ensures.truths;
    within = c.is_subset.ensures.0 c.if-not-is_subset.false;
    conflict = c.each_two_conflict.ensures.0 c.if-not-each_two_conflict.false;
    one = c.ones-one.result;
    ones = c.ones-one.ensures;
    exceeds = omega (
      arith,
      ltb-true (2 * c.from-3.result) (2 * c.from.result + c.from-2.result) t,
      c.from.ensures,
      c.from-2.ensures,
      c.from-3.ensures,
      c.count.ensures.value,
      c.count-2.ensures.value,
    );
  },
  λ h. lt-ltb (2 * c.from-3.result) (2 * c.from.result + c.from-2.result)
      (let e = one_set _ _ _ _ _ h.one c.ones-one.result h.ones c.ones-one.ensures in
      let f : count h.one ≡ count c.ones-one.result = ap count e in
      omega (
        arith,
        h.exceeds,
        f,
        c.from.ensures,
        c.from-2.ensures,
        c.from-3.ensures,
        c.count.ensures.value,
        c.count-2.ensures.value,
      )),
)
