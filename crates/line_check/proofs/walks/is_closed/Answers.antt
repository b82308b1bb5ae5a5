use Rattle.std.proofs.Common.{◌≡◌, ◌+◌, ◌-◌, List, Bool, sym, ap, ◌∙◌, subst, arith}
use Rattle.line_instance.specs.Truths.{IsSubset}
use Rattle.line_instance.specs.Line.{has}
use Rattle.line_instance.specs.Sums.{sum_where}
use Rattle.line_rules.specs.Loads.{rest, taken}
use Rattle.line_rules.specs.declared.types.Load.{Load}
use Rattle.line_rules.proofs.ChainFacts.{chained_within}
use Rattle.line_rules.proofs.Paths.{rest_inside}
use Rattle.check_loads.specs.Standing.{stand}
use Rattle.line_rules.proofs.Rest.{rest_sum}
use Rattle.line_check.proofs.walks.is_closed.Goals as goal

pub overflow_sub-times : goal.overflow_sub-times
overflow_sub-times c = omega (
  arith,
  c.requires.posed.times.total,
  c.requires.walk.sum,
  rest_sum c.args.inst.now c.args.q.now.set (stand c.args.walk.now) (c.requires.walk.load c.requires.given).within,
)

pub exceeds_of-requires-clause-set : goal.exceeds_of-requires-clause-set
exceeds_of-requires-clause-set c =
    let is : c.rest-left.result ≡ rest c.args.q.now.set (stand c.args.walk.now) =
    c.rest-left.ensures.rest ∙ ap (λ (l : Load). rest c.args.q.now.set l) c.load.ensures in
    record {
      truths = c.rest-left.ensures.truths;
      tasks = λ i m. c.requires.posed.set.tasks i (rest_inside c.args.q.now.set (stand c.args.walk.now) i
          (ap (λ s. has s i) (sym is) ∙ m));
    }

pub exceeds_of-requires-clause-times : goal.exceeds_of-requires-clause-times
exceeds_of-requires-clause-times c =
    let is : c.rest-left.result ≡ rest c.args.q.now.set (stand c.args.walk.now) =
    c.rest-left.ensures.rest ∙ ap (λ (l : Load). rest c.args.q.now.set l) c.load.ensures in
    let sum : sum_where (has c.rest-left.result) c.args.inst.now.times
    ≡ sum_where (has (rest c.args.q.now.set (stand c.args.walk.now))) c.args.inst.now.times =
    ap (λ (s : List Bool). sum_where (has s) c.args.inst.now.times) is in
    let left : sum_where (has c.args.q.now.set) c.args.inst.now.times
    ≡ sum_where (has (taken (stand c.args.walk.now))) c.args.inst.now.times + sum_where
    (has (rest c.args.q.now.set (stand c.args.walk.now))) c.args.inst.now.times =
    rest_sum c.args.inst.now c.args.q.now.set (stand c.args.walk.now) (c.requires.walk.load c.requires.given).within in
    record {
      total = omega (arith, sum, left, c.requires.posed.times.total, c.requires.walk.sum);
      total_limit = omega (arith, c.requires.posed.times.total_limit);
      longest = λ i m. c.requires.posed.times.longest i (rest_inside c.args.q.now.set (stand c.args.walk.now) i
          (ap (λ s. has s i) (sym is) ∙ m));
      longest_limit = c.requires.posed.times.longest_limit;
    }

pub exceeds_of-requires-clause-chained : goal.exceeds_of-requires-clause-chained
exceeds_of-requires-clause-chained c =
    let is : c.rest-left.result ≡ rest c.args.q.now.set (stand c.args.walk.now) =
    c.rest-left.ensures.rest ∙ ap (λ (l : Load). rest c.args.q.now.set l) c.load.ensures in
    let P : List Bool → Type 0 = λ s. IsSubset s c.args.q.now.set in
    λ j h. c.requires.chained j (chained_within c.args.inst.now c.args.q.now.cycle c.requires.posed.cycle.some
    c.rest-left.result c.args.q.now.set (subst P (sym is) (rest_inside c.args.q.now.set (stand c.args.walk.now))) j
    c.args.q.now.kind (c.args.q.now.most - 1) h)
