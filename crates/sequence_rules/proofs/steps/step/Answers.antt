use Rattle.std.proofs.Common.{◌≡◌, ◌≤◌, ℕ, set, get_or, arith, ◌∙◌, ap, inl, inr}
use Rattle.std.proofs.lemmas.Bool.{cases_eq}
use Rattle.std.proofs.lemmas.List.{length-set, get_or-set_same, get_or-set_other, get_or_default}
use Rattle.utility_work.specs.Utility.{utility_of, next_start}
use Rattle.utility_work.proofs.WorkSteps.{one_value}
use Rattle.sequence_rules.specs.States.{unit_work}
use Rattle.sequence_rules.proofs.SumFacts.{sum_more, values_are}
use Rattle.sequence_rules.proofs.steps.step.Goals as goal

pub loop-k-preserved : goal.loop-k-preserved
loop-k-preserved c =
    let t = c.args.times.now in
    let f : ℕ → ℕ → ℕ = λ k s. utility_of s (unit_work c.args.times.now c.args.model k) c.args.reach in
    let more = sum_more f c.args.starts.now c.loop-k.k (omega arith) in
    let begun : get_or c.args.starts.now c.loop-k.k 0 ≤ 1000000000 = c.requires.starts c.loop-k.k 0 (omega arith) in
    let over : c.utility_step-over.result.0 ≡ f c.loop-k.k (get_or c.args.starts.now c.loop-k.k 0) =
    c.utility_step-over.ensures.utility ∙ ap (λ w. utility_of (get_or c.args.starts.now c.loop-k.k 0) w c.args.reach)
    c.unit_work.ensures.work in
    let after : c.utility_step-over.result.1 ≡ next_start (get_or c.args.starts.now c.loop-k.k 0)
    (unit_work c.args.times.now c.args.model c.loop-k.k) c.args.reach c.args.interval =
    c.utility_step-over.ensures.next ∙ ap (λ w. next_start (get_or c.args.starts.now c.loop-k.k 0) w c.args.reach
    c.args.interval) c.unit_work.ensures.work in
    record {
      cost = omega (arith, c.loop-k.invariant.cost, more, over);
      limit = omega (
        arith,
        c.loop-k.invariant.limit,
        begun,
        c.utility_step-over.ensures.utility,
        c.unit_work.ensures.limit,
      );
      wide = length-set c.loop-k.next c.loop-k.k c.utility_step-over.result.1 ∙ c.loop-k.invariant.wide;
      next = one_value (λ j. next_start (get_or c.args.starts.now j 0) (unit_work c.args.times.now c.args.model j)
          c.args.reach c.args.interval) c.loop-k.next c.loop-k.k c.utility_step-over.result.1
          (omega (arith, c.loop-k.invariant.wide)) after c.loop-k.invariant.next;
      within = λ j l. elim (cases_eq j c.loop-k.k) [
        | inl e ↦ omega (
          arith,
          ap (λ i. get_or (set c.loop-k.next c.loop-k.k c.utility_step-over.result.1) i 0) e,
          get_or-set_same c.loop-k.next c.loop-k.k c.utility_step-over.result.1 0
              (omega (arith, c.loop-k.invariant.wide)),
          c.utility_step-over.ensures.within,
        )
        | inr n ↦ omega (
          arith,
          get_or-set_other c.loop-k.next c.loop-k.k j c.utility_step-over.result.1 0 n,
          c.loop-k.invariant.within j (omega (arith, l, n)),
        )
      ];
    }

pub returns-clause-next : goal.returns-clause-next
returns-clause-next c =
    values_are (λ j s. next_start s (unit_work c.args.times.now c.args.model j) c.args.reach c.args.interval)
    c.args.starts.now c.loop-k.next (omega (arith, c.loop-k.invariant.wide, c.requires.stations))
    (λ j l. c.loop-k.invariant.next j (omega (arith, l, c.loop-k-test.false)))

pub returns-clause-within : goal.returns-clause-within
returns-clause-within c = λ j d l. omega (
  arith,
  get_or_default c.loop-k.next j d 0 l,
  c.loop-k.invariant.within j (omega (arith, l, c.loop-k.invariant.wide, c.requires.stations, c.loop-k-test.false)),
)
