-- What a load of a set leaves: its total time, and the bound where that is long.
use Rattle.std.proofs.Common.{◌≡◌, ℕ, ◌+◌, ◌-◌, ◌*◌, ◌<◌, ◌≤◌, Bool, true, false, ◌&&◌, not, List, get_or, refl, sym}
use Rattle.std.proofs.Common.{ap, ◌∙◌, arith}
use Rattle.std.proofs.lemmas.Bool.{false≢true, and_parts, and_from, false_from_ne_true}
use Rattle.line_instance.specs.Truths.{In, IsEmpty, IsSubset}
use Rattle.line_instance.proofs.Members.{In-minus, In-minus_parts}
use Rattle.line_instance.specs.Line.{Line, has}
use Rattle.line_instance.specs.Sums.{sum_where}
use Rattle.line_instance.proofs.Sums.{weigh-split, weigh-same, weigh-none, same_truth}
use Rattle.line_rules.specs.Loads.{rest, taken}
use Rattle.line_rules.specs.Bounds.{up, lm1, bound}
use Rattle.line_rules.specs.declared.types.LineKind.{LineKind}
use Rattle.line_rules.specs.declared.types.Load.{Load}
use Rattle.line_rules.proofs.BoundCases.{below_bound}

-- the tasks of R are those of the load and those of its rest
pub rest_sum : (line : Line) (R : List Bool) (l : Load) → IsSubset (taken l) R
    → sum_where (has R) line.times ≡ sum_where (has (taken l)) line.times + sum_where (has (rest R l)) line.times
rest_sum line R l within =
    let here : sum_where (λ i. has R i && has (taken l) i) line.times ≡ sum_where (has (taken l)) line.times =
    weigh-same (λ t. t) (λ i. has R i && has (taken l) i) (has (taken l))
    (λ i. same_truth (has R i && has (taken l) i) (has (taken l) i)
    (λ e. (and_parts (has R i) (has (taken l) i) e).1) (λ m. and_from (has R i) (has (taken l) i) (within i m) m))
    line.times in
    let there : sum_where (λ i. has R i && not (has (taken l) i)) line.times ≡ sum_where (has (rest R l)) line.times =
    weigh-same (λ t. t) (λ i. has R i && not (has (taken l) i)) (has (rest R l))
    (λ i. same_truth (has R i && not (has (taken l) i)) (has (rest R l) i)
    (λ e. let q : In R i × (not (has (taken l) i) ≡ true) = and_parts (has R i) (not (has (taken l) i)) e in
    In-minus R (taken l) i q.0 (false_from_ne_true (has (taken l) i) (λ m. false≢true (sym (ap not m) ∙ q.1))))
    (λ m. let q : In R i × (get_or (taken l) i false ≡ false) = In-minus_parts R (taken l) i m in
    and_from (has R i) (not (has (taken l) i)) q.0 (ap not q.1))) line.times in
    omega (arith, here, there, weigh-split (λ t. t) (has R) (has (taken l)) line.times)

-- a set with a time has a task
some_time : (line : Line) (T : List Bool) → 0 < sum_where (has T) line.times → IsEmpty T → ⊥
some_time line T l none = omega (
  arith,
  l,
  weigh-none (λ t. t) (has T) (λ i. false_from_ne_true (has T i) (none i))
      line.times,
)

lm1_is : (line : Line) (c : ℕ) (T : List Bool) → lm1 line c T ≡ up (sum_where (has T) line.times) c
unfolding lm1
lm1_is line c T = refl

more_cycles : (t c r : ℕ) → 1 ≤ c → r * c < t → r < up t c
more_cycles t c r o l = grind arith

-- where the total time takes more than r cycles, so does the bound
pub long_rest : (kind : LineKind) (line : Line) (c : ℕ) (T : List Bool) (most : ℕ) → 1 ≤ c → 1 ≤ most → most ≤ 1025
    → (most - 1) * c < sum_where (has T) line.times → most ≤ bound kind line c T
long_rest kind line c T most o some few l =
    let e : lm1 line c T ≡ up (sum_where (has T) line.times) c = lm1_is line c T in
    let more : most - 1 < lm1 line c T = omega (
      arith,
      e,
      more_cycles (sum_where (has T) line.times) c (most - 1) o
          l,
    ) in
    omega (
      arith,
      some,
      below_bound kind line c T (some_time line T (omega (arith, l))) (most - 1)
          (omega (arith, some, few)) (λ z. omega (arith, more)),
    )
