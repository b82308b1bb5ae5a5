-- A pass, place by place: costs of units, and values of nodes.
use Rattle.std.proofs.Common.{◌≡◌, ℕ, suc, ◌+◌, ◌-◌, ◌*◌, ◌/◌, ◌%◌, ◌<◌, ◌≤◌, List, [], ◌∷◌, ◌++◌, length, get_or, min}
use Rattle.std.proofs.Common.{replicate, refl, sym, ap, ◌∙◌, subst, inl, inr, arith, add-one, length-append, sum}
use Rattle.std.specs.Prelude.{All}
use Rattle.std.proofs.lemmas.Bool.{cases_lt}
use Rattle.std.proofs.lemmas.Option.{slice_get_within}
use Rattle.std.proofs.lemmas.List.{length-replicate, get_or_append_left, get_or_push, get_or_default, get_or-replicate}
use Rattle.std.proofs.lemmas.Nat.{div-mul-add, mod-mul-add, div-add-mod', mod_below, div_below, le-div}
use Rattle.std.proofs.Math.Nat.{mul-le-mul_left}
use Rattle.sequence_rules.specs.States.{root_starts}
use Rattle.sequence_rules.specs.Charges.{AreCharges, HoldsCharged, unit_cost}
use Rattle.sequence_table.specs.Nodes.{Nodes, starts_of, next_of}
use Rattle.sequence_table.specs.Tables.{IsTable}
use Rattle.sequence_table.specs.Values.{least_to, value_of, told, IsToldOf, AreBelow}
use Rattle.sequence_table.specs.inner.Kept.{values_of}
use Rattle.sequence_table.specs.inner.Levels.{AreCostsTo, AreCosts, AreValuesTo}
use Rattle.sequence_table.proofs.ValueFacts.{least_same, value_limit, value_holds}

-- one value more among those that are taken for the least
pub least_more : (f : ℕ → ℕ) (k least value : ℕ) → least ≡ least_to f k → value ≡ f (k + 1)
    → min least value ≡ least_to f (k + 1)
least_more f k least value l v =
    ap (λ a. min a value) l ∙ ap (λ a. min (least_to f k) a) (v ∙ ap f (add-one k))
    ∙ ap (λ n. least_to f n) (sym (add-one k))

-- what holds of each place holds with one more
each_more : (P : ℕ → ℕ → Type 0) (xs : List ℕ) (x n : ℕ) → length xs ≡ n → P n x
    → ((p : ℕ) → p < n → P p (get_or xs p 0)) → (p : ℕ) → p < n + 1 → P p (get_or (xs ++ x ∷ []) p 0)
each_more P xs x n many here h p l = elim (cases_lt p n) [
  | inl below ↦
      let at : get_or (xs ++ x ∷ []) p 0 ≡ get_or xs p 0 =
      get_or_append_left xs (x ∷ []) 0 p (omega (arith, many, below)) in
      subst (λ (v : ℕ). P p v) (sym at) (h p below)
  | inr above ↦
      let is : n ≡ p = omega (arith, l, above) in
      let at : get_or (xs ++ x ∷ []) p 0 ≡ x = get_or_push xs x 0 p (omega (arith, many, is)) in
      subst (λ (v : ℕ). P p v) (sym at) (subst (λ (i : ℕ). P i x) is here)
]

-- what holds of each number of a list holds with one more
all_more : (most : ℕ) (xs : List ℕ) (x : ℕ) → x < most → All (λ v. v < most) xs → All (λ v. v < most) (xs ++ x ∷ [])
all_more most xs x l h = λ p d g.
    let many : length (xs ++ x ∷ []) ≡ length xs + 1 = length-append xs (x ∷ []) in
    omega (
      arith,
      get_or_default (xs ++ x ∷ []) p d 0 g,
      each_more (λ q v. v < most) xs x (length xs) refl l (λ q m. h q 0 m) p (omega (arith, g, many)),
    )

pub costs_none : (t : Nodes) (charges : List ℕ) → AreCostsTo t charges [] 0
costs_none t charges = record {
  many = refl;
  dear = λ p d l. absurd (omega (arith, l));
  each = λ p l. absurd (omega (arith, l));
}

pub costs_more : (t : Nodes) (charges costs : List ℕ) (n cost : ℕ) → AreCostsTo t charges costs n
    → cost ≡ unit_cost t.times t.reach charges (starts_of t (n / length t.times.demands)) (n % length t.times.demands)
    → cost ≤ 740000000000000 → AreCostsTo t charges (costs ++ cost ∷ []) (n + 1)
costs_more t charges costs n cost h is limit = record {
  many = omega (arith, length-append costs (cost ∷ []), h.many);
  dear = λ p d g.
      let many : length (costs ++ cost ∷ []) ≡ length costs + 1 = length-append costs (cost ∷ []) in
      omega (
        arith,
        get_or_default (costs ++ cost ∷ []) p d 0 g,
        each_more (λ q v. v ≤ 740000000000000) costs cost (length costs) refl limit (λ q m. h.dear q 0 m) p
            (omega (arith, g, many)),
      );
  each = each_more (λ p v. v
      ≡ unit_cost t.times t.reach charges (starts_of t (p / length t.times.demands)) (p % length t.times.demands))
      costs cost n h.many is h.each;
}

-- the values with none left
pub values_none : (t : Nodes) (charges : List ℕ) (n : ℕ) → n ≡ length t.starts
    → AreValuesTo t charges (replicate n 0) n
values_none t charges n e = record {
  many = length-replicate {A = ℕ} n 0;
  each = λ p l.
      let none : p / length t.starts ≡ 0 =
      omega (arith, div_below p (length t.starts) 1 (omega (arith, l, e)) (omega (arith, l, e))) in
      get_or-replicate n p 0 0 l ∙ sym (ap (λ k. value_of t charges k (p % length t.starts)) none);
}

pub limit_none : (n : ℕ) → All (λ v. v < 1000000000000000000) (replicate n 0)
limit_none n = λ k d l. omega (
  arith,
  get_or_default (replicate n 0) k d 0 l,
  get_or-replicate {A = ℕ} n k 0 0 (omega (arith, l, length-replicate {A = ℕ} n 0)),
)

-- a place in a row is within all rows
in_rows : (x m n k : ℕ) → x < n → m < k → x * k + m < n * k
in_rows x m n k l h =
    let more : suc x ≤ n = omega (arith, l) in
    omega (arith, h, mul-le-mul_left k more)

-- the cost of a unit of a model from a node
unit_at : (t : Nodes) (charges costs : List ℕ) (x m : ℕ) → AreCosts t charges costs → x < length t.starts
    → m < length t.times.demands → get_or costs (x * length t.times.demands + m) 0
    ≡ unit_cost t.times t.reach charges (starts_of t x) m
unit_at t charges costs x m h l n =
    let k : ℕ = length t.times.demands in
    let p : ℕ = x * k + m in
    h.each p (in_rows x m (length t.starts) k l n)
    ∙ ap (λ a. unit_cost t.times t.reach charges (starts_of t a) (p % k)) (div-mul-add x k m n)
    ∙ ap (λ b. unit_cost t.times t.reach charges (starts_of t x) b) (mod-mul-add x k m n)

-- the value of a node
value_at : (t : Nodes) (charges all : List ℕ) (i j y : ℕ) → AreValuesTo t charges all i → y < length t.starts
    → j * length t.starts + y < i → get_or all (j * length t.starts + y) 0 ≡ value_of t charges j y
value_at t charges all i j y h l n =
    let k : ℕ = length t.starts in
    let p : ℕ = j * k + y in
    h.each p n ∙ ap (λ a. value_of t charges a (p % k)) (div-mul-add j k y l)
    ∙ ap (λ b. value_of t charges j b) (mod-mul-add j k y l)

-- where the values with one unit less begin
pub before_is : (i n : ℕ) → 0 < n → n ≤ i
    → (i / n ≡ suc (i / n - 1)) × (i ≡ (i / n - 1) * n + n + i % n) × (i % n < n)
before_is i n some l =
    let one : 1 ≤ i / n = le-div 1 i n some (omega (arith, l)) in
    let is : i / n ≡ suc (i / n - 1) = omega (arith, one) in
    let product : i / n * n ≡ suc (i / n - 1) * n = ap (λ a. a * n) is in
    (is, omega (arith, product, div-add-mod' i n), mod_below i n some)

-- a value that is reckoned of those with one unit less
value_is : (t : Nodes) (charges costs all : List ℕ) (n i value : ℕ) → IsTable t → AreCosts t charges costs
    → AreValuesTo t charges all i → n ≡ length t.starts → n ≤ i
    → value ≡ least_to (λ m. get_or costs (i % n * length t.times.demands + m) 0
    + get_or all (i - i % n - n + next_of t (i % n) m) 0) (length t.times.demands - 1)
    → value ≡ value_of t charges (i / n) (i % n)
value_is t charges costs all n i value h c v e l is =
    let k : ℕ = length t.times.demands in
    let x : ℕ = i % n in
    let j : ℕ = i / n - 1 in
    let some : 0 < n = omega (arith, e, slice_get_within t.starts 0 (root_starts t.times) h.root) in
    let begun : (i / n ≡ suc j) × (i ≡ j * n + n + x) × (x < n) = before_is i n some l in
    let f : ℕ → ℕ = λ m. get_or costs (x * k + m) 0 + get_or all (i - x - n + next_of t x m) 0 in
    let g : ℕ → ℕ = λ m. unit_cost t.times t.reach charges (starts_of t x) m + value_of t charges j (next_of t x m) in
    let low : x < length t.starts = omega (arith, begun.2, e) in
    let from : i - x - n ≡ j * length t.starts = omega (arith, begun.1, ap (λ a. j * a) e) in
    let each : (m : ℕ) → m ≤ k - 1 → f m ≡ g m = λ m b.
    let model : m < k = omega (arith, b, h.times.modeled) in
    let next : next_of t x m < length t.starts = (h.leads x m low model).within in
    let at : get_or all (i - x - n + next_of t x m) 0 ≡ value_of t charges j (next_of t x m) =
    ap (λ a. get_or all (a + next_of t x m) 0) from
    ∙ value_at t charges all i j (next_of t x m) v next (omega (arith, begun.1, next, e, ap (λ a. j * a) e)) in
    omega (arith, unit_at t charges costs x m c low model, at) in
    is ∙ least_same f g (k - 1) each ∙ sym (ap (λ a. value_of t charges a x) begun.0)

pub values_more : (t : Nodes) (charges costs all : List ℕ) (n i value : ℕ) → IsTable t → AreCosts t charges costs
    → AreValuesTo t charges all i → n ≡ length t.starts → n ≤ i
    → value ≡ least_to (λ m. get_or costs (i % n * length t.times.demands + m) 0
    + get_or all (i - i % n - n + next_of t (i % n) m) 0) (length t.times.demands - 1)
    → AreValuesTo t charges (all ++ value ∷ []) (i + 1)
values_more t charges costs all n i value h c v e l is = record {
  many = omega (arith, length-append all (value ∷ []), v.many);
  each = each_more (λ p w. w ≡ value_of t charges (p / length t.starts) (p % length t.starts)) all value i v.many
      (value_is t charges costs all n i value h c v e l is
      ∙ ap (λ a. value_of t charges (i / a) (i % a)) e)
      v.each;
}

-- such a value stays below 10^18
pub limit_more : (t : Nodes) (charges costs all : List ℕ) (n left i value : ℕ) → IsTable t
    → AreCharges t.times charges → AreCosts t charges costs → AreValuesTo t charges all i → n ≡ length t.starts
    → n ≤ i → i < (left + 1) * n → left ≤ 1000
    → value ≡ least_to (λ m. get_or costs (i % n * length t.times.demands + m) 0
    + get_or all (i - i % n - n + next_of t (i % n) m) 0) (length t.times.demands - 1)
    → All (λ w. w < 1000000000000000000) all → All (λ w. w < 1000000000000000000) (all ++ value ∷ [])
limit_more t charges costs all n left i value h a c v e l b few is before =
    let some : 0 < n = omega (arith, e, slice_get_within t.starts 0 (root_starts t.times) h.root) in
    let below : i / n < left + 1 = div_below i n (left + 1) some b in
    let low : i % n < length t.starts = omega (arith, e, mod_below i n some) in
    all_more 1000000000000000000 all value (omega (
      arith,
      value_is t charges costs all n i value h c v e l is,
      value_limit t charges h a (i / n) (i % n) low,
      below,
      few,
    )) before

-- all values are told
pub pass_told : (t : Nodes) (charges all : List ℕ) (left nodes : ℕ) → IsTable t → AreCharges t.times charges
    → AreValuesTo t charges all ((left + 1) * nodes) → left ≡ sum t.times.demands → nodes ≡ length t.starts
    → IsToldOf t charges (values_of left nodes all) × AreBelow t charges (values_of left nodes all)
pass_told t charges all left nodes h a v units many =
    let each : (j x : ℕ) → j ≤ left → x < nodes → told (values_of left nodes all) j x ≡ value_of t charges j x =
    λ j x b l.
    let low : x < length t.starts = omega (arith, l, many) in
    let place : j * nodes + x ≡ j * length t.starts + x = ap (λ a. j * a + x) many in
    ap (λ p. get_or all p 0) place
    ∙ value_at t charges all ((left + 1) * nodes) j x v low
    (omega (arith, place, in_rows j x (left + 1) nodes (omega (arith, b)) l)) in (
      record { left = units; nodes = many; each = each },
      λ j x b l.
          let P : ℕ → Type 0 = λ w. HoldsCharged t.times t.interval t.reach charges j (starts_of t x) w in
          subst P (sym (each j x b l)) (value_holds t charges h a j x (omega (arith, l, many))),
    )
