-- The lower bound on a product, from the greatest cycles that entries refute.
use Rattle.std.proofs.Common.{◌≡◌, ℕ, ◌+◌, ◌-◌, ◌*◌, ◌<◌, ◌≤◌, min, List, refl, sym, subst, inl, inr, arith}
use Rattle.std.proofs.lemmas.Bool.{cases_lt, cases_eq}
use Rattle.std.proofs.Math.Nat.{mul-le-mul_left, mul-div-le, lt-mul-div-succ}
use Rattle.std.proofs.lemmas.Nat.{le-div}
use Rattle.std.proofs.Math.Nat.{mul_comm}
use Rattle.line_instance.specs.Line.{Line}
use Rattle.line_rules.specs.Balance.{all_tasks}
use Rattle.line_rules.specs.Entries.{HasAnswer}
use Rattle.line_rules.specs.declared.types.Entry.{Entry}
use Rattle.effic_check.specs.Accepted.{IsClosed, cycle_below}
use Rattle.effic_search.specs.Lowest.{IsGreatestRefuted, IsLowest}
use Rattle.effic_search.proofs.ListFacts.{has_shorter}

-- the greatest cycle below a product is below it
pub below_near : (P m : ℕ) → 1 ≤ P → m * cycle_below P m < P
below_near P m some = omega (arith, some, mul-div-le (P - 1) m)

-- it is no greater below a lesser product
pub below_less : (P Q m : ℕ) → 1 ≤ m → P ≤ Q → cycle_below P m ≤ cycle_below Q m
below_less P Q m some l =
    let d : ℕ = cycle_below P m in
    let e : d * m ≡ m * d = mul_comm d m in
    le-div d (Q - 1) m (omega (arith, some)) (omega (arith, l, e, mul-div-le (P - 1) m))

-- what is closed below a product is closed below a lesser one
pub closed_less : (line : Line) (es : List Entry) (P Q m : ℕ) → 1 ≤ m → P ≤ Q → IsClosed line es Q m
    → IsClosed line es P m
closed_less line es P Q m some l h one =
    let d : cycle_below P m ≤ cycle_below Q m = below_less P Q m some l in
    has_shorter es (all_tasks line) m (cycle_below Q m) (cycle_below P m) d (h (omega (arith, one, d)))

-- no number of stations
pub lowest_none : (line : Line) (es : List Entry) (least upper : ℕ) → IsLowest line es least least upper upper
lowest_none line es least upper = record {
  within = omega arith;
  each = λ m from to. absurd (omega (arith, from, to));
  reached = inl refl;
}

-- one number of stations more
pub lowest_next : (line : Line) (es : List Entry) (least s next upper lower now g v : ℕ) → next ≡ s + 1 → least ≤ s
    → IsGreatestRefuted line es s g → v ≡ s * (g + 1) → IsLowest line es least s upper lower → now ≡ min lower v
    → IsLowest line es least next upper now
lowest_next line es least s next upper lower now g v step from gr value h same = record {
  within = omega (arith, h.within, same);
  each = λ m low high. elim (cases_eq m s) [
    | inl q ↦
        let P : ℕ → Type 0 = λ z. (c : ℕ) × IsGreatestRefuted line es z c × (now ≤ z * (c + 1)) in
        subst P (sym q) (g, gr, omega (arith, same, value))
    | inr n ↦ let o = h.each m low (omega (arith, high, step, n)) in (o.0, o.1, omega (arith, o.2, same))
  ];
  reached = elim (cases_lt v lower) [
    | inl l ↦ inr (s, g, from, omega (arith, step), gr, omega (arith, same, value, l))
    | inr m ↦ elim h.reached [
      | inl e ↦ inl (omega (arith, e, same, m))
      | inr r ↦ inr (r.0, r.1, r.2, omega (arith, r.3, step), r.4, omega (arith, r.5, same, m))
    ]
  ];
}

module _ (line : Line) (es : List Entry) (least end upper lower : ℕ) (h : IsLowest line es least end upper lower) where
  -- the entries close each number of stations below the lower bound
  pub lowest_closed : (m : ℕ) → 1 ≤ least → least ≤ m → m < end → IsClosed line es lower m
  lowest_closed m some from to one =
      let o = h.each m from to in
      let d : ℕ = cycle_below lower m in
      let low : m * d ≤ lower - 1 = mul-div-le (lower - 1) m in
      let near : d ≤ o.0 = (elim (cases_lt o.0 d) [
        | inl more ↦
            let x : m * (o.0 + 1) ≤ m * d = mul-le-mul_left m (omega (arith, more)) in
            let y : m * 1 ≤ m * d = mul-le-mul_left m one in
            absurd (omega (arith, x, y, low, o.2, from, some))
        | inr less ↦ less
      ]) in
      has_shorter es (all_tasks line) m o.0 d near (o.1.refuted (omega (arith, one, near)))

  -- where they close each below the upper bound, both bounds meet
  pub lowest_meets : ((m : ℕ) → least ≤ m → m < end → IsClosed line es upper m) → 1 ≤ least → lower ≡ upper
  lowest_meets closed some = elim h.reached [
    | inl e ↦ e
    | inr r ↦
        let m : ℕ = r.0 in
        let g : ℕ = r.1 in
        let d : ℕ = cycle_below upper m in
        let near : d ≤ g = (elim (cases_lt 0 d) [
          | inl one ↦ r.4.greatest d (closed m r.2 r.3 (omega (arith, one)))
          | inr none ↦ omega (arith, none)
        ]) in
        let x : m * (d + 1) ≤ m * (g + 1) = mul-le-mul_left m (omega (arith, near)) in
        let y : upper - 1 < m * (d + 1) = lt-mul-div-succ (upper - 1) (omega (arith, some, r.2)) in
        omega (arith, x, y, r.5, h.within)
  ]

  -- where a smaller product is left open, the lower bound is below the upper one
  pub lowest_below : (m X : ℕ) → least ≤ m → m < end → 1 ≤ X → m * X < upper
      → (HasAnswer es (all_tasks line) m X → ⊥) → lower < upper
  lowest_below m X from to some near left =
      let o = h.each m from to in
      let less : o.0 < X = (elim (cases_lt o.0 X) [
        | inl l ↦ l
        | inr more ↦
            absurd (left (has_shorter es (all_tasks line) m o.0 X more (o.1.refuted (omega (arith, some, more)))))
      ]) in
      let x : m * (o.0 + 1) ≤ m * X = mul-le-mul_left m (omega (arith, less)) in
      omega (arith, x, o.2, near)
