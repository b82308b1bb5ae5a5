-- The sequence in model order has each model as often as it is wanted.
use Rattle.std.proofs.Common.{◌≡◌, ℕ, ◌+◌, ◌*◌, ◌<◌, ◌≤◌, cond, nat_eq, List, ◌++◌, length}
use Rattle.std.proofs.Common.{get_or, replicate, sym, ap, subst, inl, inr, arith}
use Rattle.std.specs.Prelude.{count_by}
use Rattle.std.proofs.lemmas.Bool.{cases_eq, cases_lt, eq-eqb}
use Rattle.std.proofs.lemmas.Bool.Decides.{nat_tests}
use Rattle.std.proofs.lemmas.List.{get_or_past}
use Rattle.std.proofs.lemmas.List.Sums.{sum_by-append}
use Rattle.std.proofs.lemmas.List.Folds.{sum_by-replicate}
use Rattle.sequence_rules.specs.States.{IsSequenceOf}

-- one model more, as often as it is wanted
counted : (items : List ℕ) (m d j : ℕ) → count_by (λ u. nat_eq u j) (items ++ replicate d m)
    ≡ count_by (λ u. nat_eq u j) items + d * cond (nat_eq m j) 1 0
counted items m d j = omega (
  arith,
  sum_by-append (λ u. cond (nat_eq u j) 1 0) items (replicate d m),
  sum_by-replicate (λ u. cond (nat_eq u j) 1 0) d m,
)

pub order_more : (demands items new : List ℕ) (m d : ℕ) → d ≡ get_or demands m 0 → new ≡ items ++ replicate d m
    → ((j : ℕ) → j < m → count_by (λ u. nat_eq u j) items ≡ get_or demands j 0)
    → ((j : ℕ) → m ≤ j → count_by (λ u. nat_eq u j) items ≡ 0)
    → ((j : ℕ) → j < m + 1 → count_by (λ u. nat_eq u j) new ≡ get_or demands j 0)
    × ((j : ℕ) → m + 1 ≤ j → count_by (λ u. nat_eq u j) new ≡ 0)
order_more demands items new m d is e before after =
    let P : List ℕ → Type 0 = λ xs. ((j : ℕ) → j < m + 1 → count_by (λ u. nat_eq u j) xs ≡ get_or demands j 0)
    × ((j : ℕ) → m + 1 ≤ j → count_by (λ u. nat_eq u j) xs ≡ 0) in
    subst P (sym e) (
      λ j l. elim (cases_eq j m) [
        | inl s ↦
            let here : d * cond (nat_eq m j) 1 0 ≡ d * 1 = ap (λ b. d * cond b 1 0) (eq-eqb m j (sym s)) in
            omega (arith, counted items m d j, here, after j (omega (arith, s)), is, ap (λ k. get_or demands k 0) s)
        | inr n ↦
            let other : ◌≡◌ {A = ℕ} (cond (nat_eq m j) 1 0) 0 = grind (arith, nat_tests) in
            omega (arith, counted items m d j, ap (λ c. d * c) other, before j (omega (arith, l, n)))
      ],
      λ j l.
          let other : ◌≡◌ {A = ℕ} (cond (nat_eq m j) 1 0) 0 = differ m j l in
          omega (arith, counted items m d j, ap (λ c. d * c) other, after j (omega (arith, l))),
    )
  where
    differ : (m j : ℕ) → m + 1 ≤ j → ◌≡◌ {A = ℕ} (cond (nat_eq m j) 1 0) 0
    differ m j l = grind (arith, nat_tests)

pub order_whole : (demands items : List ℕ) (m : ℕ) → length demands ≤ m
    → ((j : ℕ) → j < m → count_by (λ u. nat_eq u j) items ≡ get_or demands j 0)
    → ((j : ℕ) → m ≤ j → count_by (λ u. nat_eq u j) items ≡ 0) → IsSequenceOf demands items
order_whole demands items m l before after j = elim (cases_lt j m) [
  | inl low ↦ before j low
  | inr past ↦ omega (arith, after j past, get_or_past demands j 0 (omega (arith, l, past)))
]
