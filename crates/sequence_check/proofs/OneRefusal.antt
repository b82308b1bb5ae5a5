-- Of items that are checked in order there is one first that is refused, and it comes before the one that the steps end
-- at.
use Rattle.std.proofs.Common.{◌≡◌, ℕ, ◌+◌, ◌-◌, ◌<◌, ◌≤◌, List, take, sym, ap, ◌∙◌, subst, inl, inr, arith, Some}
use Rattle.std.specs.Prelude.{slice_get, sum_by}
use Rattle.std.proofs.lemmas.Bool.{cases_order}
use Rattle.std.proofs.lemmas.List.{take-take}
use Rattle.std.proofs.lemmas.List.Sums.{sum_by-take-le}
use Rattle.std.proofs.lemmas.Option.{same_Some}
use Rattle.sequence_check.proofs.EntryFacts.{sum_next}

-- items and why one is refused, each with its units, what is right at its place, what fails there with so many steps,
-- and where so many steps end
module _ (X W : Type 0) (xs : List X) (units : X → ℕ) (Right : ℕ → X → Type 0) (Fails : ℕ → X → W → ℕ → Type 0)
    (Ends : ℕ → X → ℕ → Type 0) (steps : ℕ) where
  -- the item k is the first that is refused, and the steps walked up to it are at most `steps`
  pub record IsFirstRefused (k : ℕ) (why : W) : Type 0 where
    pub item : X
    pub there : slice_get xs k ≡ Some item
    pub before : (i : ℕ) (x : X) → i < k → slice_get xs i ≡ Some x → Right i x
    pub more : ℕ
    pub fails : Fails k item why more
    pub few : sum_by units (take k xs) + more ≤ steps

  -- the steps end at the item k, and those before it are right
  pub record AreEndedAt (k : ℕ) : Type 0 where
    pub item : X
    pub there : slice_get xs k ≡ Some item
    pub before : (i : ℕ) (x : X) → i < k → slice_get xs i ≡ Some x → Right i x
    pub few : sum_by units (take k xs) ≤ steps
    pub ends : Ends k item (steps - sum_by units (take k xs))

  module _ (not_right : (k : ℕ) (x : X) (why : W) (m : ℕ) → Fails k x why m → Right k x → ⊥)
      (one_fault : (k : ℕ) (x : X) (v w : W) (m n : ℕ) → Fails k x v m → Fails k x w n → v ≡ w) where
    pub one_refused : (j k : ℕ) (v w : W) → IsFirstRefused j v → IsFirstRefused k w → (j ≡ k) × (v ≡ w)
    one_refused j k v w p q = elim (cases_order j k) [
      | inl s ↦
          let there : slice_get xs k ≡ Some p.item = ap (λ i. slice_get xs i) (sym s) ∙ p.there in
          let P : ℕ → X → Type 0 = λ i x. Fails i x v p.more in
          let F : Fails k q.item v p.more = subst (λ (x : X). P k x) (same_Some p.item q.item (sym there ∙ q.there))
          (subst (λ (i : ℕ). P i p.item) s p.fails) in
          (s, one_fault k q.item v w p.more q.more F q.fails)
      | inr d ↦ elim d [
        | inl less ↦ absurd (not_right j p.item v p.more p.fails (q.before j p.item less p.there))
        | inr more ↦ absurd (not_right k q.item w q.more q.fails (p.before k q.item more q.there))
      ]
    ]

    -- the units up to and including an item are no more than those below a later place
    sum_reaches : (j k : ℕ) (x : X) → slice_get xs j ≡ Some x → j < k
        → sum_by units (take j xs) + units x ≤ sum_by units (take k xs)
    sum_reaches j k x there less =
        omega (
          arith,
          sum_next units xs j x there,
          ap (λ ys. sum_by units ys)
              (take-take (j + 1) k xs (omega (arith, less))),
          sum_by-take-le units (take k xs) (j + 1),
        )

    module _ (in_time : (k : ℕ) (x : X) (why : W) (m s : ℕ) → Fails k x why m → m ≤ s → Ends k x s → ⊥)
        (spends : (k : ℕ) (x : X) (s : ℕ) → Ends k x s → s < units x) where
      pub refused_in_time : (j k : ℕ) (why : W) → IsFirstRefused j why → AreEndedAt k → ⊥
      refused_in_time j k why p h = elim (cases_order j k) [
        | inl s ↦
            let there : slice_get xs k ≡ Some p.item = ap (λ i. slice_get xs i) (sym s) ∙ p.there in
            let P : ℕ → X → Type 0 = λ i x. Fails i x why p.more in
            let F : Fails k h.item why p.more = subst (λ (x : X). P k x) (same_Some p.item h.item (sym there ∙ h.there))
            (subst (λ (i : ℕ). P i p.item) s p.fails) in
            let few : p.more ≤ steps - sum_by units (take k xs) =
            omega (arith, p.few, ap (λ i. sum_by units (take i xs)) s) in
            in_time k h.item why p.more (steps - sum_by units (take k xs)) F few h.ends
        | inr d ↦ elim d [
          | inl less ↦ not_right j p.item why p.more p.fails (h.before j p.item less p.there)
          | inr more ↦ omega (
            arith,
            p.few,
            h.few,
            spends k h.item (steps - sum_by units (take k xs)) h.ends,
            sum_reaches k j h.item h.there more,
          )
        ]
      ]
