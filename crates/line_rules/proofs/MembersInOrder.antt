-- Going over the members of a set from the least on.
use Rattle.std.proofs.Common.{◌≡◌, ℕ, zero, suc, ◌<◌, Bool, true, false, List, [], ◌∷◌, length, set, sym, ◌∙◌, subst}
use Rattle.std.proofs.Common.{◌⊎◌, inl, inr, arith, ◌↔◌}
use Rattle.std.proofs.lemmas.Bool.{false≢true, cases_eq}
use Rattle.std.proofs.lemmas.List.{length-set}
use Rattle.line_instance.specs.Truths.{In, IsEmpty, IsLeast}
use Rattle.line_instance.proofs.Members.{In-clear, In-clear_kept, members}

-- what is left passes B, and what passes B is left or passes K
pub record IsLeft (B K : ℕ → Type 0) (left : List Bool) : Type 0 where
  pub truths : length left ≡ 1024
  pub within : (j : ℕ) → In left j → B j
  pub others : (j : ℕ) → B j → In left j ⊎ K j

pub all_left : (B K : ℕ → Type 0) (s : List Bool) → length s ≡ 1024 → ((j : ℕ) → In s j ↔ B j) → IsLeft B K s
all_left B K s l m = record { truths = l; within = λ j h. (m j).0 h; others = λ j b. inl ((m j).1 b) }

module _ (B K : ℕ → Type 0) (left : List Bool) (h : IsLeft B K left) where
  -- what passes B below the least that is left passes K
  pub below_least : (j : ℕ) → IsLeast left j → (k : ℕ) → k < j → B k → K k
  below_least j least k l b = elim (h.others k b) [
    | inl m ↦ absurd (omega (arith, l, least.least k m))
    | inr p ↦ p
  ]

  pub one_less : (j : ℕ) → K j → IsLeft B K (set left j false)
  one_less j p = record {
    truths = length-set left j false ∙ h.truths;
    within = λ k m. h.within k (In-clear_kept left j k m);
    others = λ k b. elim (cases_eq k j) [
      | inl e ↦ inr (subst K (sym e) p)
      | inr n ↦ elim (h.others k b) [
        | inl m ↦ inl (In-clear left j k m n)
        | inr q ↦ inr q
      ]
    ];
  }

  pub none_left : IsEmpty left → (j : ℕ) → B j → K j
  none_left empty j b = elim (h.others j b) [
    | inl m ↦ absurd (empty j m)
    | inr p ↦ p
  ]

pub members_less : (s : List Bool) (i : ℕ) → In s i → members (set s i false) < members s
unfolding members
members_less [] i m = absurd (false≢true m)
members_less (true ∷ bs) zero m = omega arith
members_less (false ∷ bs) zero m = absurd (false≢true m)
members_less (true ∷ bs) (suc i) m = omega (arith, members_less bs i m)
members_less (false ∷ bs) (suc i) m = omega (arith, members_less bs i m)
