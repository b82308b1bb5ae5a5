-- Going over the members of a set in their order.
use Rattle.std.proofs.Common.{◌≡◌, ℕ, zero, suc, ◌+◌, Bool, true, false, List, [], ◌∷◌, sym, subst, ◌⊎◌}
use Rattle.std.proofs.Common.{inl, inr, arith}
use Rattle.std.proofs.lemmas.Bool.{false≢true}
use Rattle.line_instance.specs.Truths.{In, members_from, members_of}
use Rattle.line_rules.proofs.SumsOverMembers.{AllIn, all_in_start, all_in_turn}

-- j is one of those that are still to come
abbrev pub IsToCome : List ℕ → ℕ → Type 0
IsToCome [] j = ⊥
IsToCome (i ∷ is) j = (j ≡ i) ⊎ IsToCome is j

come_from : (k : ℕ) (s : List Bool) (i : ℕ) → In s i → IsToCome (members_from k s) (k + i)
unfolding members_from
come_from k [] i m = absurd (false≢true m)
come_from k (true ∷ bs) zero m = inl (omega arith)
come_from k (false ∷ bs) zero m = absurd (false≢true m)
come_from k (true ∷ bs) (suc i) m = let e : suc k + i ≡ k + suc i = omega arith in
    inr (subst (IsToCome (members_from (suc k) bs)) e (come_from (suc k) bs i m))
come_from k (false ∷ bs) (suc i) m = let e : suc k + i ≡ k + suc i = omega arith in
    subst (IsToCome (members_from (suc k) bs)) e (come_from (suc k) bs i m)

-- what is to come is of s, and each that passes B is to come or passes K
pub record AreOver (s : List Bool) (B K : ℕ → Type 0) (left : List ℕ) : Type 0 where
  pub members : AllIn s left
  pub others : (j : ℕ) → B j → IsToCome left j ⊎ K j

pub over_start : (s : List Bool) (B K : ℕ → Type 0) (left : List ℕ) → ((j : ℕ) → B j → In s j) → left ≡ members_of s
    → AreOver s B K left
over_start s B K left h e = record {
  members = all_in_start s left e;
  others = λ j b. let z : 0 + j ≡ j = omega arith in
      inl (subst (IsToCome left) z (let P : List ℕ → Type 0 = λ l. IsToCome l (0 + j) in
      subst P (sym e) (come_from 0 s j (h j b))));
}

module _ {s : List Bool} {B K : ℕ → Type 0} {left more : List ℕ} {i : ℕ} (h : AreOver s B K left)
    (e : left ≡ i ∷ more) where
  pub next_in : In s i
  next_in = (all_in_turn s left more i e h.members).0

  -- the next one passes K, where it still has to
  pub over_turn : (C : ℕ → Type 0) → ((j : ℕ) → C j → B j) → (C i → K i) → AreOver s C K more
  over_turn C back here = record {
    members = (all_in_turn s left more i e h.members).1;
    others = λ j d. elim (let P : List ℕ → Type 0 = λ l. IsToCome l j ⊎ K j in subst P e (h.others j (back j d))) [
      | inl l ↦ elim l [
        | inl same ↦ inr (let P : ℕ → Type 0 = λ k. C k → K k in subst P (sym same) here d)
        | inr w ↦ inl w
      ]
      | inr k ↦ inr k
    ];
  }

pub over_end : {s : List Bool} {B K : ℕ → Type 0} {left : List ℕ} → AreOver s B K left → left ≡ [] → (j : ℕ) → B j
    → K j
over_end {s} {B} {K} {left} h e j b = elim (let P : List ℕ → Type 0 = λ l. IsToCome l j ⊎ K j in
    subst P e (h.others j b)) [
      | inl n ↦ absurd n
      | inr k ↦ k
    ]
