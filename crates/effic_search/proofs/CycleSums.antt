-- Sums over entries, cycle by cycle: where those at each cycle are few, and the cycles are, the whole sum is small.
use Rattle.std.proofs.Common.{◌≡◌, ℕ, zero, suc, ◌+◌, ◌*◌, ◌<◌, ◌≤◌, ◌⊎◌, Bool, true, false, cond, List, [], ◌∷◌, refl}
use Rattle.std.proofs.Common.{sym, subst, inl, inr, arith, Some}
use Rattle.std.specs.Prelude.{nat_eq, nat_lt, slice_get}
use Rattle.std.proofs.lemmas.Bool.{ltb-true, ltb-false, eqb-true, eqb-false}
use Rattle.line_rules.specs.Units.{entries_at}
use Rattle.line_rules.specs.declared.types.Entry.{Entry}

-- the sum of what the entries weigh
abbrev pub SumOf : (Entry → ℕ → Type 0) → List Entry → ℕ → Type 0
SumOf W [] u = u ≡ 0
SumOf W (e ∷ es) u = (a : ℕ) × (b : ℕ) × (W e a × SumOf W es b × (u ≡ a + b))

-- the entries of cycles below h
abbrev entries_below : ℕ → List Entry → List Entry
entries_below h [] = []
entries_below h (e ∷ es) = cond (nat_lt e.cycle h) (e ∷ entries_below h es) (entries_below h es)

module _ (W : Entry → ℕ → Type 0) where
  -- the sum is that of two lists
  Parts : List Entry → List Entry → ℕ → Type 0
  Parts xs ys u = (a : ℕ) × (b : ℕ) × (SumOf W xs a × SumOf W ys b × (u ≡ a + b))

  -- an entry more, whose cycle is below h, or h, or above it
  split_step : (e : Entry) (h : ℕ) (more low at : List Entry) → ((u : ℕ) → SumOf W more u → Parts low at u)
      → (s t q : Bool) → nat_lt e.cycle (suc h) ≡ s → nat_lt e.cycle h ≡ t → nat_eq e.cycle h ≡ q
      → (u : ℕ) → SumOf W (cond s (e ∷ more) more) u → Parts (cond t (e ∷ low) low) (cond q (e ∷ at) at) u
  unfolding Parts
  split_step e h more low at rest true true true ps pt pq u z =
      absurd (omega (arith, ltb-true e.cycle h pt, eqb-true e.cycle h pq))
  split_step e h more low at rest true true false ps pt pq u z =
      let p = rest z.1 z.2.1 in
      (z.0 + p.0, p.1, ((z.0, p.0, (z.2.0, p.2.0, refl)), p.2.1, omega (arith, z.2.2, p.2.2)))
  split_step e h more low at rest true false true ps pt pq u z =
      let p = rest z.1 z.2.1 in
      (p.0, z.0 + p.1, (p.2.0, (z.0, p.1, (z.2.0, p.2.1, refl)), omega (arith, z.2.2, p.2.2)))
  split_step e h more low at rest true false false ps pt pq u z =
      let l : e.cycle < suc h = ltb-true e.cycle (suc h) ps in
      let m : h ≤ e.cycle = ltb-false e.cycle h pt in
      absurd (eqb-false e.cycle h pq (omega (arith, l, m)))
  split_step e h more low at rest false true q ps pt pq u z =
      absurd (omega (arith, ltb-false e.cycle (suc h) ps, ltb-true e.cycle h pt))
  split_step e h more low at rest false false true ps pt pq u z =
      absurd (omega (arith, ltb-false e.cycle (suc h) ps, eqb-true e.cycle h pq))
  split_step e h more low at rest false false false ps pt pq u z = rest u z

  split : (h : ℕ) (es : List Entry) (u : ℕ) → SumOf W (entries_below (suc h) es) u
      → Parts (entries_below h es) (entries_at h es) u
  unfolding Parts
  split h [] u z = (0, 0, (refl, refl, z))
  split h (e ∷ es) u z =
      split_step e h (entries_below (suc h) es) (entries_below h es) (entries_at h es) (split h es)
      (nat_lt e.cycle (suc h)) (nat_lt e.cycle h) (nat_eq e.cycle h) refl refl refl u z

  AreFrom : List Entry → Type 0
  AreFrom es = (k : ℕ) (e : Entry) → slice_get es k ≡ Some e → 1 ≤ e.cycle

  -- there is none below 1
  none_step : (e : Entry) (low : List Entry) → 1 ≤ e.cycle → (t : Bool) → nat_lt e.cycle 1 ≡ t → (u : ℕ)
      → SumOf W (cond t (e ∷ low) low) u → ((v : ℕ) → SumOf W low v → v ≡ 0) → u ≡ 0
  none_step e low some true p u z rest = absurd (omega (arith, some, ltb-true e.cycle 1 p))
  none_step e low some false p u z rest = rest u z

  none_below : (es : List Entry) → AreFrom es → (u : ℕ) → SumOf W (entries_below 1 es) u → u ≡ 0
  unfolding AreFrom
  none_below [] from u z = z
  none_below (e ∷ es) from u z =
      none_step e (entries_below 1 es) (from 0 e refl) (nat_lt e.cycle 1) refl u z
      (λ v y. none_below es (λ k x g. from (suc k) x g) v y)

  -- each entry above hi weighs nothing
  AreUpTo : ℕ → List Entry → Type 0
  AreUpTo hi es = (k : ℕ) (e : Entry) (a : ℕ) → slice_get es k ≡ Some e → W e a → (a ≡ 0) ⊎ (e.cycle ≤ hi)

  all_step : (e : Entry) (hi a b : ℕ) (low : List Entry) → W e a → (a ≡ 0) ⊎ (e.cycle ≤ hi) → SumOf W low b
      → (t : Bool) → nat_lt e.cycle (suc hi) ≡ t → SumOf W (cond t (e ∷ low) low) (a + b)
  all_step e hi a b low w none rest true p = (a, b, (w, rest, refl))
  all_step e hi a b low w (inl z) rest false p =
      let S : ℕ → Type 0 = λ v. SumOf W low v in
      let q : b ≡ a + b = omega (arith, z) in
      subst S q rest
  all_step e hi a b low w (inr l) rest false p = absurd (omega (arith, l, ltb-false e.cycle (suc hi) p))

  all_below : (hi : ℕ) (es : List Entry) → AreUpTo hi es → (u : ℕ) → SumOf W es u
      → SumOf W (entries_below (suc hi) es) u
  unfolding AreUpTo
  all_below hi [] to u z = z
  all_below hi (e ∷ es) to u z =
      let S : ℕ → Type 0 = λ v. SumOf W (entries_below (suc hi) (e ∷ es)) v in
      let here : SumOf W (entries_below (suc hi) (e ∷ es)) (z.0 + z.1) =
      all_step e hi z.0 z.1 (entries_below (suc hi) es) z.2.0 (to 0 e z.0 refl z.2.0)
      (all_below hi es (λ k x a g w. to (suc k) x a g w) z.1 z.2.1) (nat_lt e.cycle (suc hi)) refl in
      subst S (sym z.2.2) here

  module _ (es : List Entry) (hi B : ℕ) (from : (k : ℕ) (e : Entry) → slice_get es k ≡ Some e → 1 ≤ e.cycle)
      (to : (k : ℕ) (e : Entry) (a : ℕ) → slice_get es k ≡ Some e → W e a → (a ≡ 0) ⊎ (e.cycle ≤ hi))
      (at : (X : ℕ) → 1 ≤ X → X ≤ hi → (u : ℕ) → SumOf W (entries_at X es) u → u ≤ B) where
    up_to : (h : ℕ) → h ≤ hi → (u : ℕ) → SumOf W (entries_below (suc h) es) u → u ≤ h * B
    unfolding Parts AreFrom
    up_to zero l u z = omega (arith, none_below es from u z)
    up_to (suc h) l u z =
        let p = split (suc h) es u z in
        let a : p.0 ≤ h * B = up_to h (omega (arith, l)) p.0 p.2.0 in
        let b : p.1 ≤ B = at (suc h) (omega arith) l p.1 p.2.1 in
        omega (arith, a, b, p.2.2)

    pub sum_few : (u : ℕ) → SumOf W es u → u ≤ hi * B
    unfolding AreUpTo
    sum_few u z = up_to hi (omega arith) u (all_below hi es to u z)
