-- The tests of cites and the walk over numbers have one answer: the first failure, if there is one, comes before what
-- the steps end at.
use Rattle.std.proofs.Common.{◌≡◌, ℕ, suc, ◌+◌, ◌<◌, ◌≤◌, ◌⊎◌, Bool, List, length, refl, sym, ap, ◌∙◌}
use Rattle.std.proofs.Common.{subst, inl, inr, arith, Option, Some, None}
use Rattle.std.specs.Prelude.{slice_get}
use Rattle.std.proofs.lemmas.Bool.{cases_order, cases_lt}
use Rattle.sequence_rules.specs.Entries.{passing}
use Rattle.sequence_check.specs.Walks.{IsFirstLate, AreBelow, IsUncovered, IsSpare, IsPast}
use Rattle.sequence_check.proofs.WalkFacts.{count_yes, not_uncovered}
use Rattle.sequence_check.proofs.RefusalFacts.{passing_grows, past_counts}

-- a test that fails, with what is so then; or one that holds, with what comes behind it
abbrev pub Test : Type 0 → Type 0 → Type 0 → Type 0
Test A X Y = ((A → ⊥) × X) ⊎ (A × Y)

-- two rows of tests, of which each ends at the first that fails, agree where they agree at each end
pub same_end : {A X Y V W C : Type 0} → Test A X Y → Test A V W → (X → V → C) → (Y → W → C) → C
same_end p q f g = elim p [
  | inl x ↦ elim q [ inl v ↦ f x.1 v.1 | inr w ↦ absurd (x.0 w.0) ]
  | inr y ↦ elim q [ inl v ↦ absurd (v.0 y.0) | inr w ↦ g y.1 w.1 ]
]

-- a row of tests that meets what holds of the first one
pub past_test : {A X Y C : Type 0} → Test A X Y → A → (Y → C) → C
past_test p a f = elim p [ inl x ↦ absurd (x.0 a) | inr y ↦ f y.1 ]

-- there is one first cite that is late
one_late : (cites : List ℕ) (k x y : ℕ) → IsFirstLate cites k x → IsFirstLate cites k y → x ≡ y
one_late cites k x y p q = elim (cases_order p.place q.place) [
  | inl s ↦ (let P : ℕ → Type 0 = λ z. slice_get cites z ≡ Some y in
      let e : slice_get cites p.place ≡ Some y = subst P (sym s) q.there in
      let t : slice_get cites p.place ≡ Some x = p.there in cc)
  | inr d ↦ elim d [
    | inl less ↦ absurd (omega (arith, p.late, q.earlier p.place x less p.there))
    | inr more ↦ absurd (omega (arith, q.late, p.earlier q.place y more q.there))
  ]
]

module _ (needs : ℕ → Bool) (Cited : ℕ → ℕ → Type 0) (cites : List ℕ) (visited : ℕ → Bool) where
  -- A failure of a walk over the numbers below k, of which those below n are matched: a number that is uncovered, or,
  -- where there is none, spare cites; and how many numbers were walked.
  abbrev pub FailsWalk : ℕ → ℕ → Option ℕ → ℕ → Type 0
  FailsWalk n k None units = IsSpare needs Cited cites n × (units ≡ length (passing visited k))
  FailsWalk n k (Some m) units = (m < n) × IsUncovered needs Cited cites m
      × (units ≡ length (passing visited (suc m)))

  one_uncovered : (a b : ℕ) → IsUncovered needs Cited cites a → IsUncovered needs Cited cites b → a ≡ b
  one_uncovered a b u v = elim (cases_order a b) [
    | inl same ↦ same
    | inr d ↦ elim d [
      | inl less ↦ absurd (not_uncovered needs Cited cites b a v.before less u)
      | inr more ↦ absurd (not_uncovered needs Cited cites a b u.before more v)
    ]
  ]

  not_spared : (n k a units : ℕ) → FailsWalk n k (Some a) units → IsSpare needs Cited cites n → ⊥
  not_spared n k a units f s = not_uncovered needs Cited cites n a s.covers f.0 f.1

  one_failure : (n k : ℕ) (o p : Option ℕ) (m u : ℕ) → FailsWalk n k o m → FailsWalk n k p u → o ≡ p
  one_failure n k None None m u f g = refl
  one_failure n k None (Some b) m u f g = absurd (not_spared n k b u g f.0)
  one_failure n k (Some a) None m u f g = absurd (not_spared n k a m f g.0)
  one_failure n k (Some a) (Some b) m u f g = ap (λ (z : ℕ). Some z) (one_uncovered a b f.1 g.1)

  -- one failure is found after so many numbers
  pub one_walked : (n k : ℕ) (o p : Option ℕ) (m u : ℕ) → FailsWalk n k o m → FailsWalk n k p u → m ≡ u
  one_walked n k None None m u f g = omega (arith, f.1, g.1)
  one_walked n k None (Some b) m u f g = absurd (not_spared n k b u g f.0)
  one_walked n k (Some a) None m u f g = absurd (not_spared n k a m f g.0)
  one_walked n k (Some a) (Some b) m u f g =
      omega (arith, f.2, g.2, ap (λ (z : ℕ). length (passing visited (suc z))) (one_uncovered a b f.1 g.1))

  -- a failure that is found within the steps comes before the number that is walked past them
  walk_in_time : (n k : ℕ) (o : Option ℕ) (m steps : ℕ) → FailsWalk n k o m → m ≤ steps
      → IsPast needs Cited cites visited k steps → ⊥
  walk_in_time n k None m steps f few p =
      omega (arith, few, f.1, past_counts needs Cited cites visited k steps p)
  walk_in_time n k (Some a) m steps f few p = elim (cases_lt a p.model) [
    | inl less ↦ not_uncovered needs Cited cites p.model a p.before less f.1
    | inr more ↦ omega (
      arith,
      few,
      f.2,
      p.counts,
      count_yes visited p.model p.walked,
      passing_grows visited (p.model + 1) (suc a) (omega (arith, more)),
    )
  ]

  -- the cites, which have to be below a limit, are tested, and then the numbers walked; the failure is named so
  module _ (limit : ℕ) (W : Type 0) (late : ℕ → W) (walked : Option ℕ → W) (n k : ℕ) where
    abbrev pub AtCites : W → ℕ → Type 0
    AtCites why units =
        Test (AreBelow cites limit) ((x : ℕ) × (IsFirstLate cites limit x × (why ≡ late x) × (units ≡ 0)))
        ((o : Option ℕ) × ((why ≡ walked o) × FailsWalk n k o units))

    pub at_late : (x units : ℕ) → IsFirstLate cites limit x → units ≡ 0 → AtCites (late x) units
    at_late x units h none = inl (λ b. omega (arith, h.late, b h.place x h.there), (x, (h, refl, none)))

    pub one_at_cites : (a b : W) (m u : ℕ) → AtCites a m → AtCites b u → (a ≡ b) × (m ≡ u)
    one_at_cites a b m u p q = same_end p q
        (λ x y. (
          x.1.1 ∙ (ap late (one_late cites limit x.0 y.0 x.1.0 y.1.0) ∙ sym y.1.1),
          x.1.2 ∙ sym y.1.2,
        ))
        (λ x y. (
          x.1.0 ∙ (ap walked (one_failure n k x.0 y.0 m u x.1.1 y.1.1) ∙ sym y.1.0),
          one_walked n k x.0 y.0 m u x.1.1 y.1.1,
        ))

    pub cites_in_time : (a : W) (m steps : ℕ) → AtCites a m → m ≤ steps → AreBelow cites limit
        → IsPast needs Cited cites visited k steps → ⊥
    cites_in_time a m steps p few b h = past_test p b (λ w. walk_in_time n k w.0 m steps w.1.1 few h)
