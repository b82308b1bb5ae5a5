-- The units of a sequence, model by model.
use Rattle.std.proofs.Common.{◌≡◌, ℕ, zero, suc, ◌<◌, ◌≤◌, cond, nat_eq, List, [], ◌∷◌, length, get_or, replicate, refl}
use Rattle.std.proofs.Common.{arith, inl, inr}
use Rattle.std.specs.Prelude.{count_by, All}
use Rattle.std.proofs.lemmas.Bool.{cases_lt}
use Rattle.std.proofs.lemmas.Bool.Decides.{nat_tests}
use Rattle.std.proofs.lemmas.List.{get_or_past}
use Rattle.std.proofs.lemmas.List.Sums.{sum_by-cons}
use Rattle.sequence_rules.specs.States.{IsSequenceOf}

-- no unit is of a model that is past all models
none_past : (n m : ℕ) (units : List ℕ) → n ≤ m → All (λ u. u < n) units → count_by (λ u. nat_eq u m) units ≡ 0
none_past n m [] l h = refl
none_past n m (u ∷ units) l h =
    let here : u < n = h 0 0 (omega arith) in
    let other : ◌≡◌ {A = ℕ} (cond (nat_eq u m) 1 0) 0 = differ u m (omega (arith, here, l)) in
    omega (
      arith,
      sum_by-cons (λ u. cond (nat_eq u m) 1 0) u units,
      other,
      none_past n m units l (λ k d g. h (suc k) d (omega (arith, g))),
    )
  where
    differ : (u m : ℕ) → u < m → ◌≡◌ {A = ℕ} (cond (nat_eq u m) 1 0) 0
    differ u m l = grind (arith, nat_tests)

-- a sequence whose units are of these models has each as often as it is wanted, where it has each of them so
pub sequence_from : (rem units : List ℕ) → All (λ u. u < length rem) units
    → ((m : ℕ) → m < length rem → count_by (λ u. nat_eq u m) units ≡ get_or rem m 0) → IsSequenceOf rem units
sequence_from rem units within h m = elim (cases_lt m (length rem)) [
  | inl l ↦ h m l
  | inr past ↦ omega (arith, none_past (length rem) m units past within, get_or_past rem m 0 past)
]

-- each start of the root is 0
pub noughts : (n k : ℕ) → ◌≡◌ {A = ℕ} (get_or (replicate n 0) k 0) 0
noughts zero k = refl
noughts (suc n) zero = refl
noughts (suc n) (suc k) = noughts n k
