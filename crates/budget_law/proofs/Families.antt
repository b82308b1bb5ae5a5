-- Families of triples: a set, a number, and loads of the set in a mode.
use Rattle.std.proofs.Common.{◌≡◌, ℕ, zero, suc, ◌+◌, ◌<◌, ◌≤◌, Bool, List, [], ◌∷◌, ◌++◌, length, ◌⊎◌, inl, inr, arith}
use Rattle.std.proofs.Common.{Some, subst}
use Rattle.std.specs.Prelude.{slice_get}
use Rattle.std.proofs.lemmas.Option.{same_Some, slice_get_within}
use Rattle.line_instance.specs.Line.{Line, IsTaskSet, tasks}
use Rattle.line_rules.specs.Loads.{IsLoad, Belongs}
use Rattle.line_rules.specs.Order.{Precedes, Lists}
use Rattle.line_rules.specs.declared.types.LineKind.{LineKind}
use Rattle.line_rules.specs.declared.types.Mode.{Mode}
use Rattle.line_rules.specs.declared.types.Load.{Load}
use Rattle.line_rules.proofs.Unique.{first_less, tail_lists}

pub record Family : Type 0 where
  pub set : List Bool
  pub number : ℕ
  pub mode : Mode
  pub loads : List Load

-- the set is one of tasks, the number is at most that of the tasks, and the loads are of the set and rise
pub record IsFamily (kind : LineKind) (line : Line) (X : ℕ) (f : Family) : Type 0 where
  pub tasks : IsTaskSet line f.set
  pub belongs : Belongs kind f.mode
  pub few : f.number ≤ Rattle.line_instance.specs.Line.tasks line
  pub rises : (j k : ℕ) (a b : Load) → j < k → slice_get f.loads j ≡ Some a → slice_get f.loads k ≡ Some b
      → Precedes line a b
  pub sound : (k : ℕ) (a : Load) → slice_get f.loads k ≡ Some a → IsLoad line X f.mode f.set a

-- no two of the families have the set and the number
abbrev pub AreDifferent : List Family → Type 0
AreDifferent fs = (j k : ℕ) (a b : Family) → j < k → slice_get fs j ≡ Some a → slice_get fs k ≡ Some b → a.set ≡ b.set
    → a.number ≡ b.number → ⊥

-- how many triples the families have
abbrev pub triples_of : List Family → ℕ
triples_of [] = 0
triples_of (f ∷ fs) = length f.loads + triples_of fs

-- in the list of the loads that pass a test, each load stands before all later ones
pub listed_rise : (line : Line) (ls : List Load) (P : Load → Type 0) → Lists line P ls → (j k : ℕ) (a b : Load) → j < k
    → slice_get ls j ≡ Some a → slice_get ls k ≡ Some b → Precedes line a b
listed_rise line [] P h j k a b l p q = absurd (cc)
listed_rise line (x ∷ xs) P h j zero a b l p q = absurd (omega (arith, l))
listed_rise line (x ∷ xs) P h zero (suc k) a b l p q = let Q : Load → Type 0 = λ z. Precedes line z b in
    subst Q (same_Some x a p) (first_less line P x xs h k b q)
listed_rise line (x ∷ xs) P h (suc j) (suc k) a b l p q =
    listed_rise line xs (λ l. P l × Precedes line x l) (tail_lists line P x xs h) j k a b (omega (arith, l)) p q

-- families behind others
pub get_append_cases : (xs ys : List Family) (k : ℕ) (f : Family) → slice_get (xs ++ ys) k ≡ Some f
    → (slice_get xs k ≡ Some f) ⊎ ((j : ℕ) × (k ≡ length xs + j) × (slice_get ys j ≡ Some f))
get_append_cases [] ys k f e = inr (k, omega arith, e)
get_append_cases (x ∷ xs) ys zero f e = inl e
get_append_cases (x ∷ xs) ys (suc k) f e = elim (get_append_cases xs ys k f e)
    [ inl a ↦ inl a | inr b ↦ inr (b.0, omega (arith, b.1), b.2) ]

pub different_append : (xs ys : List Family) → AreDifferent xs → AreDifferent ys
    → ((j k : ℕ) (a b : Family) → slice_get xs j ≡ Some a → slice_get ys k ≡ Some b → a.set ≡ b.set
    → a.number ≡ b.number → ⊥) → AreDifferent (xs ++ ys)
different_append xs ys p q r j k a b l e f s n = elim (get_append_cases xs ys j a e) [
  | inl x ↦ elim (get_append_cases xs ys k b f) [
    | inl y ↦ p j k a b l x y s n
    | inr y ↦ r j y.0 a b x y.2 s n
  ]
  | inr x ↦ elim (get_append_cases xs ys k b f) [
    | inl y ↦ absurd (omega (arith, l, x.1, slice_get_within xs k b y))
    | inr y ↦ q x.0 y.0 a b (omega (arith, l, x.1, y.1)) x.2 y.2 s n
  ]
]

pub triples_append : (xs ys : List Family) → triples_of (xs ++ ys) ≡ triples_of xs + triples_of ys
triples_append [] ys = omega arith
triples_append (x ∷ xs) ys = omega (arith, triples_append xs ys)
