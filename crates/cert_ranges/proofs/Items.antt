-- What is true of the items of a list, as far as a loop has come.
use Rattle.std.proofs.Common.{◌≡◌, ℕ, ◌+◌, ◌<◌, ◌≤◌, List, length, Some, arith, inl, inr, subst}
use Rattle.std.specs.Prelude.{slice_get}
use Rattle.std.proofs.lemmas.Option.{slice_get_within, same_Some}
use Rattle.std.proofs.lemmas.Bool.{cases_lt}

-- P is true of the items below place n
abbrev pub EachBelow : {X : Type 0} → (X → Type 0) → List X → ℕ → Type 0
EachBelow {X} P xs n = (k : ℕ) (x : X) → k < n → slice_get xs k ≡ Some x → P x

pub one_more : {X : Type 0} (P : X → Type 0) (xs : List X) (n : ℕ) (x : X) → slice_get xs n ≡ Some x → P x
    → EachBelow P xs n → EachBelow P xs (n + 1)
one_more P xs n x there p before k y h e = elim (cases_lt k n) [
  | inl l ↦ before k y l e
  | inr g ↦ let s : n ≡ k = omega arith in subst P (same_Some x y
      (let q : slice_get xs k ≡ Some x = subst (λ i. slice_get xs i ≡ Some x) s there in cc)) p
]

pub each_item : {X : Type 0} (P : X → Type 0) (xs : List X) (n : ℕ) → length xs ≤ n → EachBelow P xs n → (k : ℕ) (x : X)
    → slice_get xs k ≡ Some x → P x
each_item P xs n h before k x e = let w : k < length xs = slice_get_within xs k x e in before k x (omega arith) e
