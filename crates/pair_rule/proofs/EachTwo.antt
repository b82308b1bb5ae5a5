-- Going over two tasks at a time: each one against those that are left.
use Rattle.std.proofs.Common.{◌≡◌, ◌≢◌, ℕ, Bool, false, List, set, sym, subst, inl, inr}
use Rattle.line_instance.specs.Truths.{In}
use Rattle.line_instance.specs.Line.{Line, IsLine}
use Rattle.line_instance.proofs.Members.{In-clear, In-clear_kept, In-clear_gone}
use Rattle.line_rules.specs.declared.types.LineKind.{LineKind}
use Rattle.line_rules.proofs.MembersInOrder.{IsLeft, one_less}
use Rattle.line_rules.specs.Pairs.{Conflict}
use Rattle.line_rules.proofs.Between.{both_conflict}

-- each other task of two conflicts with j
abbrev pub Faces : LineKind → Line → ℕ → List Bool → List Bool → ℕ → Type 0
Faces kind line c R two j = (i : ℕ) → In two i → (i ≡ j → ⊥) → Conflict kind line c R i j

module _ (kind : LineKind) (line : Line) (c : ℕ) (R two left : List Bool) (j : ℕ) (now : List Bool)
    (h : IsLeft (In two) (Faces kind line c R two) left) (m : In left j) (e : now ≡ set left j false) where
  -- a task that is left is of two, and another one than j
  pub left_of_two : (i : ℕ) → In now i → In two i
  left_of_two i k = h.within i (In-clear_kept left j i (let P : List Bool → Type 0 = λ s. In s i in subst P e k))

  pub left_other : (i : ℕ) → In now i → i ≢ j
  left_other i k s = In-clear_gone left j
      (let P : ℕ → Type 0 = λ x. In (set left j false) x in subst P s
      (let Q : List Bool → Type 0 = λ q. In q i in subst Q e k))

  -- those that are gone over face j, and so do those that are left
  pub two_turn : IsLine line → ((i : ℕ) → In now i → Conflict kind line c R i j)
      → IsLeft (In two) (Faces kind line c R two) now
  two_turn ok all = subst (IsLeft (In two) (Faces kind line c R two)) (sym e)
      (one_less (In two) (Faces kind line c R two) left h j (λ i t n. elim (h.others i t) [
        | inl l ↦ all i (let P : List Bool → Type 0 = λ s. In s i in subst P (sym e) (In-clear left j i l n))
        | inr f ↦ both_conflict kind line c R j i ok (f j (h.within j m) (λ s. n (sym s)))
      ]))
