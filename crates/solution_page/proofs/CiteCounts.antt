-- A list of some of the loads is no longer than that of all of them, so cites are no more than units.
use Rattle.std.proofs.Common.{◌≡◌, ℕ, zero, suc, ◌≤◌, List, [], ◌∷◌, length, refl, sym, subst, arith, Some}
use Rattle.std.specs.Prelude.{slice_get}
use Rattle.std.proofs.lemmas.Option.{same_Some}
use Rattle.line_rules.specs.lines.Line.{Line}
use Rattle.line_rules.specs.Order.{Precedes, Lists}
use Rattle.line_rules.specs.declared.types.Load.{Load}
use Rattle.line_rules.proofs.ListFacts.{get_none}
use Rattle.line_rules.proofs.Unique.{precedes_trans, first_less, tail_lists}

-- what stands above a load of a list stands above its first load
above : (line : Line) (Q : Load → Type 0) (y : Load) (ys : List Load) → Lists line Q (y ∷ ys) → (x : Load) (k : ℕ)
    → slice_get (y ∷ ys) k ≡ Some x → (l : Load) → Precedes line x l → Precedes line y l
above line Q y ys h x zero e l p = let A : Load → Type 0 = λ z. Precedes line z l in subst A (sym (same_Some y x e)) p
above line Q y ys h x (suc k) e l p = precedes_trans line y x l (first_less line Q y ys h k x e) p

-- where each load that passes P passes Q, the list of P is no longer than that of Q
pub fewer : (line : Line) (P Q : Load → Type 0) (xs ys : List Load) → ((l : Load) → P l → Q l) → Lists line P xs
    → Lists line Q ys → length xs ≤ length ys
fewer line P Q [] ys into f g = omega arith
fewer line P Q (x ∷ xs) [] into f g =
    let at : (k : ℕ) × (slice_get [] k ≡ Some x) = g.complete x (into x (f.sound 0 x refl)) in
    absurd (get_none at.0 x at.1)
fewer line P Q (x ∷ xs) (y ∷ ys) into f g =
    let at : (k : ℕ) × (slice_get (y ∷ ys) k ≡ Some x) = g.complete x (into x (f.sound 0 x refl)) in
    let less : length xs ≤ length ys =
    fewer line (λ l. P l × Precedes line x l) (λ l. Q l × Precedes line y l) xs ys
    (λ l p. (into l p.0, above line Q y ys g x at.0 at.1 l p.1)) (tail_lists line P x xs f)
    (tail_lists line Q y ys g) in
    omega arith
