-- The steps of a walk, counted place by place.
use Rattle.std.proofs.Common.{◌≡◌, ℕ, zero, suc, ◌+◌, ◌-◌, inl, inr, List, [], ◌∷◌, ◌++◌, length, refl, sym, subst}
use Rattle.std.proofs.Common.{Some, ◌∙◌, arith, add-one}
use Rattle.std.specs.Prelude.{slice_get}
use Rattle.std.proofs.lemmas.List.{length_push}
use Rattle.std.proofs.lemmas.Option.{same_Some}
use Rattle.sequence_values.specs.declared.types.Times.{Times}
use Rattle.sequence_walk.specs.declared.layers.Layer.{Layer}
use Rattle.sequence_walk.specs.declared.layers.Indexed.{Indexed}
use Rattle.sequence_walk.specs.Walks.{HasSteps, HaveInAll, LayerHasSteps, LayerAtHasSteps, WalkHasSteps}

-- the places below the next one have the steps of those before and of this one
pub one_more : (Has : ℕ → ℕ → Type 0) (k before here n : ℕ) → HaveInAll Has k before → Has k here → n ≡ before + here
    → HaveInAll Has (k + 1) n
one_more Has k before here n all this e = rw add-one (before, here, all, this, e)

-- where each place has the same number by another relation, all have the same number by it
pub same_in_all : (Has Had : ℕ → ℕ → Type 0) → ((k n : ℕ) → Has k n → Had k n) → (k n : ℕ) → HaveInAll Has k n
    → HaveInAll Had k n
same_in_all Has Had h zero n all = all
same_in_all Has Had h (suc k) n all =
    (all.0, all.1, same_in_all Has Had h k all.0 all.2, h k all.1 all.3, all.4)

-- an item stays where it is when others come behind it, and the last one stands behind the others
get_longer : {X : Type 0} (xs ys : List X) (k : ℕ) (x : X) → slice_get xs k ≡ Some x → slice_get (xs ++ ys) k ≡ Some x
get_longer [] ys k x e = absurd (cc)
get_longer (y ∷ xs) ys zero x e = e
get_longer (y ∷ xs) ys (suc k) x e = get_longer xs ys k x e

get_last : {X : Type 0} (xs : List X) (x : X) → slice_get (xs ++ x ∷ []) (length xs) ≡ Some x
get_last [] x = refl
get_last (y ∷ xs) x = get_last xs x

-- the layers before the last one that is put behind them
pub layers_kept : (times : Times) (layers : List Indexed) (last : Indexed) (k n : ℕ)
    → HaveInAll (LayerAtHasSteps times layers) k n → HaveInAll (LayerAtHasSteps times (layers ++ last ∷ [])) k n
layers_kept times layers last k n =
    same_in_all (LayerAtHasSteps times layers) (LayerAtHasSteps times (layers ++ last ∷ []))
    (λ j m h. (h.0, get_longer layers (last ∷ []) j h.0 h.1, h.2)) k n

-- one layer more, the steps of whose states were taken
pub layer_more : (times : Times) (layers new : List Indexed) (last : Indexed) (before here n : ℕ)
    → new ≡ layers ++ last ∷ []
    → HaveInAll (LayerAtHasSteps times layers) (length layers) before → LayerHasSteps times last.layer here
    → n ≡ before + here → HaveInAll (LayerAtHasSteps times new) (length new) n
layer_more times layers new last before here n is all this e =
    let P : List Indexed → Type 0 = λ xs. HaveInAll (LayerAtHasSteps times xs) (length xs) n in
    let Q : ℕ → Type 0 = λ k. HaveInAll (LayerAtHasSteps times (layers ++ last ∷ [])) k n in
    subst P (sym is) (subst Q (sym (length_push layers last))
    (one_more (LayerAtHasSteps times (layers ++ last ∷ [])) (length layers) before here n
    (layers_kept times layers last (length layers) before all)
    (last, get_last layers last, this) e))

-- the last layer is put behind the others, and its steps are not counted
pub walk_ended : (times : Times) (layers new : List Indexed) (last : Indexed) (n : ℕ) → new ≡ layers ++ last ∷ []
    → HaveInAll (LayerAtHasSteps times layers) (length layers) n → WalkHasSteps times new n
walk_ended times layers new last n is all =
    let P : List Indexed → Type 0 = λ xs. WalkHasSteps times xs n in
    let Q : ℕ → Type 0 = λ k. HaveInAll (LayerAtHasSteps times (layers ++ last ∷ [])) k n in
    let many : length layers ≡ length (layers ++ last ∷ []) - 1 = omega (arith, length_push layers last) in
    subst P (sym is) (subst Q many (layers_kept times layers last (length layers) n all))

-- A place has one number of steps and no other; so has a layer, and so have the layers of a walk.
pub one_of_place : (times : Times) (layer : Layer) (k m n : ℕ) → HasSteps times layer k m → HasSteps times layer k n
    → m ≡ n
one_of_place times layer k m n a b = elim a [
  | inl p ↦ elim b [ inl q ↦ p.1 ∙ sym q.1 | inr q ↦ absurd (q.0 p.0) ]
  | inr p ↦ elim b [ inl q ↦ absurd (p.0 q.0) | inr q ↦ p.1 ∙ sym q.1 ]
]

one_in_all : (Has : ℕ → ℕ → Type 0) → ((k m n : ℕ) → Has k m → Has k n → m ≡ n) → (k m n : ℕ) → HaveInAll Has k m
    → HaveInAll Has k n → m ≡ n
one_in_all Has one zero m n a b = a ∙ sym b
one_in_all Has one (suc k) m n a b =
    omega (arith, a.4, b.4, one_in_all Has one k a.0 b.0 a.2 b.2, one k a.1 b.1 a.3 b.3)

pub one_of_layer : (times : Times) (layer : Layer) (m n : ℕ) → LayerHasSteps times layer m → LayerHasSteps times layer n
    → m ≡ n
one_of_layer times layer m n = one_in_all (HasSteps times layer) (one_of_place times layer) _ m n

pub one_of_walk : (times : Times) (layers : List Indexed) (m n : ℕ) → WalkHasSteps times layers m
    → WalkHasSteps times layers n → m ≡ n
one_of_walk times layers m n = one_in_all (LayerAtHasSteps times layers) one_here _ m n
  where
    one_here : (k i j : ℕ) → LayerAtHasSteps times layers k i → LayerAtHasSteps times layers k j → i ≡ j
    one_here k i j a b =
        let same : a.0 ≡ b.0 = same_Some a.0 b.0 (sym a.1 ∙ b.1) in
        let P : Indexed → Type 0 = λ x. LayerHasSteps times x.layer i in
        one_of_layer times b.0.layer i j (subst P same a.2) b.2
