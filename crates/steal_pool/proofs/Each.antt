-- Lists of which each item comes from its place and an item of another list.
use Rattle.std.proofs.Common.{◌≡◌, ◌≢◌, ℕ, zero, suc, ◌+◌, ◌<◌, ◌≤◌, List, [], ◌∷◌, ◌++◌, length, map, get_or, refl}
use Rattle.std.proofs.Common.{sym, ap, ◌∙◌, subst, arith, Some}
use Rattle.std.specs.Prelude.{slice_get}
use Rattle.std.proofs.lemmas.Option.{same_Some}
use Rattle.steal_pool.specs.Hands.{each_from}
use Rattle.steal_pool.specs.Calls.{change}

module _ {A B : Type 0} where
  pub length_each : (f : ℕ → A → B) (i : ℕ) (l : List A) → length (each_from f i l) ≡ length l
  length_each f i [] = refl
  length_each f i (x ∷ xs) = ap suc (length_each f (suc i) xs)

  pub each_push : (f : ℕ → A → B) (i n : ℕ) (l : List A) (x : A) → n ≡ i + length l
      → each_from f i (l ++ x ∷ []) ≡ each_from f i l ++ f n x ∷ []
  each_push f i n [] x e = ap (λ k. f k x ∷ []) (omega arith)
  each_push f i n (y ∷ ys) x e = ap (λ z. f i y ∷ z) (each_push f (suc i) n ys x (omega arith))

  pub each_get : (f : ℕ → A → B) (i k n : ℕ) (l : List A) (x : A) (d : B) → n ≡ i + k → k < length l → x ≡ get_or l k x
      → get_or (each_from f i l) k d ≡ f n x
  each_get f i k n [] x d e b at = absurd (omega arith)
  each_get f i zero n (y ∷ ys) x d e b at = (λ j. f ((λ (p : i ≡ n). p) (omega arith) j) (sym at j))
  each_get f i (suc k) n (y ∷ ys) x d e b at = each_get f (suc i) k n ys x d (omega arith) (omega arith) at

  -- where two functions tell the same of each place, the lists are the same
  pub each_same : (f g : ℕ → A → B) (i : ℕ) (l : List A) → ((k : ℕ) (x : A) → i ≤ k → k < i + length l → f k x ≡ g k x)
      → each_from f i l ≡ each_from g i l
  each_same f g i [] h = refl
  each_same f g i (x ∷ xs) h = (λ j. h i x (omega arith) (omega arith) j ∷ each_same f g (suc i) xs
      (λ k y low b. h k y (omega arith) (omega arith)) j)

  pub each_map : {C : Type 0} (g : B → C) (f : ℕ → A → B) (i : ℕ) (l : List A)
      → map g (each_from f i l) ≡ each_from (λ k x. g (f k x)) i l
  each_map g f i [] = refl
  each_map g f i (x ∷ xs) = ap (λ z. g (f i x) ∷ z) (each_map g f (suc i) xs)

  -- one item changes, at the place n
  pub each_change : (c : B → B) (f g : ℕ → A → B) (i k n : ℕ) (l : List A) → n ≡ i + k → ((x : A) → g n x ≡ c (f n x))
      → ((j : ℕ) (x : A) → j ≢ n → g j x ≡ f j x) → change c k (each_from f i l) ≡ each_from g i l
  each_change c f g i k n [] e here else = refl
  each_change c f g i zero n (x ∷ xs) e here else =
      let same : i ≡ n = omega arith in
      (λ j. subst (λ (m : ℕ). c (f m x) ≡ g m x) (sym same) (sym (here x)) j ∷ each_same f g (suc i) xs
      (λ k y low b. sym (else k y (λ p. omega arith))) j)
  each_change c f g i (suc k) n (x ∷ xs) e here else =
      (λ j. sym (else i x (λ p. omega arith)) j ∷ each_change c f g (suc i) k n xs (omega arith) here else j)

-- an item at a place of such a list
pub each_there : {A B : Type 0} (f : ℕ → A → B) (i k n : ℕ) (l : List A) (v : B) → n ≡ i + k
    → slice_get (each_from f i l) k ≡ Some v → (x : A) × (slice_get l k ≡ Some x) × (v ≡ f n x)
each_there f i k n [] v e at = absurd (cc)
each_there f i zero n (x ∷ xs) v e at = (x, refl, sym (same_Some _ _ at) ∙ ap (λ m. f m x) (omega arith))
each_there f i (suc k) n (x ∷ xs) v e at = each_there f (suc i) k n xs v (omega arith) at

pub map_each : {A : Type 0} (i : ℕ) (l : List A) → each_from (λ k x. x) i l ≡ l
map_each i [] = refl
map_each i (x ∷ xs) = ap (λ z. x ∷ z) (map_each (suc i) xs)
