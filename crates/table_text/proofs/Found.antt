-- Members of mapped and filtered lists.
use Rattle.std.proofs.Common.{◌≡◌, ℕ, zero, suc, ◌<◌, ◌≤◌, Bool, true, false, cond, List, [], ◌∷◌, length}
use Rattle.std.proofs.Common.{get_or, Option, Some, None, refl, sym, ap, ◌∙◌, subst, inl, inr, arith, length-append}
use Rattle.std.specs.Prelude.{All, filter, filter_map, map, take, drop}
use Rattle.std.specs.List.{Contains, cons_option}
use Rattle.std.proofs.lemmas.Bool.{cases_lt}
use Rattle.std.proofs.lemmas.List.{take-append-drop}
use Rattle.std.proofs.lemmas.List.Elements.{All-append, All-cons, All-nil, Contains-append_left, Contains-append_right}
use Rattle.std.proofs.lemmas.List.Elements.{filter-append}
use Rattle.table_text.specs.TableText.{those_below}

pub tail_all : {X : Type 0} (P : X → Type 0) (x : X) (xs : List X) → All P (x ∷ xs) → All P xs
tail_all P x xs h = λ i d l. h (suc i) d (omega (arith, l))

-- one that is contained passes where all pass
pub all_contained : {X : Type 0} (P : X → Type 0) (xs : List X) (x : X) → All P xs → Contains xs x → P x
all_contained P xs x h c = subst P c.2 (h c.0 x c.1)

-- what holds of those below a number that pass
pub all_below : (P : ℕ → Type 0) (p : ℕ → Bool) (n : ℕ) → ((i : ℕ) → i < n → p i ≡ true → P i) → All P (those_below p n)
all_below P p zero h = All-nil P
all_below P p (suc n) h =
    All-append P (those_below p n) (cond (p n) (n ∷ []) [])
    (all_below P p n (λ i l. h i (omega (arith, l)))) (last (p n) refl)
  where
    last : (b : Bool) → p n ≡ b → All P (cond b (n ∷ []) [])
    last true e = All-cons P n [] (h n (omega arith) e) (All-nil P)
    last false e = All-nil P

pub below_has : (p : ℕ → Bool) (n i : ℕ) → i < n → p i ≡ true → Contains (those_below p n) i
below_has p zero i l e = absurd (omega (arith, l))
below_has p (suc n) i l e = elim (cases_lt i n) [
  | inl m ↦ Contains-append_left (those_below p n) (cond (p n) (n ∷ []) []) i (below_has p n i m e)
  | inr m ↦
      let same : i ≡ n = omega (arith, l, m) in
      let here : p n ≡ true = ap p (sym same) ∙ e in
      let P : Bool → Type 0 = λ b. Contains (cond b (n ∷ []) []) i in
      let one : Contains (n ∷ []) i = (0, omega arith, sym same) in
      Contains-append_right (those_below p n) (cond (p n) (n ∷ []) []) i (subst P (sym here) one)
]

pub mapped_has : {X Y : Type 0} (f : X → Y) (xs : List X) (x : X) → Contains xs x → Contains (map f xs) (f x)
mapped_has f xs x c = at xs c.0 c.1 c.2
  where
    at : (ys : List _) (k : ℕ) → k < length ys → get_or ys k x ≡ x → Contains (map f ys) (f x)
    at [] k l e = absurd (omega (arith, l))
    at (y ∷ ys) zero l e = (0, omega arith, ap f e)
    at (y ∷ ys) (suc k) l e =
        let h = at ys k (omega (arith, l)) e in (suc h.0, omega (arith, h.1), h.2)

-- what is kept of a list
pub kept_all : {X Y : Type 0} (h : X → Option Y) (P : X → Type 0) (Q : Y → Type 0)
    → ((x : X) (y : Y) → P x → h x ≡ Some y → Q y) → (xs : List X) → All P xs → All Q (filter_map h xs)
kept_all h P Q from [] all = All-nil Q
kept_all {X} {Y} h P Q from (x ∷ xs) all = by (h x) refl (kept_all h P Q from xs (tail_all P x xs all))
  where
    by : (o : Option Y) → h x ≡ o → All Q (filter_map h xs) → All Q (cons_option o (filter_map h xs))
    by (Some y) e rest = All-cons Q y (filter_map h xs) (from x y (all 0 x (omega arith)) e) rest
    by None e rest = rest

pub kept_has : {X Y : Type 0} (h : X → Option Y) (xs : List X) (x : X) (y : Y) → Contains xs x → h x ≡ Some y
    → Contains (filter_map h xs) y
kept_has {X} {Y} h xs x y c e = at xs c.0 c.1 c.2
  where
    behind : (o : Option Y) (ys : List Y) → Contains ys y → Contains (cons_option o ys) y
    behind (Some z) ys g = (suc g.0, omega (arith, g.1), g.2)
    behind None ys g = g

    first : (o : Option Y) (ys : List Y) → o ≡ Some y → Contains (cons_option o ys) y
    first o ys f = subst (λ q. Contains (cons_option q ys) y) (sym f) (0, omega arith, refl)

    at : (ys : List X) (k : ℕ) → k < length ys → get_or ys k x ≡ x → Contains (filter_map h ys) y
    at [] k l f = absurd (omega (arith, l))
    at (z ∷ ys) zero l f = first (h z) (filter_map h ys) (ap h f ∙ e)
    at (z ∷ ys) (suc k) l f = behind (h z) (filter_map h ys) (at ys k (omega (arith, l)) f)

-- how many of mapped items pass a test that all or none of them pass
pub all_pass : {X Y : Type 0} (f : Y → Bool) (g : X → Y) → ((x : X) → f (g x) ≡ true) → (xs : List X)
    → length (filter f (map g xs)) ≡ length xs
all_pass f g h [] = refl
all_pass f g h (x ∷ xs) =
    ap (λ b. length (cond b (g x ∷ filter f (map g xs)) (filter f (map g xs)))) (h x) ∙ ap suc (all_pass f g h xs)

pub none_pass : {X Y : Type 0} (f : Y → Bool) (g : X → Y) → ((x : X) → f (g x) ≡ false) → (xs : List X)
    → length (filter f (map g xs)) ≡ 0
none_pass f g h [] = refl
none_pass f g h (x ∷ xs) =
    ap (λ b. length (cond b (g x ∷ filter f (map g xs)) (filter f (map g xs)))) (h x) ∙ none_pass f g h xs

-- what is taken of a list has no more of them
pub taken_pass : {X : Type 0} (f : X → Bool) (p : ℕ) (xs : List X)
    → length (filter f (take p xs)) ≤ length (filter f xs)
taken_pass f p xs =
    omega (
      arith,
      ap (λ t. length (filter f t)) (sym (take-append-drop p xs)),
      ap length (filter-append f (take p xs) (drop p xs)),
      length-append (filter f (take p xs)) (filter f (drop p xs)),
    )
