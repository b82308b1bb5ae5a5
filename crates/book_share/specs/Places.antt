-- Places of a history, and lists of events of which one goes further. Own.
use Rattle.std.specs.Prelude.{◌≡◌, ℕ, suc, ◌+◌, ◌≤◌, cond, ◌&&◌, nat_eq, nat_lt, nat_le, List, [], ◌∷◌, length}
use Rattle.lemma_core.specs.History.{Item}

-- the list without its last item
abbrev pub but_last : List Item → List Item
but_last [] = []
but_last (x ∷ []) = []
but_last (x ∷ y ∷ ys) = x ∷ but_last (y ∷ ys)

-- of two lists the one that goes further, and the other; the first goes further where they are equally long
abbrev pub longer : List Item → List Item → List Item
longer xs ys = cond (nat_lt (length xs) (length ys)) ys xs

abbrev pub shorter : List Item → List Item → List Item
shorter xs ys = cond (nat_lt (length xs) (length ys)) xs ys

-- how often x stands among the places
abbrev pub times : ℕ → List ℕ → ℕ
times x [] = 0
times x (y ∷ ys) = cond (nat_eq x y) 1 0 + times x ys

-- 1 for a place from `from` on and below n, and 0 for any other
abbrev pub once_from : ℕ → ℕ → ℕ → ℕ
once_from from n x = cond (nat_le from x && nat_lt x n) 1 0

-- the places are those from `from` on and below n, each once
abbrev pub AreAllFrom : ℕ → ℕ → List ℕ → Type 0
AreAllFrom from n places = (x : ℕ) → times x places ≡ once_from from n x

-- no place stands in both lists, nor twice in one
abbrev pub AreApart : List ℕ → List ℕ → Type 0
AreApart xs ys = (x : ℕ) → times x xs + times x ys ≤ 1

-- the places rise, from `low` on and below `high`
abbrev pub Rises : ℕ → List ℕ → ℕ → Type 0
Rises low [] high = low ≤ high
Rises low (x ∷ xs) high = (low ≤ x) × Rises (suc x) xs high

-- a place put into rising ones
abbrev pub put_in : ℕ → List ℕ → List ℕ
put_in x [] = x ∷ []
put_in x (y ∷ ys) = cond (nat_lt x y) (x ∷ y ∷ ys) (y ∷ put_in x ys)

-- two rising lists made one
abbrev pub merged : List ℕ → List ℕ → List ℕ
merged xs [] = xs
merged xs (y ∷ ys) = put_in y (merged xs ys)

-- the sum of f of each
abbrev pub total : {A : Type 0} → (A → ℕ) → List A → ℕ
total f [] = 0
total f (v ∷ vs) = f v + total f vs
