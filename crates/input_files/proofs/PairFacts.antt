-- Pairs of two lists, one behind the other.
use Rattle.std.proofs.Common.{◌≡◌, ◌-◌, ◌↔◌, ◌⊎◌, ℕ, List, ◌++◌, length, inl, inr, arith, subst, sym}
use Rattle.std.proofs.Common.{length-append}
use Rattle.std.proofs.Common.{refl}
use Rattle.std.proofs.lemmas.Bool.{cases_lt}
use Rattle.std.proofs.lemmas.List.{get_or_append_left, get_or-append_right}
use Rattle.std.proofs.lemmas.List.Elements.{Contains-append_left, Contains-append_right, Contains-append_cases}
use Rattle.line_instance.specs.Line.{Line, Apart}
use Rattle.line_instance.specs.Walks.{ArePairs, IsGiven, Names}
use Rattle.line_instance.specs.declared.arcs.Prec.{Prec}

-- what is asked of each pair
abbrev IsPair : ℕ → Prec → Type 0
IsPair n a = Names n a × (a.first ≡ a.«then» → ⊥)

pub are_pairs : (n : ℕ) (xs ys : List Prec) → ArePairs n xs → ArePairs n ys → ArePairs n (xs ++ ys)
are_pairs n xs ys a b k l =
    let none : Prec = record { first = 0; «then» = 0 } in
    let P : Prec → Type 0 = IsPair n in
    elim (cases_lt k (length xs)) [
      | inl x ↦ subst P (sym (get_or_append_left xs ys none k x)) (a k x)
      | inr y ↦ subst P (sym (get_or-append_right xs ys (length xs) k none refl y))
          (b (k - length xs) (omega (arith, l, y, length-append xs ys)))
    ]

-- a pair of both lists is one of either
pub given_both : (xs ys : List Prec) (i j : ℕ) → IsGiven (xs ++ ys) i j ↔ (IsGiven xs i j ⊎ IsGiven ys i j)
given_both xs ys i j = (there, back)
  where
    there : IsGiven (xs ++ ys) i j → IsGiven xs i j ⊎ IsGiven ys i j
    there (inl a) = elim (Contains-append_cases xs ys _ a) [ inl x ↦ inl (inl x) | inr y ↦ inr (inl y) ]
    there (inr a) = elim (Contains-append_cases xs ys _ a) [ inl x ↦ inl (inr x) | inr y ↦ inr (inr y) ]

    back : IsGiven xs i j ⊎ IsGiven ys i j → IsGiven (xs ++ ys) i j
    back (inl (inl x)) = inl (Contains-append_left xs ys _ x)
    back (inl (inr x)) = inr (Contains-append_left xs ys _ x)
    back (inr (inl y)) = inl (Contains-append_right xs ys _ y)
    back (inr (inr y)) = inr (Contains-append_right xs ys _ y)

-- a line of which these pairs are apart, and then others besides
pub parts_both : (old new : Line) (listed pairs all : List Prec) → all ≡ listed ++ pairs
    → ((i j : ℕ) → Apart new i j ↔ IsGiven all i j) → ((i j : ℕ) → Apart old i j ↔ IsGiven listed i j)
    → (i j : ℕ) → Apart new i j ↔ (Apart old i j ⊎ IsGiven pairs i j)
parts_both old new listed pairs all e now was i j = (there, back)
  where
    there : Apart new i j → Apart old i j ⊎ IsGiven pairs i j
    there a = let G : List Prec → Type 0 = λ ps. IsGiven ps i j in
        elim ((given_both listed pairs i j).0 (subst G e ((now i j).0 a))) [
          | inl x ↦ inl ((was i j).1 x)
          | inr y ↦ inr y
        ]

    back : Apart old i j ⊎ IsGiven pairs i j → Apart new i j
    back (inl x) = let G : List Prec → Type 0 = λ ps. IsGiven ps i j in
        (now i j).1 (subst G (sym e) ((given_both listed pairs i j).1 (inl ((was i j).0 x))))
    back (inr y) = let G : List Prec → Type 0 = λ ps. IsGiven ps i j in
        (now i j).1 (subst G (sym e) ((given_both listed pairs i j).1 (inr y)))
