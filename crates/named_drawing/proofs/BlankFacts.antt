-- The best blank of a text is best: no other one leaves the wider part less wide, and none before it as wide.
use Rattle.std.proofs.Common.{◌≡◌, ℕ, zero, suc, ◌<◌, ◌≤◌, Bool, true, false, cond, ◌&&◌, nat_lt, List, length}
use Rattle.std.proofs.Common.{refl, sym, ◌∙◌, subst, inl, inr, arith, Option, Some, None}
use Rattle.std.proofs.lemmas.Bool.{cases_lt, false≢true, ltb-true, ltb-false}
use Rattle.named_drawing.specs.Widths.{best_below, best_blank, better_place, is_blank_at, wider_part}
use Rattle.named_drawing.specs.NamedFacts.{IsBestBlank}

-- a place is the best among the first n
record IsBestOf (text : List ℕ) (n at : ℕ) : Type 0 where
  within : at < n
  blank : is_blank_at text at ≡ true
  least : (j : ℕ) → j < n → is_blank_at text j ≡ true → wider_part text at ≤ wider_part text j
  first : (j : ℕ) → j < at → is_blank_at text j ≡ true → wider_part text at < wider_part text j

abbrev IsBest : List ℕ → ℕ → Option ℕ → Type 0
IsBest text n None = (j : ℕ) → j < n → is_blank_at text j ≡ true → ⊥
IsBest text n (Some at) = IsBestOf text n at

-- what holds of each place below n, and of n, holds of each below the next
one_more : (P : ℕ → Type 0) (n : ℕ) → ((j : ℕ) → j < n → P j) → P n → (j : ℕ) → j < suc n → P j
one_more P n below here j l = elim (cases_lt j n) [
  | inl h ↦ below j h
  | inr h ↦ let same : n ≡ j = omega (arith, l, h) in subst P same here
]

module _ (text : List ℕ) (n : ℕ) where
  found_first : (b : Bool) → is_blank_at text n ≡ b → ((j : ℕ) → j < n → is_blank_at text j ≡ true → ⊥)
      → IsBest text (suc n) (cond b (Some n) None)
  found_first true e none = record {
    within = omega arith;
    blank = e;
    least = one_more (λ j. is_blank_at text j ≡ true → wider_part text n ≤ wider_part text j) n
        (λ j l f. absurd (none j l f)) (λ f. omega arith);
    first = λ j l f. absurd (none j l f);
  }
  found_first false e none = one_more (λ j. is_blank_at text j ≡ true → ⊥) n none (λ f. false≢true (sym e ∙ f))

  found_later : (b less : Bool) (at : ℕ) → is_blank_at text n ≡ b
      → nat_lt (wider_part text n) (wider_part text at) ≡ less → IsBestOf text n at
      → IsBest text (suc n) (cond (b && less) (Some n) (Some at))
  found_later true true at e f best =
      let below : wider_part text n < wider_part text at = ltb-true (wider_part text n) (wider_part text at) f in
      record {
        within = omega arith;
        blank = e;
        least = one_more (λ j. is_blank_at text j ≡ true → wider_part text n ≤ wider_part text j) n
            (λ j l g. omega (arith, below, best.least j l g)) (λ g. omega arith);
        first = λ j l g. omega (arith, below, best.least j l g);
      }
  found_later true false at e f best =
      let above : wider_part text at ≤ wider_part text n = ltb-false (wider_part text n) (wider_part text at) f in
      record {
        within = omega (arith, best.within);
        blank = best.blank;
        least = one_more (λ j. is_blank_at text j ≡ true → wider_part text at ≤ wider_part text j) n best.least
            (λ g. above);
        first = best.first;
      }
  found_later false less at e f best = record {
    within = omega (arith, best.within);
    blank = best.blank;
    least = one_more (λ j. is_blank_at text j ≡ true → wider_part text at ≤ wider_part text j) n best.least
        (λ g. absurd (false≢true (sym e ∙ g)));
    first = best.first;
  }

best_is : (text : List ℕ) (n : ℕ) → IsBest text n (best_below text n)
best_is text zero = λ j l f. omega (arith, l)
best_is text (suc n) = by (best_below text n) (best_is text n)
  where
    by : (found : Option ℕ) → IsBest text n found → IsBest text (suc n) (better_place text found n)
    by None none = found_first text n (is_blank_at text n) refl none
    by (Some at) best = found_later text n (is_blank_at text n) (nat_lt (wider_part text n) (wider_part text at)) at
        refl refl
        best

-- the best blank of a text
pub best_of_all : (text : List ℕ) (at : ℕ) → best_blank text ≡ Some at → IsBestBlank text at
best_of_all text at e =
    let P : Option ℕ → Type 0 = λ o. IsBest text (length text) o in
    let best : IsBestOf text (length text) at = subst P e (best_is text (length text)) in
    record { within = best.within; blank = best.blank; least = best.least; first = best.first }
