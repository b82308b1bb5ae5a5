-- The list of the loads that pass a test, in order, is one.
use Rattle.std.proofs.Common.{◌≡◌, ℕ, zero, suc, List, [], ◌∷◌, refl, sym, ap, ◌∙◌, subst, ◌⊎◌, inl, inr, arith, Some}
use Rattle.std.specs.Prelude.{slice_get}
use Rattle.line_instance.specs.Line.{Line}
use Rattle.std.proofs.lemmas.Option.{same_Some}
use Rattle.line_rules.specs.Order.{truth, Precedes, Lists}
use Rattle.line_rules.specs.declared.types.Load.{Load}
use Rattle.std.proofs.lemmas.Bool.{cases_order, false≢true}
use Rattle.line_rules.proofs.ListFacts.{get_none}

pub precedes_trans : (line : Line) (a b c : Load) → Precedes line a b → Precedes line b c → Precedes line a c
precedes_trans line a b c p q = elim (cases_order p.at q.at) [
  | inl e ↦ absurd (false≢true (sym q.absent ∙ (ap (λ k. truth line b k) (sym e) ∙ p.present)))
  | inr d ↦ elim d [
    | inl l ↦ record {
      at = p.at;
      within = p.within;
      same = λ k h. p.same k h ∙ q.same k (omega arith);
      absent = p.absent;
      present = sym (q.same p.at l) ∙ p.present;
    }
    | inr g ↦ record {
      at = q.at;
      within = q.within;
      same = λ k h. p.same k (omega arith) ∙ q.same k h;
      absent = p.same q.at g ∙ q.absent;
      present = q.present;
    }
  ]
]

pub precedes_itself : (line : Line) (a : Load) → Precedes line a a → ⊥
precedes_itself line a p = false≢true (sym p.absent ∙ p.present)

get_before : (xs : List Load) (k : ℕ) (a : Load) → slice_get xs (suc k) ≡ Some a
    → (b : Load) × (slice_get xs k ≡ Some b)
get_before [] k a e = absurd (cc)
get_before (x ∷ xs) zero a e = (x, refl)
get_before (x ∷ xs) (suc k) a e = get_before xs k a e

-- a load is the first of a rising list, or stands above it
pub first_less : (line : Line) (P : Load → Type 0) (x : Load) (xs : List Load) → Lists line P (x ∷ xs)
    → (k : ℕ) (a : Load) → slice_get xs k ≡ Some a → Precedes line x a
first_less line P x xs h zero a e = h.rises 0 x a refl e
first_less line P x xs h (suc k) a e =
    let b : (b : Load) × (slice_get xs k ≡ Some b) = get_before xs k a e in
    precedes_trans line x b.0 a (first_less line P x xs h k b.0 b.1) (h.rises (suc k) b.0 a b.1 e)

behind : (line : Line) (P : Load → Type 0) (x : Load) (xs : List Load) (a : Load) (k : ℕ)
    → slice_get (x ∷ xs) k ≡ Some a → Precedes line x a → (j : ℕ) × (slice_get xs j ≡ Some a)
behind line P x xs a zero e p = absurd (precedes_itself line x
    (let Q : Load → Type 0 = λ z. Precedes line x z in subst Q (sym (same_Some x a e)) p))
behind line P x xs a (suc k) e p = (k, e)

place_of : (line : Line) (P : Load → Type 0) (x : Load) (xs : List Load) → Lists line P (x ∷ xs) → (a : Load) (k : ℕ)
    → slice_get (x ∷ xs) k ≡ Some a → (x ≡ a) ⊎ Precedes line x a
place_of line P x xs h a zero e = inl (same_Some x a e)
place_of line P x xs h a (suc k) e = inr (first_less line P x xs h k a e)

heads : (line : Line) (P : Load → Type 0) (x y : Load) (xs ys : List Load) → Lists line P (x ∷ xs)
    → Lists line P (y ∷ ys) → x ≡ y
heads line P x y xs ys f g =
    let at_f = f.complete y (g.sound 0 y refl) in
    let at_g = g.complete x (f.sound 0 x refl) in
    elim (place_of line P x xs f y at_f.0 at_f.1) [
      | inl e ↦ e
      | inr up ↦ elim (place_of line P y ys g x at_g.0 at_g.1) [
        | inl e ↦ sym e
        | inr down ↦ absurd (precedes_itself line x (precedes_trans line x y x up down))
      ]
    ]

-- the list after its first load
pub tail_lists : (line : Line) (P : Load → Type 0) (x : Load) (xs : List Load) → Lists line P (x ∷ xs)
    → Lists line (λ l. P l × Precedes line x l) xs
tail_lists line P x xs h = record {
  rises = λ k a b e f. h.rises (suc k) a b e f;
  sound = λ k a e. (h.sound (suc k) a e, first_less line P x xs h k a e);
  complete = λ a p. behind line P x xs a (h.complete a p.0).0 (h.complete a p.0).1 p.1;
}

pub unique : (line : Line) (xs ys : List Load) (P : Load → Type 0) → Lists line P xs → Lists line P ys → xs ≡ ys
unique line [] [] P f g = refl
unique line [] (y ∷ ys) P f g = absurd (get_none (f.complete y (g.sound 0 y refl)).0 y
    (f.complete y (g.sound 0 y refl)).1)
unique line (x ∷ xs) [] P f g = absurd (get_none (g.complete x (f.sound 0 x refl)).0 x
    (g.complete x (f.sound 0 x refl)).1)
unique line (x ∷ xs) (y ∷ ys) P f g =
    let e : x ≡ y = heads line P x y xs ys f g in
    let Q : Load → Type 0 = λ z. Lists line (λ l. P l × Precedes line z l) ys in
    let t : xs ≡ ys = unique line xs ys (λ l. P l × Precedes line x l) (tail_lists line P x xs f)
    (subst Q (sym e) (tail_lists line P y ys g)) in
    λ i. e i ∷ t i
