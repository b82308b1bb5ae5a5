-- Steps that are covered, one more of them; the units of a frame.
use Rattle.std.proofs.Common.{◌≡◌, ℕ, suc, ◌+◌, ◌-◌, ◌<◌, ◌≤◌, Bool, true, false, nat_lt, List, [], ◌∷◌, ◌++◌, length}
use Rattle.std.proofs.Common.{get_or, refl, sym, ap, ◌∙◌, subst, inl, inr, add-one, arith, Some, length-append, sum}
use Rattle.std.specs.Prelude.{slice_get, All}
use Rattle.std.proofs.lemmas.Bool.Decides.{nat_tests}
use Rattle.std.proofs.lemmas.Option.{slice_get-get_or, slice_get_within}
use Rattle.std.proofs.lemmas.List.Sums.{sum_by-cons}
use Rattle.line_rules.proofs.ListFacts.{get_longer, get_push_cases, get_some}
use Rattle.sequence_values.specs.declared.types.Times.{Times}
use Rattle.sequence_values.specs.declared.types.SeqEntry.{SeqEntry}
use Rattle.sequence_rules.specs.States.{step_cost, next_starts, less_one}
use Rattle.sequence_rules.specs.Entries.{IsCited, Covers, is_left, needs_cite, passing, models_left}
use Rattle.sequence_rules.proofs.PassingNumbers.{passing_no, passing_yes, passing_same, count_yes, left_needs}
use Rattle.sequence_search.specs.About.{About, charges_of}
use Rattle.sequence_search.specs.Steps.{IsNoModel}

-- what is covered stays so with more entries
pub covers_grow : (t : Times) (interval reach : ℕ) (about : About) (es more : List SeqEntry) (rem starts : List ℕ) (need n : ℕ)
    (cites : List ℕ)
    → Covers t interval reach (charges_of about) es rem starts need n cites → Covers t interval reach (charges_of about) (es ++ more) rem starts need n cites
covers_grow t interval reach about es more rem starts need n cites h = record {
  as_many = h.as_many;
  cited = λ p m x g c.
      let own : IsCited (charges_of about) es x (less_one rem m) (next_starts t interval reach m starts)
      (need - step_cost t reach m starts) = h.cited p m x g c in
      record { entry = own.entry; there = get_longer es more x own.entry own.there; answers = own.answers };
}

-- the same steps need a cite below another number
covers_as : (t : Times) (interval reach : ℕ) (about : About) (es : List SeqEntry) (rem starts : List ℕ) (need a b : ℕ) (cites : List ℕ)
    → passing (needs_cite t interval reach rem starts need) b ≡ passing (needs_cite t interval reach rem starts need) a
    → Covers t interval reach (charges_of about) es rem starts need a cites → Covers t interval reach (charges_of about) es rem starts need b cites
covers_as t interval reach about es rem starts need a b cites e h =
    let Q : List ℕ → Type 0 = λ xs. (length cites ≡ length xs)
    × ((p m x : ℕ) → slice_get xs p ≡ Some m → slice_get cites p ≡ Some x
    → IsCited (charges_of about) es x (less_one rem m) (next_starts t interval reach m starts) (need - step_cost t reach m starts)) in
    let q : Q (passing (needs_cite t interval reach rem starts need) b) = subst Q (sym e) (h.as_many, h.cited) in
    record { as_many = q.0; cited = q.1 }

-- models of which no unit is left
pub covers_skip : (t : Times) (interval reach : ℕ) (about : About) (es : List SeqEntry) (rem starts : List ℕ) (need a b : ℕ)
    (cites : List ℕ) → a ≤ b
    → ((m : ℕ) → a ≤ m → m < b → is_left rem m ≡ false)
    → Covers t interval reach (charges_of about) es rem starts need a cites → Covers t interval reach (charges_of about) es rem starts need b cites
covers_skip t interval reach about es rem starts need a b cites l none h =
    covers_as t interval reach about es rem starts need a b cites
    (passing_same (needs_cite t interval reach rem starts need) a b l
    (λ m g u. left_needs t interval reach rem starts need m (none m g u))) h

-- a step that needs no cite
pub covers_no : (t : Times) (interval reach : ℕ) (about : About) (es : List SeqEntry) (rem starts : List ℕ) (need m : ℕ)
    (cites : List ℕ)
    → needs_cite t interval reach rem starts need m ≡ false
    → Covers t interval reach (charges_of about) es rem starts need m cites → Covers t interval reach (charges_of about) es rem starts need (suc m) cites
covers_no t interval reach about es rem starts need m cites e h =
    covers_as t interval reach about es rem starts need m (suc m) cites
    (ap (λ k. passing (needs_cite t interval reach rem starts need) k) (sym (add-one m))
    ∙ passing_no (needs_cite t interval reach rem starts need) m e) h

-- a step with its cite
pub covers_yes : (t : Times) (interval reach : ℕ) (about : About) (es : List SeqEntry) (rem starts : List ℕ) (need m id : ℕ)
    (cites : List ℕ)
    → needs_cite t interval reach rem starts need m ≡ true
    → IsCited (charges_of about) es id (less_one rem m) (next_starts t interval reach m starts) (need - step_cost t reach m starts)
    → Covers t interval reach (charges_of about) es rem starts need m cites → Covers t interval reach (charges_of about) es rem starts need (suc m)
    (cites ++ id ∷ [])
covers_yes t interval reach about es rem starts need m id cites e a h =
    let test : ℕ → Bool = needs_cite t interval reach rem starts need in
    let A : ℕ → ℕ → Type 0 = λ k x. IsCited (charges_of about) es x (less_one rem k) (next_starts t interval reach k starts)
    (need - step_cost t reach k starts) in
    let Q : List ℕ → Type 0 = λ xs. (length (cites ++ id ∷ []) ≡ length xs)
    × ((p k x : ℕ) → slice_get xs p ≡ Some k → slice_get (cites ++ id ∷ []) p ≡ Some x → A k x) in
    let all : Q (passing test m ++ m ∷ []) = (
      omega (arith, h.as_many, length-append (passing test m) (m ∷ []), length-append cites (id ∷ [])),
      λ p k x g c. elim (get_push_cases (passing test m) m k p g) [
        | inl u ↦ elim (get_push_cases cites id x p c) [
          | inl v ↦ h.cited p k x u.1 v.1
          | inr v ↦
              absurd (omega (arith, u.0, v.0, h.as_many))
        ]
        | inr u ↦ elim (get_push_cases cites id x p c) [
          | inl v ↦ absurd (omega (arith, u.0, v.0, h.as_many))
          | inr v ↦
              let B : ℕ → Type 0 = λ z. A m z in
              let C : ℕ → Type 0 = λ z. A z x in
              subst C u.1 (subst B v.1 a)
        ]
      ],
    ) in
    let q : Q (passing test (suc m)) = subst Q (sym (ap (λ k. passing test k) (sym (add-one m)) ∙ passing_yes test m e))
    all in
    record { as_many = q.0; cited = q.1 }

-- no step below 0 needs a cite
pub covers_none : (t : Times) (interval reach : ℕ) (about : About) (es : List SeqEntry) (rem starts : List ℕ) (need : ℕ)
    → Covers t interval reach (charges_of about) es rem starts need 0 []
covers_none t interval reach about es rem starts need = record { as_many = refl; cited = λ p m x g c. absurd (cc) }

-- each cite is of an entry
pub cites_within : (t : Times) (interval reach : ℕ) (about : About) (es : List SeqEntry) (rem starts : List ℕ) (need n : ℕ)
    (cites : List ℕ)
    → Covers t interval reach (charges_of about) es rem starts need n cites → All (λ x. x < length es) cites
cites_within t interval reach about es rem starts need n cites h k d l =
    let test : ℕ → Bool = needs_cite t interval reach rem starts need in
    let m : (m : ℕ) × (slice_get (passing test n) k ≡ Some m) =
    get_some (passing test n) k (omega (arith, l, h.as_many)) in
    let own = h.cited k m.0 (get_or cites k d) m.1 (slice_get-get_or cites k d l) in
    slice_get_within es (get_or cites k d) own.entry own.there

-- a frame's units with one step more
pub units_step : (rem : List ℕ) (a m : ℕ) → a ≤ m → ((k : ℕ) → a ≤ k → k < m → is_left rem k ≡ false)
    → is_left rem m ≡ true → models_left rem (suc m) ≡ models_left rem a + 1
units_step rem a m l none left =
    let same : models_left rem m ≡ models_left rem a = ap (λ (xs : List ℕ). length xs)
    (passing_same (is_left rem) a m l none) in
    omega (arith, ap (λ k. models_left rem k) (add-one m), count_yes (is_left rem) m left, same)

pub units_end : (rem : List ℕ) (a : ℕ) → a ≤ length rem → IsNoModel rem a
    → models_left rem (length rem) ≡ models_left rem a
units_end rem a l none = ap (λ (xs : List ℕ). length xs) (passing_same (is_left rem) a (length rem) l
    (λ k g u. none k g))

-- where no model has a unit left, no unit is left
pub none_sum : (rem : List ℕ) → IsNoModel rem 0 → sum rem ≡ 0
none_sum [] h = refl
none_sum (x ∷ rem) h =
    let here : x ≡ 0 = nought x (h 0 (omega arith)) in
    omega (arith, sum_by-cons (λ n. n) x rem, here, none_sum rem (λ m l. h (suc m) (omega arith)))
  where
    nought : (x : ℕ) → nat_lt 0 x ≡ false → x ≡ 0
    nought x e = grind (arith, nat_tests)
