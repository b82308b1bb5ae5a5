-- Entries that are checked one after the other.
use Rattle.std.proofs.Common.{◌≡◌, ℕ, ◌+◌, ◌<◌, ◌≤◌, List, length, take, refl, sym, ap, ◌∙◌, subst, inl, inr, arith}
use Rattle.std.proofs.Common.{Some}
use Rattle.std.specs.Prelude.{slice_get, sum_by}
use Rattle.std.proofs.lemmas.Bool.{cases_eq}
use Rattle.std.proofs.lemmas.List.{take_all}
use Rattle.std.proofs.lemmas.List.Sums.{sum_by_more}
use Rattle.std.proofs.lemmas.Option.{get_or_from_slice_get, slice_get_within, same_Some}
use Rattle.sequence_values.specs.declared.types.Times.{Times}
use Rattle.sequence_values.specs.declared.types.SeqEntry.{SeqEntry}
use Rattle.sequence_rules.specs.Entries.{Follows, IsDerived, entry_units, units_of}
use Rattle.sequence_check.specs.Lists.{AreRightBelow}

-- a sum over a list with one item more
pub sum_next : {X : Type 0} (f : X → ℕ) (xs : List X) (k : ℕ) (x : X) → slice_get xs k ≡ Some x
    → sum_by f (take (k + 1) xs) ≡ sum_by f (take k xs) + f x
sum_next f xs k x e = sum_by_more f xs k x (slice_get_within xs k x e)
    ∙ ap (λ y. sum_by f (take k xs) + f y) (get_or_from_slice_get xs k x x e)

-- the same, of what holds of each item below a place
pub below_next : {X : Type 0} (P : ℕ → X → Type 0) (xs : List X) (k : ℕ) (x : X) → slice_get xs k ≡ Some x
    → ((j : ℕ) (y : X) → j < k → slice_get xs j ≡ Some y → P j y) → P k x → (j : ℕ) (y : X) → j < k + 1
    → slice_get xs j ≡ Some y → P j y
below_next {X} P xs k x e before here j y l g = elim (cases_eq j k) [
  | inl s ↦
      let same : x ≡ y = same_Some x y (sym e ∙ ap (λ i. slice_get xs i) (sym s) ∙ g) in
      let A : ℕ → Type 0 = λ i. P i y in
      let B : X → Type 0 = λ z. P k z in
      subst A (sym s) (subst B same here)
  | inr d ↦ before j y (omega (arith, l, d)) g
]

pub right_none : (t : Times) (interval reach : ℕ) (charges : List ℕ) (es : List SeqEntry)
    → AreRightBelow t interval reach charges es 0 0
right_none t interval reach charges es = record { follow = λ j e l g. absurd (omega (arith, l)); total = refl }

pub right_more : (t : Times) (interval reach : ℕ) (charges : List ℕ) (es : List SeqEntry) (k units more : ℕ)
    (e : SeqEntry)
    → slice_get es k ≡ Some e
    → AreRightBelow t interval reach charges es k units → Follows t interval reach charges (take k es) e
    → more ≡ entry_units charges e
    → AreRightBelow t interval reach charges es (k + 1) (units + more)
right_more t interval reach charges es k units more e there below follows own = record {
  follow = below_next (λ j x. Follows t interval reach charges (take j es) x) es k e there below.follow follows;
  total = omega (arith, below.total, own, sum_next (entry_units charges) es k e there);
}

pub all_right : (t : Times) (interval reach : ℕ) (charges : List ℕ) (es : List SeqEntry) (k units steps : ℕ)
    → length es ≤ k
    → units ≤ steps
    → AreRightBelow t interval reach charges es k units → IsDerived t interval reach charges es
    × (units ≡ units_of charges es)
    × (units ≤ steps)
all_right t interval reach charges es k units steps long few below = (
  λ j e g. below.follow j e (omega (arith, long, slice_get_within es j e g)) g,
  below.total ∙ ap (λ xs. units_of charges xs) (take_all k es long),
  few,
)
