-- One entry more is counted.
use Rattle.std.proofs.Common.{◌≡◌, ℕ, suc, ◌+◌, ◌≤◌, List, [], ◌∷◌, ◌++◌, length, take, drop, refl, sym, ap, ◌∙◌, subst}
use Rattle.std.proofs.Common.{arith}
use Rattle.std.proofs.Common.{Some}
use Rattle.std.specs.Prelude.{slice_get}
use Rattle.line_instance.specs.Line.{Line}
use Rattle.line_rules.specs.Units.{UnitsBy, UnitsOf}
use Rattle.line_rules.specs.declared.types.Entry.{Entry}
use Rattle.line_rules.specs.declared.types.Why.{Why}
use Rattle.line_rules.specs.declared.types.Why.TheVariants as why
use Rattle.effic_search.specs.Counted.{other, others, by_bound, bounds, IsCounted}
use Rattle.effic_search.specs.declared.counting.Listed.{Listed}
use Rattle.line_rules.proofs.Monotone.{entries_same}
use Rattle.line_rules.proofs.ListFacts.{drop_next, take_next}
use Rattle.line_rules.proofs.ListUnits.{units_both}

pub others_both : (xs ys : List Entry) → others (xs ++ ys) ≡ others xs + others ys
others_both [] ys = omega arith
others_both (x ∷ xs) ys = omega (arith, others_both xs ys)

pub other_few : (w : Why) → other w ≤ 1
other_few why.Bound = omega arith
other_few (why.Branch mode cites) = omega arith
other_few (why.Swap cite out into) = omega arith
other_few (why.Pairs two) = omega arith

pub others_few : (es : List Entry) → others es ≤ length es
others_few [] = omega arith
others_few (e ∷ es) = omega (arith, other_few e.why, others_few es)

-- an entry is by Bound or isn't
one_of_both : (w : Why) → other w + by_bound w ≡ 1
one_of_both why.Bound = refl
one_of_both (why.Branch mode cites) = refl
one_of_both (why.Swap cite out into) = refl
one_of_both (why.Pairs two) = refl

pub bound_few : (w : Why) → by_bound w ≤ 1
bound_few w = omega (arith, one_of_both w)

pub bounds_both : (xs ys : List Entry) → bounds (xs ++ ys) ≡ bounds xs + bounds ys
bounds_both [] ys = omega arith
bounds_both (x ∷ xs) ys = omega (arith, bounds_both xs ys)

-- so the others and those by Bound are all
pub all_listed : (es : List Entry) → length es ≡ others es + bounds es
all_listed [] = refl
all_listed (e ∷ es) = omega (arith, one_of_both e.why, all_listed es)

module _ (line : Line) (es : List Entry) (k next : ℕ) (e : Entry) (g : slice_get es k ≡ Some e)
    (step : next ≡ suc k) where
  pub counted_next : (n u : ℕ) (l : Listed) → n ≡ other e.why → UnitsBy line e e.why u → IsCounted line es k l
      → IsCounted line es next (record { entries = l.entries + n; units = l.units + u })
  counted_next n u l same h c =
      let q : take next es ≡ take k es ++ e ∷ [] = ap (λ (z : ℕ). take z es) step ∙ take_next es k e g in
      let U : List Entry → Type 0 = λ z. UnitsOf line z (l.units + u) in
      record {
        entries = omega (
          arith,
          c.entries,
          same,
          ap (λ (z : List Entry). others z) q,
          others_both (take k es) (e ∷ []),
        );
        units = subst U (sym q) (units_both line (take k es) (e ∷ []) l.units u c.units (u, 0, (h, refl, omega arith)));
      }

  -- the same of those by Bound
  pub bounds_next : bounds (take next es) ≡ bounds (take k es) + by_bound e.why
  bounds_next =
      let q : take next es ≡ take k es ++ e ∷ [] = ap (λ (z : ℕ). take z es) step ∙ take_next es k e g in
      omega (arith, ap (λ (z : List Entry). bounds z) q, bounds_both (take k es) (e ∷ []))

  -- the units of the entries that are left
  pub left_next : (rest u : ℕ) → UnitsOf line (drop k es) rest → UnitsBy line e e.why u
      → (left : ℕ) × UnitsOf line (drop next es) left × (rest ≡ u + left)
  left_next rest u r h =
      let U : List Entry → Type 0 = λ z. UnitsOf line z rest in
      let both : UnitsOf line (e ∷ drop (suc k) es) rest = subst U (drop_next es k e g) r in
      let V : ℕ → Type 0 = λ z. UnitsOf line (drop z es) both.1 in
      let same : both.0 ≡ u =
      entries_same line (e ∷ []) both.0 u (both.0, 0, (both.2.0, refl, omega arith)) (u, 0, (h, refl, omega arith)) in
      (both.1, subst V (sym step) both.2.1, omega (arith, both.2.2, same))

  -- the entry has some of the units that are left
  pub some_units : (rest most : ℕ) → UnitsOf line (drop k es) rest → rest ≤ most
      → (u : ℕ) × UnitsBy line e e.why u × (u ≤ most)
  some_units rest most r few =
      let U : List Entry → Type 0 = λ z. UnitsOf line z rest in
      let both : UnitsOf line (e ∷ drop (suc k) es) rest = subst U (drop_next es k e g) r in
      (both.0, both.2.0, omega (arith, both.2.2, few))
