-- The entries of a derived list have a number of units, and those of two lists have the sum.
use Rattle.std.proofs.Common.{◌≡◌, ℕ, suc, ◌+◌, List, [], ◌∷◌, ◌++◌, length, refl, subst, arith, Some}
use Rattle.std.specs.Prelude.{slice_get}
use Rattle.line_instance.specs.Line.{Line, IsLine, IsRanked, IsTaskSet}
use Rattle.line_rules.specs.Entries.{IsDerived}
use Rattle.line_rules.specs.Units.{UnitsBy, UnitsOf}
use Rattle.line_rules.specs.declared.types.LineKind.{LineKind}
use Rattle.line_rules.specs.declared.types.Entry.{Entry}
use Rattle.line_rules.specs.declared.types.Why.{Why}
use Rattle.line_rules.specs.declared.types.Why.TheVariants as why
use Rattle.line_rules.proofs.LoadTests.{loads_of, loads_listed}

module _ (line : Line) (ok : IsLine line) (ranked : IsRanked line) where
  by_counted : (e : Entry) (w : Why) → IsTaskSet line e.set → (units : ℕ) × UnitsBy line e w units
  by_counted e why.Bound set = (0, refl)
  by_counted e (why.Branch mode cites) set = (
    length (loads_of line ok.small ranked e.cycle e.set set mode),
    record {
      loads = loads_of line ok.small ranked e.cycle e.set set mode;
      listed = loads_listed line ok.small ranked e.cycle e.set set mode;
      long = refl;
    },
  )
  by_counted e (why.Swap cite out into) set = (0, refl)
  by_counted e (why.Pairs two) set = (0, refl)

  counted : (es : List Entry) → ((k : ℕ) (e : Entry) → slice_get es k ≡ Some e → IsTaskSet line e.set)
      → (units : ℕ) × UnitsOf line es units
  counted [] sets = (0, refl)
  counted (e ∷ es) sets =
      let a : (units : ℕ) × UnitsBy line e e.why units = by_counted e e.why (sets 0 e refl) in
      let b : (units : ℕ) × UnitsOf line es units = counted es (λ k x h. sets (suc k) x h) in
      (a.0 + b.0, (a.0, b.0, (a.1, b.1, refl)))

  pub derived_counted : (kind : LineKind) (es : List Entry) → IsDerived kind line es
      → (units : ℕ) × UnitsOf line es units
  derived_counted kind es d = counted es (λ k e h. (d k e h).set)

-- the units of two lists
pub units_both : (line : Line) (xs ys : List Entry) (a b : ℕ) → UnitsOf line xs a → UnitsOf line ys b
    → UnitsOf line (xs ++ ys) (a + b)
units_both line [] ys a b h k =
    let e : b ≡ a + b = omega (arith, h) in
    let P : ℕ → Type 0 = λ z. UnitsOf line ys z in
    subst P e k
units_both line (x ∷ xs) ys a b h k = (h.0, h.1 + b, (h.2.0, units_both line xs ys h.1 b h.2.1 k, omega (arith, h.2.2)))
