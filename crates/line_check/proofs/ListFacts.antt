-- The entries below a number follow, and what that says of the list.
use Rattle.std.proofs.Common.{◌≡◌, ℕ, suc, ◌+◌, ◌<◌, ◌≤◌, List, [], ◌∷◌, ◌++◌, length, take, refl, sym, ap, ◌∙◌}
use Rattle.std.proofs.Common.{subst, inl, inr, arith, Some}
use Rattle.std.specs.Prelude.{slice_get}
use Rattle.std.proofs.lemmas.Bool.{cases_eq}
use Rattle.std.proofs.lemmas.List.{take_all}
use Rattle.std.proofs.lemmas.Option.{same_Some, slice_get_within}
use Rattle.line_instance.specs.Line.{Line}
use Rattle.line_rules.specs.Entries.{Follows, IsDerived}
use Rattle.line_rules.specs.Units.{UnitsBy, UnitsOf}
use Rattle.line_rules.specs.declared.types.LineKind.{LineKind}
use Rattle.line_rules.specs.declared.types.Entry.{Entry}
use Rattle.line_check.specs.Lists.{AreRightBelow, IsRefusedAt}
use Rattle.line_check.specs.declared.types.EntryFault.{EntryFault}
use Rattle.line_check.proofs.EntryFaults.{not_follows}
use Rattle.line_rules.proofs.ListFacts.{take_next}

units_push : (line : Line) (es : List Entry) (e : Entry) (a b : ℕ) → UnitsOf line es a → UnitsBy line e e.why b
    → UnitsOf line (es ++ e ∷ []) (a + b)
units_push line [] e a b h u = (b, 0, (u, refl, omega (arith, h)))
units_push line (x ∷ es) e a b h u = (h.0, h.1 + b, (h.2.0, units_push line es e h.1 b h.2.1 u, omega (arith, h.2.2)))

pub right_more : (kind : LineKind) (line : Line) (es : List Entry) (k units more : ℕ) (e : Entry)
    → slice_get es k ≡ Some e → AreRightBelow kind line es k units → Follows kind line (take k es) e
    → UnitsBy line e e.why more
    → AreRightBelow kind line es (k + 1) (units + more)
right_more kind line es k units more e there r f u = record {
  follow = λ j x l g. elim (cases_eq j k) [
    | inl s ↦
        let P : Entry → Type 0 = λ z. Follows kind line (take k es) z in
        let Q : ℕ → Type 0 = λ z. Follows kind line (take z es) x in
        subst Q (sym s) (subst P (same_Some e x (sym there ∙ (ap (λ (z : ℕ). slice_get es z) (sym s) ∙ g))) f)
    | inr d ↦ r.follow j x (omega (arith, l, d)) g
  ];
  sum =
      let s : suc k ≡ k + 1 = omega arith in
      let P : List Entry → Type 0 = λ z. UnitsOf line z (units + more) in
      let Q : ℕ → Type 0 = λ z. UnitsOf line (take z es) (units + more) in
      subst Q s (subst P (sym (take_next es k e there)) (units_push line (take k es) e units more r.sum u));
}

pub all_right : (kind : LineKind) (line : Line) (es : List Entry) (k units steps : ℕ) → length es ≤ k → units ≤ steps
    → AreRightBelow kind line es k units
    → IsDerived kind line es × UnitsOf line es units × (units ≤ steps)
all_right kind line es k units steps l few r =
    let P : List Entry → Type 0 = λ z. UnitsOf line z units in
    (λ j e g. r.follow j e (omega (arith, l, slice_get_within es j e g)) g, subst P (take_all k es l) r.sum, few)

-- a list with an entry that is refused isn't derived
pub refused_not : (kind : LineKind) (line : Line) (es : List Entry) (steps k : ℕ) (why : EntryFault)
    → IsRefusedAt kind line es steps k why → IsDerived kind line es → ⊥
refused_not kind line es steps k why r d = not_follows kind line (take k es) r.entry why r.more r.fails
    (d k r.entry r.there)

-- what is so of the items below k, and of the item k
pub each_more : {X : Type 0} (P : X → Type 0) (xs : List X) (k : ℕ) (x : X) → slice_get xs k ≡ Some x → P x
    → ((j : ℕ) (y : X) → j < k → slice_get xs j ≡ Some y → P y)
    → (j : ℕ) (y : X) → j < k + 1 → slice_get xs j ≡ Some y → P y
each_more P xs k x there p h j y l e = elim (cases_eq j k) [
  | inl s ↦ subst P (same_Some x y (sym there ∙ (ap (λ (z : ℕ). slice_get xs z) (sym s) ∙ e))) p
  | inr d ↦ h j y (omega (arith, l, d)) e
]
