-- Lists of entries with entries by pairs or without, and each entry of them.
use Rattle.std.proofs.Common.{◌≡◌, ℕ, zero, suc, Bool, true, false, cond, ◌||◌, List, [], ◌∷◌, Some, None, refl, sym}
use Rattle.std.proofs.Common.{◌∙◌}
use Rattle.std.proofs.Common.{ap, subst}
use Rattle.std.specs.Prelude.{slice_get}
use Rattle.std.proofs.lemmas.Option.{same_Some, none-some}
use Rattle.line_rules.specs.declared.types.Entry.{Entry}
use Rattle.line_rules.specs.declared.types.Why.{Why}
use Rattle.line_rules.specs.declared.types.Why.TheVariants as whys
use Rattle.line_rules.specs.declared.types.Claim.{Claim}
use Rattle.line_rules.specs.declared.types.Claim.TheVariants as claim
use Rattle.entry_lists.specs.PairEntries.{is_by_pairs, has_pairs}
use Rattle.cert_lines.specs.LineForms.{MayStand}
use Rattle.cert_lines.specs.declared.line_forms.Version.{Version}
use Rattle.cert_lines.specs.declared.line_forms.Version.TheVariants as version
use Rattle.cert_text.specs.Cert.{least_version}
use Rattle.cert_text.specs.Parts.{MayHave, pairs_of}

-- each reason may stand where entries by pairs may
may_all : (w : Why) → MayStand true w
may_all whys.Bound = tt
may_all (whys.Branch mode cites) = tt
may_all (whys.Swap cite out into) = tt
may_all (whys.Pairs two) = refl

plain_stands : (w : Why) → is_by_pairs w ≡ false → MayStand false w
plain_stands whys.Bound e = tt
plain_stands (whys.Branch mode cites) e = tt
plain_stands (whys.Swap cite out into) e = tt
plain_stands (whys.Pairs two) e = sym e

stands_plain : (w : Why) → MayStand false w → is_by_pairs w ≡ false
stands_plain whys.Bound m = refl
stands_plain (whys.Branch mode cites) m = refl
stands_plain (whys.Swap cite out into) m = refl
stands_plain (whys.Pairs two) m = sym m

none_of_two : (a b : Bool) → (a || b) ≡ false → (a ≡ false) × (b ≡ false)
none_of_two true b e = (cc)
none_of_two false b e = (refl, e)

both_none : (a b : Bool) → a ≡ false → b ≡ false → (a || b) ≡ false
both_none a b e f = ap (λ t. t || b) e ∙ f

-- each entry of a list
pub may_stand : (p : Bool) (es : List Entry) → MayHave p es → (k : ℕ) (e : Entry) → slice_get es k ≡ Some e
    → MayStand p e.why
may_stand true es h k e q = may_all e.why
may_stand false [] h k e q = absurd (none-some e q)
may_stand false (x ∷ es) h zero e q =
    let P : Entry → Type 0 = λ z. MayStand false z.why in
    subst P (same_Some x e q) (plain_stands x.why (none_of_two (is_by_pairs x.why) (has_pairs es) h).0)
may_stand false (x ∷ es) h (suc k) e q = may_stand false es (none_of_two (is_by_pairs x.why) (has_pairs es) h).1 k e q

-- a list of such entries
pub may_have : (p : Bool) (es : List Entry) → ((k : ℕ) (e : Entry) → slice_get es k ≡ Some e → MayStand p e.why)
    → MayHave p es
may_have true es h = tt
may_have false [] h = refl
may_have false (x ∷ es) h = both_none (is_by_pairs x.why) (has_pairs es) (stands_plain x.why (h zero x refl))
    (may_have false es (λ k e q. h (suc k) e q))

pub none_may : (p : Bool) → MayHave p []
none_may true = tt
none_may false = refl

-- a version whose entries stand in parts is version 1
pub first_version : (v : Version) → pairs_of v ≡ None → v ≡ version.One
first_version version.One e = refl
first_version version.Two e = absurd (none-some false (sym e))
first_version version.Three e = absurd (none-some true (sym e))

-- which version is the least one
abbrev least : Bool → Version
least t = cond t version.Three version.Two

least_plain : (t : Bool) → least t ≡ version.Two → t ≡ false
least_plain true e = (cc)
least_plain false e = refl

not_first : (t : Bool) → least t ≡ version.One → ⊥
not_first true e = (cc)
not_first false e = (cc)

pub plain_entries : (es : List Entry) → least (has_pairs es) ≡ version.Two → has_pairs es ≡ false
plain_entries es e = least_plain (has_pairs es) e

pub plain_least : (es : List Entry) → has_pairs es ≡ false → least (has_pairs es) ≡ version.Two
plain_least es e = ap least e

pub least_not_one : (c : Claim) → least_version c ≡ version.One → ⊥
least_not_one (claim.TooLong task) e = (cc)
least_not_one (claim.Bounds lower upper b es left) e = not_first (has_pairs es) e
