-- A list of which some entries are left out has at most the units of the list.
use Rattle.std.proofs.Common.{◌≡◌, ℕ, zero, suc, ◌+◌, ◌<◌, ◌≤◌, List, [], ◌∷◌, length, Some, refl, sym, ap, ◌∙◌, subst}
use Rattle.std.proofs.Common.{arith}
use Rattle.std.specs.Prelude.{slice_get}
use Rattle.std.proofs.lemmas.Option.{same_Some}
use Rattle.line_rules.specs.lines.Line.{Line}
use Rattle.line_rules.specs.Units.{UnitsBy, UnitsOf}
use Rattle.line_rules.specs.Loads.{IsLoad}
use Rattle.line_rules.specs.Order.{Counts}
use Rattle.line_rules.specs.declared.types.Entry.{Entry}
use Rattle.line_rules.specs.declared.types.Why.{Why}
use Rattle.line_rules.specs.declared.types.Why.TheVariants as why
use Rattle.entry_lists.specs.Trim.{IsRenumbered, IsKeptAs}

-- each entry is left out or kept
pub data IsThinned (numbers : List ℕ) : List Entry → List Entry → Type 0 where
  none : IsThinned numbers [] []
  left_out : {e : Entry} {es new : List Entry} → IsThinned numbers es new → IsThinned numbers (e ∷ es) new
  kept : {e f : Entry} {es new : List Entry} → IsKeptAs numbers e f → IsThinned numbers es new
      → IsThinned numbers (e ∷ es) (f ∷ new)

pub no_longer : (numbers : List ℕ) (es new : List Entry) → IsThinned numbers es new → length new ≤ length es
no_longer numbers [] [] none = omega arith
no_longer numbers [] (f ∷ new) t = elim t [ ]
no_longer numbers (e ∷ es) new (left_out t) = omega (arith, no_longer numbers es new t)
no_longer numbers (e ∷ es) (f ∷ new) (kept s t) = omega (arith, no_longer numbers es new t)

units_kept : (numbers : List ℕ) (line : Line) (e f : Entry) (w v : Why) (a : ℕ) → f.set ≡ e.set → f.cycle ≡ e.cycle
    → IsRenumbered numbers w v → UnitsBy line e w a → UnitsBy line f v a
units_kept numbers line e f why.Bound v a s c r h = let P : Why → Type 0 = λ x. UnitsBy line f x a in subst P (sym r) h
units_kept numbers line e f (why.Branch mode cites) v a s c r h =
    let P : Why → Type 0 = λ x. UnitsBy line f x a in
    let Q : ℕ → Type 0 = λ x. Counts line (IsLoad line x mode f.set) a in
    let R : List _ → Type 0 = λ x. Counts line (IsLoad line e.cycle mode x) a in
    subst P (sym r.1) (subst Q (sym c) (subst R (sym s) h))
units_kept numbers line e f (why.Swap cite out into) v a s c r h = let P : Why → Type 0 = λ x. UnitsBy line f x a in
    subst P (sym r.1) h
units_kept numbers line e f (why.Pairs two) v a s c r h = let P : Why → Type 0 = λ x. UnitsBy line f x a in
    subst P (sym r) h

pub units_thinned : (numbers : List ℕ) (line : Line) (es new : List Entry) (old : ℕ) → IsThinned numbers es new
    → UnitsOf line es old → (units : ℕ) × UnitsOf line new units × (units ≤ old)
units_thinned numbers line [] [] old none h = (0, refl, omega arith)
units_thinned numbers line [] (f ∷ new) old t h = elim t [ ]
units_thinned numbers line (e ∷ es) new old (left_out t) h =
    let r : (units : ℕ) × UnitsOf line new units × (units ≤ h.1) = units_thinned numbers line es new h.1 t h.2.1 in
    (r.0, r.1, omega (arith, r.2, h.2.2))
units_thinned numbers line (e ∷ es) (f ∷ new) old (kept s t) h =
    let r : (units : ℕ) × UnitsOf line new units × (units ≤ h.1) = units_thinned numbers line es new h.1 t h.2.1 in (
      h.0 + r.0,
      (h.0, r.0, (units_kept numbers line e f e.why f.why h.0 s.set s.cycle s.why h.2.0, r.1, refl)),
      omega (arith, r.2, h.2.2),
    )

-- the entry of the number at a place, where the first entry has the number `base`
abbrev pub IsThere : List ℕ → List Entry → ℕ → List ℕ → List Entry → ℕ → Type 0
IsThere all es base numbers new p =
    (i : ℕ) × (e : Entry) × (f : Entry) × (slice_get numbers p ≡ Some (base + i)) × (slice_get es i ≡ Some e)
    × (slice_get new p ≡ Some f) × IsKeptAs all e f

behind_first : (all : List ℕ) (x : Entry) (es : List Entry) (base : ℕ) (numbers : List ℕ) (new : List Entry) (p : ℕ)
    → ((k : ℕ) → slice_get numbers p ≡ Some k → base < k) → IsThere all (x ∷ es) base numbers new p
    → IsThere all es (suc base) numbers new p
behind_first all x es base numbers new p above (zero, e, f, n, h, g, s) = absurd (omega (arith, above (base + 0) n))
behind_first all x es base numbers new p above (suc i, e, f, n, h, g, s) = let q : base + suc i ≡ suc base + i =
    omega arith in (i, e, f, n ∙ ap Some q, h, g, s)

-- the numbers rise
abbrev pub IsRising : List ℕ → Type 0
IsRising numbers = (j k a b : ℕ) → j < k → slice_get numbers j ≡ Some a → slice_get numbers k ≡ Some b → a < b

-- the first entry is kept or left out, by the first number
first_entry : (all : List ℕ) (e f : Entry) (es new : List Entry) (base n : ℕ) (numbers : List ℕ)
    → IsRising (n ∷ numbers) → ((p : ℕ) → p < suc (length new) → IsThere all (e ∷ es) base (n ∷ numbers) (f ∷ new) p)
    → (((p : ℕ) → p < length new → IsThere all es (suc base) numbers new p) → IsThinned all es new)
    → (((p : ℕ) → p < suc (length new) → IsThere all es (suc base) (n ∷ numbers) (f ∷ new) p)
    → IsThinned all es (f ∷ new))
    → IsThere all (e ∷ es) base (n ∷ numbers) (f ∷ new) 0 → IsThinned all (e ∷ es) (f ∷ new)
first_entry all e f es new base n numbers up at take_it leave_it (zero, x, g, m, h, k, s) =
    let P : Entry → Type 0 = λ y. IsKeptAs all y f in
    let Q : Entry → Type 0 = λ y. IsKeptAs all x y in
    let b : n ≡ base + 0 = same_Some n (base + 0) m in
    kept (subst P (same_Some x e (sym h)) (subst Q (same_Some g f (sym k)) s))
    (take_it (λ p l. behind_first all e es base numbers new p
    (λ i v. omega (arith, up 0 (suc p) n i (omega arith) refl v)) (at (suc p) (omega arith))))
first_entry all e f es new base n numbers up at take_it leave_it (suc i, x, g, m, h, k, s) =
    left_out (leave_it (λ p l. behind_first all e es base (n ∷ numbers) (f ∷ new) p (above p) (at p l)))
  where
    above : (p j : ℕ) → slice_get (n ∷ numbers) p ≡ Some j → base < j
    above zero j v =
        let q : n ≡ j = same_Some n j v in
        let b : n ≡ base + suc i = same_Some n (base + suc i) m in
        omega arith
    above (suc p) j v = let b : n ≡ base + suc i = same_Some n (base + suc i) m in
        omega (arith, up 0 (suc p) n j (omega arith) refl v)

pub thin : (all : List ℕ) (es : List Entry) (base : ℕ) (numbers : List ℕ) (new : List Entry)
    → length new ≡ length numbers → IsRising numbers → ((p : ℕ) → p < length new → IsThere all es base numbers new p)
    → IsThinned all es new
thin all [] base numbers [] many up at = none
thin all [] base numbers (f ∷ new) many up at = let a : IsThere all [] base numbers (f ∷ new) 0 = at 0 (omega arith) in
    let h : slice_get [] a.0 ≡ Some a.1 = a.4 in absurd (cc)
thin all (e ∷ es) base numbers [] many up at = left_out (thin all es (suc base) numbers [] many up
    (λ p l. absurd (omega arith)))
thin all (e ∷ es) base [] (f ∷ new) many up at = absurd (omega arith)
thin all (e ∷ es) base (n ∷ numbers) (f ∷ new) many up at =
    first_entry all e f es new base n numbers up (λ p l. at p (omega arith))
    (λ t. thin all es (suc base) numbers new (omega arith) (λ i j a c l u v. up (suc i) (suc j) a c (omega arith) u v)
    t)
    (λ t. thin all es (suc base) (n ∷ numbers) (f ∷ new) many up (λ p l. t p (omega arith)))
    (at 0 (omega arith))
