-- A frame goes from a load to the next, and frames are pushed and popped.
use Rattle.std.proofs.Common.{◌≡◌, ℕ, zero, suc, ◌-◌, ◌+◌, Bool, List, [], ◌∷◌, ◌++◌, length, refl, sym, ap, ◌∙◌, subst}
use Rattle.std.proofs.Common.{◌⊎◌, inl, inr, arith, Option, Some, None}
use Rattle.std.specs.Prelude.{slice_get}
use Rattle.line_instance.specs.Truths.{In, IsSubset}
use Rattle.line_instance.proofs.Members.{In-minus_parts}
use Rattle.line_instance.specs.Line.{Line, IsRanked}
use Rattle.line_rules.specs.Loads.{IsLoad, taken, rest}
use Rattle.line_rules.specs.Order.{Precedes, UpTo, After, IsFollowing, Counts}
use Rattle.line_rules.specs.Entries.{IsOpen, Cites, Covers}
use Rattle.line_rules.specs.Units.{FrameUnits, UnitsIn}
use Rattle.line_rules.specs.Trails.{IsPassed, LastIsLoad, IsDeepest, Leads}
use Rattle.line_rules.specs.declared.types.LineKind.{LineKind}
use Rattle.line_rules.specs.declared.types.Mode.{Mode}
use Rattle.line_rules.specs.declared.types.Load.{Load}
use Rattle.line_rules.specs.declared.types.Entry.{Entry}
use Rattle.line_rules.specs.declared.types.OpenFrame.{OpenFrame}
use Rattle.line_rules.proofs.LongerLists.{covers_longer}
use Rattle.line_rules.proofs.CoverFacts.{counts_push, covers_same, covers_push}
use Rattle.line_rules.proofs.LoadPlaces.{either_side, up_to_after}
use Rattle.std.proofs.lemmas.Bool.{false≢true}

module _ (line : Line) (ranked : IsRanked line) (c : ℕ) (mode : Mode) (R : List Bool) (last : Option Load)
    (is_load : LastIsLoad line c mode R last) where
  last_load : (x : Option Load) → LastIsLoad line c mode R x → (a : Load) → x ≡ Some a → IsLoad line c mode R a
  last_load None f a e = absurd (cc)
  last_load (Some b) f a e = let P : Load → Type 0 = λ z. IsLoad line c mode R z in let q : b ≡ a = cc in subst P q f

  side : (l : Load) → IsLoad line c mode R l → UpTo line last l ⊎ After line last l
  side l g = either_side line ranked c mode R last (last_load last is_load) l g

  -- where there is none after the last, each load is up to it
  pub all_up_to : ((l : Load) → IsLoad line c mode R l → After line last l → ⊥) → (l : Load) → IsLoad line c mode R l
      → UpTo line last l
  all_up_to none l g = elim (side l g) [ inl u ↦ u | inr f ↦ absurd (none l g f) ]

  module _ (b : Load) (next : IsFollowing line c mode R last b) where
    pub next_cases : (l : Load) → IsLoad line c mode R l → (l ≡ b) ⊎ Precedes line l b → UpTo line last l ⊎ (l ≡ b)
    next_cases l g u = elim u [
      | inl e ↦ inr e
      | inr p ↦ elim (side l g) [ inl v ↦ inl v | inr f ↦ absurd (next.least l g f p) ]
    ]

    pub next_below : (l : Load) → IsLoad line c mode R l → Precedes line l b → UpTo line last l
    next_below l g p = elim (side l g) [ inl v ↦ v | inr f ↦ absurd (next.least l g f p) ]

    pub next_above : (l : Load) → UpTo line last l → Precedes line l b
    next_above l u = up_to_after line last l b u next.above

    pub units_push : (n : ℕ) → Counts line (λ l. IsLoad line c mode R l × UpTo line last l) n
        → Counts line (λ l. IsLoad line c mode R l × UpTo line (Some b) l) (n + 1)
    units_push n h = counts_push line (λ l. IsLoad line c mode R l × UpTo line last l)
        (λ l. IsLoad line c mode R l × UpTo line (Some b) l) n b
        (λ l p. (p.0, inr (next_above l p.1))) (next.load, inl refl) (λ l p. next_above l p.1)
        (λ l q. elim (next_cases l q.0 q.1) [ inl v ↦ inl (q.0, v) | inr e ↦ inr e ]) h

    module _ (kind : LineKind) (es : List Entry) (most : ℕ) (cites : List ℕ)
        (h : Covers line (λ k. IsOpen kind line c mode R most k × UpTo line last k) es R most c cites) where
      pub covers_pass : Covers line (λ k. IsOpen kind line c mode R most k × Precedes line k b) es R most c cites
      covers_pass = covers_same line (λ k. IsOpen kind line c mode R most k × UpTo line last k)
          (λ k. IsOpen kind line c mode R most k × Precedes line k b) es R most c cites
          (λ l p. (p.0, next_above l p.1)) (λ l q. (q.0, next_below l q.0.load q.1)) h

      pub covers_skip : (IsOpen kind line c mode R most b → ⊥)
          → Covers line (λ k. IsOpen kind line c mode R most k × UpTo line (Some b) k) es R most c cites
      covers_skip closed = covers_same line (λ k. IsOpen kind line c mode R most k × UpTo line last k)
          (λ k. IsOpen kind line c mode R most k × UpTo line (Some b) k) es R most c cites
          (λ l p. (p.0, inr (next_above l p.1)))
          (λ l q. elim (next_cases l q.0.load q.1) [
            | inl v ↦ (q.0, v)
            | inr e ↦
                absurd (closed (let P : Load → Type 0 = λ z. IsOpen kind line c mode R most z in subst P e q.0))
          ]) h

-- the loads before b are covered, and b with a further cite
pub covers_cite : (kind : LineKind) (line : Line) (c : ℕ) (mode : Mode) (R : List Bool) (es : List Entry) (most : ℕ)
    (cites : List ℕ) (b : Load) (cite : ℕ) → IsOpen kind line c mode R most b → Cites es cite (rest R b) (most - 1) c
    → Covers line (λ k. IsOpen kind line c mode R most k × Precedes line k b) es R most c cites
    → Covers line (λ k. IsOpen kind line c mode R most k × UpTo line (Some b) k) es R most c (cites ++ cite ∷ [])
covers_cite kind line c mode R es most cites b cite o y h =
    covers_push line (λ k. IsOpen kind line c mode R most k × Precedes line k b)
    (λ k. IsOpen kind line c mode R most k × UpTo line (Some b) k) es R most c cites b cite
    (λ l p. (p.0, inr p.1)) (o, inl refl) (λ l p. p.1)
    (λ l q. elim q.1 [ inl e ↦ inr e | inr p ↦ inl (q.0, p) ]) y h

-- what is left of a set
pub rest_inside : (R : List Bool) (l : Load) → IsSubset (rest R l) R
rest_inside R l i m = (In-minus_parts R (taken l) i m).0

pub rest_without : (R : List Bool) (l : Load) (i : ℕ) → In (taken l) i → In (rest R l) i → ⊥
rest_without R l i t m = false≢true (sym (In-minus_parts R (taken l) i m).1 ∙ t)

-- frames
pub leads_push : (kind : LineKind) (line : Line) (X : ℕ) (es : List Entry) (fs : List OpenFrame) (R : List Bool)
    (most : ℕ) (f : OpenFrame) (l : Load)
    → Leads kind line X es R most fs f.set f.most → IsPassed kind line X es f l
    → Leads kind line X es R most (fs ++ f ∷ []) (rest f.set l) (f.most - 1)
leads_push kind line X es [] R most f l h p = (l, (h.0, h.1, p, (refl, refl)))
leads_push kind line X es (g ∷ fs) R most f l h p = (
  h.0,
  (
    h.1.0,
    h.1.1,
    h.1.2,
    leads_push kind line X es fs (rest g.set h.0) (g.most - 1) f l h.1.3 p,
  ),
)

pub leads_pop : (kind : LineKind) (line : Line) (X : ℕ) (es : List Entry) (fs : List OpenFrame) (R : List Bool)
    (most : ℕ) (f : OpenFrame) (R' : List Bool) (most' : ℕ)
    → Leads kind line X es R most (fs ++ f ∷ []) R' most' → (l : Load)
    × (Leads kind line X es R most fs f.set f.most × IsPassed kind line X es f l × (R' ≡ rest f.set l)
    × (most' ≡ f.most - 1))
leads_pop kind line X es [] R most f R' most' h = (h.0, ((h.1.0, h.1.1), h.1.2, h.1.3.0, h.1.3.1))
leads_pop kind line X es (g ∷ fs) R most f R' most' h =
    let r : (l : Load) × (Leads kind line X es (rest g.set h.0) (g.most - 1) fs f.set f.most
    × IsPassed kind line X es f l × (R' ≡ rest f.set l) × (most' ≡ f.most - 1)) =
    leads_pop kind line X es fs (rest g.set h.0) (g.most - 1) f R' most' h.1.3 in
    (r.0, ((h.0, (h.1.0, h.1.1, h.1.2, r.1.0)), r.1.1, r.1.2, r.1.3))

pub passed_longer : (kind : LineKind) (line : Line) (X : ℕ) (es more : List Entry) (f : OpenFrame) (l : Load)
    → IsPassed kind line X es f l → IsPassed kind line X (es ++ more) f l
passed_longer kind line X es more f l p = record {
  belongs = p.belongs;
  stations = p.stations;
  last = p.last;
  load = p.load;
  full = p.full;
  covers = covers_longer line (λ k. IsOpen kind line X f.mode f.set f.most k × Precedes line k l) es more f.set f.most X
      f.cites p.covers;
}

pub leads_longer : (kind : LineKind) (line : Line) (X : ℕ) (es more : List Entry) (fs : List OpenFrame) (R : List Bool)
    (most : ℕ) (R' : List Bool) (most' : ℕ)
    → Leads kind line X es R most fs R' most' → Leads kind line X (es ++ more) R most fs R' most'
leads_longer kind line X es more [] R most R' most' h = h
leads_longer kind line X es more (g ∷ fs) R most R' most' h = (
  h.0,
  (
    h.1.0,
    h.1.1,
    passed_longer kind line X es more g h.0 h.1.2,
    leads_longer kind line X es more fs (rest g.set h.0) (g.most - 1) R' most' h.1.3,
  ),
)

pub deep_longer : (kind : LineKind) (line : Line) (X : ℕ) (es more : List Entry) (f : OpenFrame)
    → IsDeepest kind line X es f → IsDeepest kind line X (es ++ more) f
deep_longer kind line X es more f p = record {
  belongs = p.belongs;
  last = p.last;
  covers = covers_longer line (λ k. IsOpen kind line X f.mode f.set f.most k × UpTo line f.last k) es more f.set f.most
      X f.cites p.covers;
}

-- the sets along the frames shrink
pub leads_inside : (kind : LineKind) (line : Line) (X : ℕ) (es : List Entry) (fs : List OpenFrame) (R : List Bool)
    (most : ℕ) (R' : List Bool) (most' : ℕ) → Leads kind line X es R most fs R' most' → IsSubset R' R
leads_inside kind line X es [] R most R' most' h = let P : List Bool → Type 0 = λ z. IsSubset z R in
    subst P (sym h.0) (λ i m. m)
leads_inside kind line X es (g ∷ fs) R most R' most' h = λ i m.
    let inside : In (rest g.set h.0) i = leads_inside kind line X es fs (rest g.set h.0) (g.most - 1) R' most' h.1.3 i
    m in
    let P : List Bool → Type 0 = λ z. In z i in subst P h.1.0 (rest_inside g.set h.0 i inside)

-- each frame has a task that is in no set further down
pub leads_smaller : (kind : LineKind) (line : Line) (X : ℕ) (es : List Entry) (fs : List OpenFrame) (R : List Bool)
    (most : ℕ) (R' : List Bool) (most' : ℕ) → Leads kind line X es R most fs R' most'
    → (k : ℕ) (f : OpenFrame) → slice_get fs k ≡ Some f → f.set ≡ R' → ⊥
leads_smaller kind line X es [] R most R' most' h k f e q = absurd (cc)
leads_smaller kind line X es (g ∷ fs) R most R' most' h zero f e q =
    let same : g ≡ f = cc in
    let i : (i : ℕ) × In (taken h.0) i = h.1.2.load.some in
    let up : In g.set i.0 = h.1.2.load.within i.0 i.1 in
    let P : List Bool → Type 0 = λ z. In z i.0 in
    let down : In R' i.0 = subst P (ap (λ (z : OpenFrame). z.set) same ∙ q) up in
    rest_without g.set h.0 i.0 i.1 (leads_inside kind line X es fs (rest g.set h.0) (g.most - 1) R' most' h.1.3 i.0
    down)
leads_smaller kind line X es (g ∷ fs) R most R' most' h (suc k) f e q =
    leads_smaller kind line X es fs (rest g.set h.0) (g.most - 1) R' most' h.1.3 k f e q

-- there are as many frames as stations were given away
pub leads_depth : (kind : LineKind) (line : Line) (X : ℕ) (es : List Entry) (fs : List OpenFrame) (R : List Bool)
    (most : ℕ) (R' : List Bool) (most' : ℕ) → Leads kind line X es R most fs R' most' → length fs + most' ≡ most
leads_depth kind line X es [] R most R' most' h = omega (arith, h.1)
leads_depth kind line X es (g ∷ fs) R most R' most' h = omega
    (arith, h.1.1, h.1.2.stations, leads_depth kind line X es fs (rest g.set h.0) (g.most - 1) R' most' h.1.3)

-- units
pub units_push_frame : (line : Line) (X : ℕ) (fs : List OpenFrame) (f : OpenFrame) (a b : ℕ) → UnitsIn line X fs a
    → FrameUnits line X f b → UnitsIn line X (fs ++ f ∷ []) (a + b)
units_push_frame line X [] f a b h u = (b, 0, (u, refl, omega (arith, h)))
units_push_frame line X (g ∷ fs) f a b h u = (
  h.0,
  h.1 + b,
  (h.2.0, units_push_frame line X fs f h.1 b h.2.1 u, omega (arith, h.2.2)),
)

pub units_pop_frame : (line : Line) (X : ℕ) (fs : List OpenFrame) (f : OpenFrame) (n : ℕ)
    → UnitsIn line X (fs ++ f ∷ []) n → (a : ℕ) × (b : ℕ) × (UnitsIn line X fs a × FrameUnits line X f b × (n ≡ a + b))
units_pop_frame line X [] f n h = (0, h.0, (refl, h.2.0, omega (arith, h.2.1, h.2.2)))
units_pop_frame line X (g ∷ fs) f n h =
    let r : (a : ℕ) × (b : ℕ) × (UnitsIn line X fs a × FrameUnits line X f b × (h.1 ≡ a + b)) =
    units_pop_frame line X fs f h.1 h.2.1 in
    (h.0 + r.0, r.1, ((h.0, r.0, (h.2.0, r.2.0, refl)), r.2.1, omega (arith, h.2.2, r.2.2)))
