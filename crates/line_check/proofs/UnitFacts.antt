-- Where the steps ended, an accepted certificate has more units.
use Rattle.std.proofs.Common.{◌≡◌, ℕ, zero, suc, ◌+◌, ◌-◌, ◌<◌, ◌≤◌, List, [], ◌∷◌, take, refl, subst, arith, Some}
use Rattle.std.specs.Prelude.{slice_get}
use Rattle.std.proofs.lemmas.Option.{same_Some}
use Rattle.line_instance.specs.Line.{Line}
use Rattle.line_rules.specs.Loads.{IsLoad}
use Rattle.line_rules.specs.Entries.{IsOpen}
use Rattle.line_rules.specs.Units.{UnitsBy, UnitsOf, FrameUnits, UnitsIn}
use Rattle.line_rules.specs.declared.types.LineKind.{LineKind}
use Rattle.line_rules.specs.declared.types.Entry.{Entry}
use Rattle.line_rules.specs.declared.types.OpenFrame.{OpenFrame}
use Rattle.line_rules.specs.declared.types.Trail.{Trail}
use Rattle.line_rules.specs.declared.types.Why.{Why}
use Rattle.line_rules.specs.declared.types.Why.TheVariants as why
use Rattle.line_rules.proofs.Monotone.{units_same, entries_same}
use Rattle.line_check.specs.Frames.{WalksTo, NeedsTo, is_deepest, AreFramesEnded}
use Rattle.line_check.specs.Lists.{AreStepsEnded}
use Rattle.line_check.specs.Faults.{Ends}
use Rattle.line_check.proofs.Exact.{not_past}

-- the units of the entries before one of a list and its own are at most those of the list
pub units_at : (line : Line) (es : List Entry) (k : ℕ) (e : Entry) (before all : ℕ) → slice_get es k ≡ Some e
    → UnitsOf line (take k es) before → UnitsOf line es all
    → (b : ℕ) × (UnitsBy line e e.why b × (before + b ≤ all))
units_at line [] k e before all there u w = absurd (cc)
units_at line (x ∷ es) zero e before all there u w =
    let P : Entry → Type 0 = λ z. UnitsBy line z z.why w.0 in
    (w.0, (subst P (same_Some x e there) w.2.0, omega (arith, u, w.2.2)))
units_at line (x ∷ es) (suc k) e before all there u w =
    let r : (b : ℕ) × (UnitsBy line e e.why b × (u.1 + b ≤ w.1)) = units_at line es k e u.1 w.1 there u.2.1 w.2.1 in
    let same : u.0 ≡ w.0 = entries_same line (x ∷ []) u.0 w.0 (u.0, 0, (u.2.0, refl, omega arith))
    (w.0, 0, (w.2.0, refl, omega arith)) in
    (r.0, (r.1.0, omega (arith, r.1.1, same, u.2.2, w.2.2)))

by_branch : (line : Line) (e : Entry) (w : Why) (b : ℕ) → e.why ≡ w → UnitsBy line e e.why b → UnitsBy line e w b
by_branch line e w b is u = let P : Why → Type 0 = λ z. UnitsBy line e z b in subst P is u

pub ends_more : (kind : LineKind) (line : Line) (earlier : List Entry) (e : Entry) (steps b : ℕ)
    → Ends kind line earlier e steps → UnitsBy line e e.why b → steps < b
ends_more kind line earlier e steps b h u =
    not_past line (IsLoad line e.cycle h.0 e.set) (IsOpen kind line e.cycle h.0 e.set e.most) earlier e.set e.most
    e.cycle h.1 steps b h.2.1.1 (by_branch line e (why.Branch h.0 h.1) b h.2.0 u)

pub entries_more : (kind : LineKind) (line : Line) (es : List Entry) (steps all : ℕ) → AreStepsEnded kind line es steps
    → UnitsOf line es all → steps < all
entries_more kind line es steps all h w =
    let r : (b : ℕ) × (UnitsBy line h.entry h.entry.why b × (h.units + b ≤ all)) =
    units_at line es h.at h.entry h.units all h.there h.below.sum w in
    omega (arith, r.1.1, h.few, ends_more kind line (take h.at es) h.entry (steps - h.units) r.0 h.ends r.1.0)

-- the same of frames
module _ (line : Line) (X : ℕ) where
  pub one_frame_units : (f : OpenFrame) (a b : ℕ) → FrameUnits line X f a → FrameUnits line X f b → a ≡ b
  one_frame_units f a b p q =
      let t : Trail = record { cycle = X; frames = f ∷ [] } in
      units_same line [] (Some t) a b (0, a, (refl, (a, 0, (p, refl, omega arith)), omega arith))
      (0, b, (refl, (b, 0, (q, refl, omega arith)), omega arith))

  pub frame_units_at : (fs : List OpenFrame) (k : ℕ) (f : OpenFrame) (before all : ℕ) → slice_get fs k ≡ Some f
      → UnitsIn line X (take k fs) before → UnitsIn line X fs all
      → (b : ℕ) × (FrameUnits line X f b × (before + b ≤ all))
  frame_units_at [] k f before all there u w = absurd (cc)
  frame_units_at (x ∷ fs) zero f before all there u w =
      let P : OpenFrame → Type 0 = λ z. FrameUnits line X z w.0 in
      (w.0, (subst P (same_Some x f there) w.2.0, omega (arith, u, w.2.2)))
  frame_units_at (x ∷ fs) (suc k) f before all there u w =
      let r : (b : ℕ) × (FrameUnits line X f b × (u.1 + b ≤ w.1)) = frame_units_at fs k f u.1 w.1 there u.2.1 w.2.1 in
      (r.0, (r.1.0, omega (arith, r.1.1, one_frame_units x u.0 w.0 u.2.0 w.2.0, u.2.2, w.2.2)))

  pub frames_spend : (kind : LineKind) (es : List Entry) (fs : List OpenFrame) (steps all : ℕ)
      → AreFramesEnded kind line X es fs steps → UnitsIn line X fs all → steps < all
  frames_spend kind es fs steps all h w =
      let r : (b : ℕ) × (FrameUnits line X h.frame b × (h.units + b ≤ all)) =
      frame_units_at fs h.at h.frame h.units all h.there h.below.sum w in
      let p : steps - h.units < r.0 = not_past line (WalksTo line X h.frame)
      (NeedsTo kind line X (is_deepest fs h.at) h.frame) es h.frame.set h.frame.most X h.frame.cites
      (steps - h.units) r.0 h.ends.1 r.1.0 in
      omega (arith, r.1.1, h.few, p)
