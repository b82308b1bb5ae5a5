-- What the tests of a load and of its rest tell of the load.
use Rattle.std.proofs.Common.{◌≡◌, ℕ, ◌-◌, ◌<◌, ◌≤◌, Bool, false, List, Some, Option, IfSome, sym, ◌∙◌, subst, arith}
use Rattle.std.specs.Prelude.{IsTrue, ◌↔◌}
use Rattle.line_instance.specs.Truths.{IsSubset}
use Rattle.line_instance.specs.Line.{Line}
use Rattle.line_rules.specs.Bounds.{bound}
use Rattle.line_rules.specs.Loads.{IsLoad, IsFull, rest}
use Rattle.line_rules.specs.Entries.{IsOpen, Cites}
use Rattle.line_rules.specs.declared.types.LineKind.{LineKind}
use Rattle.line_rules.specs.declared.types.Mode.{Mode}
use Rattle.line_rules.specs.declared.types.Load.{Load}
use Rattle.line_rules.specs.declared.types.Entry.{Entry}
use Rattle.line_rules.specs.declared.types.OpenFrame.{OpenFrame}
use Rattle.station_search.specs.Decide.{IsAnswered}
use Rattle.station_search.specs.inner.Work.{IsBeside}
use Rattle.station_search.specs.declared.listings.Listing.{Listing}
use Rattle.station_search.proofs.Clauses.{not_exceeds}

-- what the walk says of its load holds of the last load of the frame
pub full_is : (line : Line) (X : ℕ) (f : OpenFrame) (g : Listing) (l : Load) (b : Bool) → IsBeside line X f g
    → f.last ≡ Some l → IfSome g.walk.last (λ k. IsTrue b ↔ IsFull line g.walk.cycle g.walk.mode g.walk.set k)
    → IsTrue b ↔ IsFull line X f.mode f.set l
full_is line X f g l b beside last h =
    let L : Option Load → Type 0 =
    λ z. IfSome z (λ k. IsTrue b ↔ IsFull line g.walk.cycle g.walk.mode g.walk.set k) in
    let C : ℕ → Type 0 = λ z. IsTrue b ↔ IsFull line z g.walk.mode g.walk.set l in
    let M : Mode → Type 0 = λ z. IsTrue b ↔ IsFull line X z g.walk.set l in
    let S : List Bool → Type 0 = λ z. IsTrue b ↔ IsFull line X f.mode z l in
    subst S beside.same_set (subst M beside.same_mode (subst C beside.same_cycle
    (subst L (beside.same_last ∙ last) h)))

-- a full load whose rest the bound doesn't refute is open
pub opens : (kind : LineKind) (line : Line) (X : ℕ) (f : OpenFrame) (l : Load) (T : List Bool) (full over : Bool)
    → IsLoad line X f.mode f.set l → (IsTrue full ↔ IsFull line X f.mode f.set l) → IsTrue full
    → T ≡ rest f.set l → (IsTrue over ↔ f.most - 1 < bound kind line X T) → over ≡ false → 1 ≤ f.most
    → IsOpen kind line X f.mode f.set f.most l
opens kind line X f l T full over load is told same exceeds kept some =
    let B : List Bool → Type 0 = λ z. bound kind line X z ≤ f.most - 1 in
    let b : bound kind line X (rest f.set l) ≤ f.most - 1 =
    subst B same (not_exceeds over (f.most - 1) (bound kind line X T) kept exceeds) in
    record { load = load; full = is.0 told; bound = omega (arith, b, some) }

-- an entry that answers a part of the rest is one that the load may cite
pub part_cites : (es : List Entry) (id : ℕ) (H T R : List Bool) (most X : ℕ) → T ≡ R → IsSubset H T
    → IsAnswered es id H most X → Cites es id R most X
part_cites es id H T R most X same within a =
    let P : List Bool → Type 0 = λ z. IsSubset z R in
    let Q : List Bool → Type 0 = λ z. IsSubset H z in
    record {
      entry = a.entry;
      there = a.there;
      part = subst P (sym a.answers.same) (subst Q same within);
      stations = omega (arith, a.answers.stations);
      cycle = a.answers.long;
    }
