-- A step of a walk, from the load that it has come to.
use Rattle.std.proofs.Common.{◌≡◌, ℕ, ◌+◌, ◌*◌, Bool, true, false, cond, List, refl, sym, ap, subst, Option, Some, None}
use Rattle.std.proofs.Common.{arith}
use Rattle.line_instance.specs.Line.{Line, IsLine, IsRanked, tasks}
use Rattle.line_rules.specs.Loads.{IsLoad}
use Rattle.line_rules.specs.Order.{IsNext, IsFollowing, After}
use Rattle.line_rules.specs.Sides.{nothing_yet}
use Rattle.line_rules.specs.declared.types.Mode.{Mode}
use Rattle.line_rules.specs.declared.types.Load.{Load}
use Rattle.line_rules.specs.inner.Scan.{Scan}
use Rattle.line_rules.proofs.ScanFacts.{IsBase, scan_start, rescan, base_none, base_some, follows, none_follows}
use Rattle.line_rules.proofs.ScanFacts.{none_above}
use Rattle.check_loads.specs.Standing.{IsWalk, stand, last_of}
use Rattle.check_loads.specs.declared.loads.Walk.{Walk}

base_of : (line : Line) (c : ℕ) (mode : Mode) (R : List Bool) (given : Bool) (s : Load)
    → (given ≡ true → IsLoad line c mode R s) → (given ≡ false → s ≡ nothing_yet)
    → IsBase line c mode R (cond given (Some s) None) s
base_of line c mode R true s f g = base_some line c mode R s (f refl)
base_of line c mode R false s f g =
    let P : Load → Type 0 = λ l. IsBase line c mode R None l in
    subst P (sym (g refl)) (base_none line c mode R)

-- a walk that has given a load stands at the load given last
pub last_given : (w : Walk) → w.given ≡ true → last_of w ≡ Some (stand w)
last_given w e = ap (λ (b : Bool). cond {A = Option Load} b (Some (stand w)) None) e

pub none_given : (w : Walk) → w.given ≡ false → last_of w ≡ None
none_given w e = ap (λ (b : Bool). cond {A = Option Load} b (Some (stand w)) None) e

module _ (line : Line) (ok : IsLine line) (ranked : IsRanked line) (c : ℕ) (mode : Mode) (R : List Bool) (w : Walk)
    (is : IsWalk line c mode R w) (last : Load) (same : last ≡ stand w) where
  base : IsBase line c mode R (last_of w) last
  base =
      let P : Load → Type 0 = λ l. IsBase line c mode R (last_of w) l in
      subst P (sym same) (base_of line c mode R w.given (stand w) is.load is.nothing)

  pub start : Scan line c mode R last (stand w) (tasks line + tasks line)
  start =
      let P : Load → Type 0 = λ l. Scan line c mode R last l (2 * tasks line) in
      let b : IsBase line c mode R (last_of w) last = base in
      rescan line c mode R last (stand w) (2 * tasks line) (tasks line + tasks line) (omega arith)
      (subst P same (scan_start line ok ranked c mode R last b.is_part))

  pub goes_on : (b : Load) → IsNext line c mode R last b → IsFollowing line c mode R (last_of w) b
  goes_on b n = follows line c mode R ranked last (last_of w) base b n

  pub ends : (now : Load) → Scan line c mode R last now 0 → (l : Load) → IsLoad line c mode R l
      → After line (last_of w) l → ⊥
  ends now s = none_follows line c mode R ranked last (last_of w) base (none_above line c mode R last now s)
