-- The order of loads, and lists of loads in that order.
use Rattle.std.specs.Prelude.{◌≡◌, ℕ, suc, ◌-◌, ◌*◌, ◌<◌, ◌⊎◌, Bool, true, false, cond, nat_lt, List, length, slice_get}
use Rattle.std.specs.Prelude.{Option, Some, None}
use Rattle.line_instance.specs.Line.{Line, tasks, has, at_rank}
use Rattle.line_rules.specs.Loads.{IsLoad}
use Rattle.line_rules.specs.declared.types.Mode.{Mode}
use Rattle.line_rules.specs.declared.types.Load.{Load}

-- the truths of a load: those of the front rank by rank from the first rank, then those of the back rank by rank from
-- the last
abbrev pub truth : Line → Load → ℕ → Bool
truth line l k = cond (nat_lt k (tasks line)) (has l.front (at_rank line k))
    (has l.back (at_rank line (2 * tasks line - 1 - k)))

-- a stands before b: they agree up to some truth, which is absent in a and present in b
pub record Precedes (line : Line) (a b : Load) : Type 0 where
  pub at : ℕ
  pub within : at < 2 * tasks line
  pub same : (k : ℕ) → k < at → truth line a k ≡ truth line b k
  pub absent : truth line a at ≡ false
  pub present : truth line b at ≡ true

-- b is the least load above a
pub record IsNext (line : Line) (c : ℕ) (mode : Mode) (R : List Bool) (a b : Load) : Type 0 where
  pub load : IsLoad line c mode R b
  pub above : Precedes line a b
  pub least : (l : Load) → IsLoad line c mode R l → Precedes line a l → Precedes line l b → ⊥

-- the list is that of the loads that pass P, in order: it rises, each of them passes, and each that passes is in it
pub record Lists (line : Line) (P : Load → Type 0) (ls : List Load) : Type 0 where
  pub rises : (k : ℕ) (a b : Load) → slice_get ls k ≡ Some a → slice_get ls (suc k) ≡ Some b → Precedes line a b
  pub sound : (k : ℕ) (a : Load) → slice_get ls k ≡ Some a → P a
  pub complete : (a : Load) → P a → (k : ℕ) × (slice_get ls k ≡ Some a)

-- so many loads pass P
pub record Counts (line : Line) (P : Load → Type 0) (units : ℕ) : Type 0 where
  pub loads : List Load
  pub listed : Lists line P loads
  pub long : length loads ≡ units

-- the load is the last or stands before it; none does where there is no last
abbrev pub UpTo : Line → Option Load → Load → Type 0
UpTo line None l = ⊥
UpTo line (Some last) l = (l ≡ last) ⊎ Precedes line l last

-- the load stands after the last; each does where there is no last
abbrev pub After : Line → Option Load → Load → Type 0
After line None l = Unit {0}
After line (Some last) l = Precedes line last l

-- b is the least load after the last; the least of all where there is no last
pub record IsFollowing (line : Line) (c : ℕ) (mode : Mode) (R : List Bool) (last : Option Load)
    (b : Load) : Type 0 where
  pub load : IsLoad line c mode R b
  pub above : After line last b
  pub least : (l : Load) → IsLoad line c mode R l → After line last l → Precedes line l b → ⊥
