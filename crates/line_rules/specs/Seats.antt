-- Loads in the order of their stations.
use Rattle.std.specs.Prelude.{◌≡◌, ℕ, suc, Bool, cond, List, [], ◌∷◌, ◌++◌, length, slice_get, Option, Some, None}
use Rattle.line_instance.specs.Truths.{In}
use Rattle.line_instance.specs.Line.{Line, has}
use Rattle.line_rules.specs.Balance.{IsBalance}
use Rattle.line_rules.specs.Loads.{taken}
use Rattle.line_rules.specs.declared.types.LineKind.{LineKind}
use Rattle.line_rules.specs.declared.types.LineKind.TheVariants.{Straight, U}
use Rattle.line_rules.specs.declared.types.Side.{Side}
use Rattle.line_rules.specs.declared.types.Side.TheVariants as side
use Rattle.line_rules.specs.declared.types.Seatplace.{Seatplace}
use Rattle.line_rules.specs.declared.types.Load.{Load}
use Rattle.line_rules.specs.declared.types.Mode.{Mode}
use Rattle.line_rules.specs.declared.types.Mode.TheVariants as mode
use Rattle.line_rules.specs.declared.types.OpenFrame.{OpenFrame}

-- the side of a task of a load
abbrev pub side_of : LineKind → Load → ℕ → Side
side_of Straight l i = side.Front
side_of U l i = cond (has l.front i) side.Front side.Back

-- each task of a load has the load's number, counted from 1, as its station, and the side of its part
abbrev pub IsPlacement : LineKind → List Load → (ℕ → Seatplace) → Type 0
IsPlacement kind loads place = (k : ℕ) (l : Load) (i : ℕ) → slice_get loads k ≡ Some l → In (taken l) i
    → place i ≡ record { station = suc k; side = side_of kind l i }

-- The loads part R: each task of R is in a load, tasks of loads are in R, and no task is in two. Their placement is a
-- balance.
pub record AreSeated (kind : LineKind) (line : Line) (c : ℕ) (R : List Bool) (loads : List Load) : Type 0 where
  pub each : (i : ℕ) → In R i → (k : ℕ) × (l : Load) × ((slice_get loads k ≡ Some l) × In (taken l) i)
  pub within : (k : ℕ) (l : Load) (i : ℕ) → slice_get loads k ≡ Some l → In (taken l) i → In R i
  pub once : (j k : ℕ) (a b : Load) (i : ℕ) → slice_get loads j ≡ Some a → slice_get loads k ≡ Some b → In (taken a) i
      → In (taken b) i → j ≡ k
  pub balance : (place : ℕ → Seatplace) → IsPlacement kind loads place → IsBalance kind line c R (length loads) place

-- a load of the front or of both parts stands before the others, and a load of the back after them
abbrev pub around : Mode → Option Load → List Load → List Load
around m None ls = ls
around mode.Fore (Some l) ls = l ∷ ls
around mode.Back (Some l) ls = ls ++ l ∷ []
around mode.Both (Some l) ls = l ∷ ls

-- the last loads of frames, in the order of their stations, around the loads of the rest
abbrev pub seated : List OpenFrame → List Load → List Load
seated [] ls = ls
seated (f ∷ fs) ls = around f.mode f.last (seated fs ls)
