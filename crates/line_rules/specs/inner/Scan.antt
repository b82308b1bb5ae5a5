-- Going over the places of a load from the last one down.
use Rattle.std.specs.Prelude.{◌≡◌, ℕ, ◌*◌, ◌<◌, ◌≤◌, Bool, true, false, List}
use Rattle.line_instance.specs.Truths.{In, IsSubset}
use Rattle.line_instance.specs.Line.{Line, IsLine, IsTaskSet, IsRanked, Before, Apart, tasks, has}
use Rattle.line_instance.specs.Sums.{sum_where}
use Rattle.line_rules.specs.Loads.{IsLoad, Suits, taken}
use Rattle.line_rules.specs.Order.{truth}
use Rattle.line_rules.specs.declared.types.Mode.{Mode}
use Rattle.line_rules.specs.declared.types.Load.{Load}
use Rattle.line_rules.specs.Sides.{AreSets}

-- a load, or nothing
pub record IsPart (line : Line) (c : ℕ) (mode : Mode) (R : List Bool) (l : Load) : Type 0 where
  pub front : IsTaskSet line l.front
  pub back : IsTaskSet line l.back
  pub suits : Suits mode l
  pub within : IsSubset (taken l) R
  pub disjoint : (i : ℕ) → In l.front i → In l.back i → ⊥
  pub fits : sum_where (has (taken l)) line.times ≤ c
  pub parted : (i j : ℕ) → In (taken l) i → In (taken l) j → Apart line i j → ⊥
  pub before : (i j : ℕ) → In R i → In l.front j → Before line i j → In l.front i
  pub after : (i j : ℕ) → In l.back i → In R j → Before line i j → In l.back j

-- What is left to go over are the places below k. Now agrees with base there and has nothing from k on, and no load
-- above base agrees with it up to a place from k on.
pub record Scan (line : Line) (c : ℕ) (mode : Mode) (R : List Bool) (base now : Load) (k : ℕ) : Type 0 where
  pub within : k ≤ 2 * tasks line
  pub sizes : IsLine line
  pub ranked : IsRanked line
  pub whole : IsPart line c mode R base
  pub sets : AreSets line now
  pub same : (j : ℕ) → j < k → truth line now j ≡ truth line base j
  pub absent : (j : ℕ) → k ≤ j → j < 2 * tasks line → truth line now j ≡ false
  pub none : (j : ℕ) → k ≤ j → j < 2 * tasks line → (b : Load) → IsLoad line c mode R b
      → ((i : ℕ) → i < j → truth line base i ≡ truth line b i)
      → truth line base j ≡ false → truth line b j ≡ true → ⊥
