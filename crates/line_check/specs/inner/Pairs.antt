-- When a task of a pair of sets has what a load asks of it.
use Rattle.std.specs.Prelude.{◌≡◌, ℕ, Bool, true, List}
use Rattle.line_instance.specs.Truths.{In}
use Rattle.line_instance.specs.Line.{Line, has, Before, Apart}
use Rattle.line_rules.specs.declared.types.Load.{Load}

-- i is apart from no task of the load T, what is before it in R is in front where i is, and what is after it in R is at
-- the back where i is
pub record IsClosedAt (line : Line) (R : List Bool) (l : Load) (T : List Bool) (i : ℕ) : Type 0 where
  pub parted : has T i ≡ true → (j : ℕ) → In T j → Apart line j i → ⊥
  pub before : has l.front i ≡ true → (j : ℕ) → In R j → Before line j i → In l.front j
  pub after : has l.back i ≡ true → (j : ℕ) → In R j → Before line i j → In l.back j
