-- The tasks of a line in sets by their sizes at a cycle, and sets of tasks that few stations hold by these sizes.
use Rattle.std.specs.Prelude.{◌≡◌, ◌↔◌, ℕ, ◌*◌, ◌<◌, ◌≤◌, Bool, nat_lt, List}
use Rattle.line_instance.specs.Truths.{In}
use Rattle.line_instance.specs.Line.{Line, has, tasks, time}
use Rattle.line_instance.specs.Sums.{count_where}
use Rattle.line_rules.specs.Bounds.{lm2, lm3}
use Rattle.lower_bounds.specs.declared.by_size.SizeSets.{SizeSets}

-- The cycle c is at least 1, and each set has exactly the tasks of that size: longer than a cycle, longer than half a
-- cycle, and of just half a cycle (Scholl's LM2); of a third of a cycle or more, longer than a third, of two thirds or
-- more, and longer than two thirds (Scholl's LM3).
pub record AreSizeSets (line : Line) (c : ℕ) (sets : SizeSets) : Type 0 where
  pub some : 1 ≤ c
  pub too_long : (i : ℕ) → In sets.too_long i ↔ (i < tasks line) × (c < time line i)
  pub above_half : (i : ℕ) → In sets.above_half i ↔ (i < tasks line) × (c < 2 * time line i)
  pub at_half : (i : ℕ) → In sets.at_half i ↔ (i < tasks line) × (2 * time line i ≡ c)
  pub third : (i : ℕ) → In sets.third i ↔ (i < tasks line) × (c ≤ 3 * time line i)
  pub above_third : (i : ℕ) → In sets.above_third i ↔ (i < tasks line) × (c < 3 * time line i)
  pub two_thirds : (i : ℕ) → In sets.two_thirds i ↔ (i < tasks line) × (2 * c ≤ 3 * time line i)
  pub above_two_thirds : (i : ℕ) → In sets.above_two_thirds i ↔ (i < tasks line) × (2 * c < 3 * time line i)

-- By the sizes of its tasks alone R needs no more than `most` stations: none takes longer than the cycle, and what they
-- need by their halves of a cycle (Scholl's LM2) and by their sixths (LM3) is within it.
pub record FitsBySizes (line : Line) (c : ℕ) (R : List Bool) (most : ℕ) : Type 0 where
  pub none_long : count_where (λ t. nat_lt c t) (has R) line.times ≡ 0
  pub halves : lm2 line c R ≤ most
  pub sixths : lm3 line c R ≤ most
