-- What the test of a found step reads off the rows.
use Rattle.std.specs.Prelude.{◌≡◌, ℕ, false, Bool, List, [], slice_index_or}
use Rattle.line_instance.specs.Truths.{In}
use Rattle.line_instance.specs.Line.{has}

-- by the rows no two tasks of two share, and `one` has items outside two that share with no task of two
pub record AreOnes (rows : List (List Bool)) (items two one : List Bool) : Type 0 where
  pub within : (j : ℕ) → In one j → In items j × (has two j ≡ false)
  pub apart : (i j : ℕ) → In two i → In two j → In (slice_index_or rows i []) j → ⊥
  pub ones : (i j : ℕ) → In two i → In one j → In (slice_index_or rows i []) j → ⊥
