-- What the fields of a table, and of what a pass tells, stand for.
use Rattle.std.specs.Prelude.{◌≡◌, ℕ, ◌+◌, ◌*◌, ◌<◌, List, [], ◌∷◌, ◌++◌, length, slice_index_or, slice_set, All}
use Rattle.sequence_values.specs.declared.types.Times.{Times}
use Rattle.sequence_table.specs.Nodes.{Nodes}
use Rattle.sequence_table.specs.Values.{Values}

-- the table of these fields
abbrev pub nodes_of : Times → ℕ → ℕ → List (List ℕ) → List (List ℕ) → Nodes
nodes_of times interval reach starts nexts =
    record { times = times; interval = interval; reach = reach; starts = starts; nexts = nexts }

-- the rows of next nodes in which a model leads from x to y, and one row more: that of the node which was the next
-- before
abbrev pub rows_with : List (List ℕ) → ℕ → ℕ → ℕ → List (List ℕ)
rows_with nexts x model y =
    let row = slice_index_or nexts x [] in
    let rows = slice_set nexts x (slice_set row model y) in
    rows ++ slice_index_or rows (slice_index_or row model 0) [] ∷ []

-- the values of these fields
abbrev pub values_of : ℕ → ℕ → List ℕ → Values
values_of left nodes all = record { left = left; nodes = nodes; all = all }

-- there is a value for each node and each number of units left, below 10^18
pub record AreKept (left nodes : ℕ) (all : List ℕ) : Type 0 where
  pub many : length all ≡ (left + 1) * nodes
  pub limit : All (λ v. v < 1000000000000000000) all
