-- What a table of nodes holds. Nodes are counted from 0, in the order in which they came.
use Rattle.std.specs.Prelude.{ℕ, List, [], slice_index_or}
use Rattle.sequence_values.specs.declared.types.Times.{Times}

-- the works that the steps are of, the launch interval, the length of each station, the starts of each node, and for
-- each node the node that each model leads to (own)
pub record Nodes : Type 0 where
  pub times : Times
  pub interval : ℕ
  pub reach : ℕ
  pub starts : List (List ℕ)
  pub nexts : List (List ℕ)

-- the starts of a node
abbrev pub starts_of : Nodes → ℕ → List ℕ
starts_of t x = slice_index_or t.starts x []

-- the node that a model leads to from a node
abbrev pub next_of : Nodes → ℕ → ℕ → ℕ
next_of t x model = slice_index_or (slice_index_or t.nexts x []) model 0
