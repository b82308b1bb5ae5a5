-- What a pass over a table tells of each node: the least charged cost of the rows of so many units that keep to the
-- table (own).
use Rattle.std.specs.Prelude.{◌≡◌, ℕ, zero, suc, ◌+◌, ◌-◌, ◌*◌, ◌<◌, ◌≤◌, min, List, length, slice_index_or, sum}
use Rattle.sequence_rules.specs.Charges.{AreCharges, HoldsCharged, unit_cost}
use Rattle.sequence_table.specs.Nodes.{Nodes, starts_of, next_of}
use Rattle.sequence_table.specs.Tables.{IsTable}

-- the least of the values at the numbers up to n
abbrev pub least_to : (ℕ → ℕ) → ℕ → ℕ
least_to f zero = f 0
least_to f (suc n) = min (least_to f n) (f (suc n))

-- The value of a node with so many units left: 0 where none is left. Else the least, over the models, of the charged
-- cost of the model's unit from the node's starts and the value of its next node with one unit less (own).
abbrev pub value_of : Nodes → List ℕ → ℕ → ℕ → ℕ
value_of t charges zero x = 0
value_of t charges (suc left) x =
    least_to (λ m. unit_cost t.times t.reach charges (starts_of t x) m + value_of t charges left (next_of t x m))
    (length t.times.demands - 1)

-- what was told of so many units and so many nodes: the values with none left, then those with one left, and so on
pub record Values : Type 0 where
  pub left : ℕ
  pub nodes : ℕ
  pub all : List ℕ

-- the value that was told of a node with so many units left
abbrev pub told : Values → ℕ → ℕ → ℕ
told v left x = slice_index_or v.all (left * v.nodes + x) 0

-- What a pass tells of a table and charges: of each node the value, with up to as many units left as are wanted (own).
pub record IsToldOf (t : Nodes) (charges : List ℕ) (v : Values) : Type 0 where
  pub left : v.left ≡ sum t.times.demands
  pub nodes : v.nodes ≡ length t.starts
  pub each : (left x : ℕ) → left ≤ v.left → x < v.nodes → told v left x ≡ value_of t charges left x

-- each value is below: every row of so many units from the starts of the node has a charged cost of at least it (own)
abbrev pub AreBelow : Nodes → List ℕ → Values → Type 0
AreBelow t charges v = (left x : ℕ) → left ≤ v.left → x < v.nodes
    → HoldsCharged t.times t.interval t.reach charges left (starts_of t x) (told v left x)

-- soundness: every row of so many units from the starts of a node has a charged cost of at least the node's value (own)
abbrev pub EveryValueHolds : Type 0
EveryValueHolds = (t : Nodes) (charges : List ℕ) → IsTable t → AreCharges t.times charges → (left x : ℕ) → x < length t.starts
    → HoldsCharged t.times t.interval t.reach charges left (starts_of t x) (value_of t charges left x)
