-- The costs and the values that a pass reckons, place by place.
use Rattle.std.specs.Prelude.{◌≡◌, ℕ, ◌*◌, ◌/◌, ◌%◌, ◌<◌, ◌≤◌, List, length, slice_index_or, All}
use Rattle.sequence_rules.specs.Charges.{unit_cost}
use Rattle.sequence_table.specs.Nodes.{Nodes, starts_of}
use Rattle.sequence_table.specs.Values.{value_of}

-- the costs below place n: that of a unit of model m from node x stands at x * models + m
pub record AreCostsTo (t : Nodes) (charges costs : List ℕ) (n : ℕ) : Type 0 where
  pub many : length costs ≡ n
  pub dear : All (λ v. v ≤ 740000000000000) costs
  pub each : (p : ℕ) → p < n → slice_index_or costs p 0
      ≡ unit_cost t.times t.reach charges (starts_of t (p / length t.times.demands)) (p % length t.times.demands)

abbrev pub AreCosts : Nodes → List ℕ → List ℕ → Type 0
AreCosts t charges costs = AreCostsTo t charges costs (length t.starts * length t.times.demands)

-- the values below place n: that of node x with so many units left stands at left * nodes + x
pub record AreValuesTo (t : Nodes) (charges values : List ℕ) (n : ℕ) : Type 0 where
  pub many : length values ≡ n
  pub each : (p : ℕ) → p < n → slice_index_or values p 0
      ≡ value_of t charges (p / length t.starts) (p % length t.starts)
