-- Tables of nodes: few starts in place of many (state-space relaxation: Christofides, Mingozzi and Toth, 1981).
-- Forgotten ones are put back where a row used them (Righini and Salani, 2008). Their form here is own.
use Rattle.std.specs.Prelude.{◌≡◌, ℕ, ◌+◌, ◌/◌, ◌<◌, ◌≤◌, List, [], ◌∷◌, ◌++◌, length, replicate, slice_get}
use Rattle.std.specs.Prelude.{slice_index_or, slice_set, Some, sum, All}
use Rattle.std.specs.List.{AllZip}
use Rattle.sequence_values.specs.declared.types.Times.{Times}
use Rattle.sequence_rules.specs.States.{next_starts, root_starts}
use Rattle.sequence_rules.specs.Ranges.{AreTimes, IsPlace, AreLight}
use Rattle.sequence_table.specs.Nodes.{Nodes, starts_of, next_of}
use Rattle.sequence_table.specs.declared.types.Opened.{Opened}
use Rattle.sequence_table.specs.declared.types.Opened.TheVariants as opened

-- the most nodes of a table: 2,000,000 over one more than the units, rounded down (own)
abbrev pub most_nodes : Times → ℕ
most_nodes times = 2000000 / (sum times.demands + 1)

-- the starts that the step by a model leads to from a node (own)
abbrev pub led_to : Nodes → ℕ → ℕ → List ℕ
led_to t x model = next_starts t.times t.interval t.reach model (starts_of t x)

-- the node y serves the step by a model from x: it is a node, and its starts are no later than those that the step
-- leads to (own)
pub record Leads (t : Nodes) (x model y : ℕ) : Type 0 where
  pub within : y < length t.starts
  pub no_later : AllZip (λ a b. a ≤ b) (starts_of t y) (led_to t x model)

-- starts at each station of a line, none behind its end (own)
pub record AreWithin (times : Times) (reach : ℕ) (starts : List ℕ) : Type 0 where
  pub wide : length starts ≡ times.stations
  pub begun : All (λ s. s ≤ reach) starts

-- A table: its works, interval and length are in range, and no work is above 10^10. Node 0 is begun at the beginning of
-- each station, and no two nodes have the same starts. Each node has a next one for each model, and the rule of next
-- holds: the next one serves the step. There are no more nodes than the table has room for (own).
pub record IsTable (t : Nodes) : Type 0 where
  pub times : AreTimes t.times
  pub light : AreLight t.times
  pub interval : IsPlace t.interval
  pub reach : IsPlace t.reach
  pub root : slice_get t.starts 0 ≡ Some (root_starts t.times)
  pub begun : (x : ℕ) → x < length t.starts → AreWithin t.times t.reach (starts_of t x)
  pub apart : (x y : ℕ) → x < length t.starts → y < length t.starts → starts_of t x ≡ starts_of t y → x ≡ y
  pub both : length t.nexts ≡ length t.starts
  pub each : (x : ℕ) → x < length t.starts → length (slice_index_or t.nexts x []) ≡ 16
  pub leads : (x model : ℕ) → x < length t.starts → model < length t.times.demands
      → Leads t x model (next_of t x model)
  pub few : length t.starts ≤ most_nodes t.times

-- the table with node 0 alone, which each model leads back to (own)
abbrev pub one_node : Times → ℕ → ℕ → Nodes
one_node times interval reach = record {
  times = times;
  interval = interval;
  reach = reach;
  starts = root_starts times ∷ [];
  nexts = replicate 16 0 ∷ [];
}

-- the table in which a model leads from x to y (own)
abbrev pub led_by : Nodes → ℕ → ℕ → ℕ → Nodes
led_by t x model y = record t { nexts = slice_set t.nexts x (slice_set (slice_index_or t.nexts x []) model y) }

-- the table with one node more, which has these starts and leads to the same nodes as z (own)
abbrev pub with_like : Nodes → List ℕ → ℕ → Nodes
with_like t starts z =
    record t { starts = t.starts ++ starts ∷ []; nexts = t.nexts ++ slice_index_or t.nexts z [] ∷ [] }

-- no node has these starts
abbrev pub HasNone : Nodes → List ℕ → Type 0
HasNone t starts = (x : ℕ) → slice_get t.starts x ≡ Some starts → ⊥

-- What opening the step by a model from x makes of a table. Known: the node y has the step's starts, and x leads to it.
-- Added: no node had them. The node y, now the last one, has them; x leads to y, and y to where the node leads that x
-- led to before. Full: no node has them, and there is no room for one more; the table is as before. So it is where
-- memory is wanting (own).
abbrev pub Opens : Nodes → ℕ → ℕ → Nodes → Opened → Type 0
Opens old x model new (opened.Known y) =
    (slice_get old.starts y ≡ Some (led_to old x model)) × (new ≡ led_by old x model y)
Opens old x model new (opened.Added y) =
    (y ≡ length old.starts) × HasNone old (led_to old x model)
    × (new ≡ with_like (led_by old x model y) (led_to old x model) (next_of old x model))
Opens old x model new opened.Full =
    (length old.starts ≡ most_nodes old.times) × HasNone old (led_to old x model) × (new ≡ old)
Opens old x model new opened.NoMemory = new ≡ old
