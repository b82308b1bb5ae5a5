-- The lower bound on a product that entries show.
use Rattle.std.specs.Prelude.{◌≡◌, ◌⊎◌, ℕ, ◌+◌, ◌*◌, ◌<◌, ◌≤◌, List}
use Rattle.line_instance.specs.Line.{Line}
use Rattle.line_rules.specs.Balance.{all_tasks}
use Rattle.line_rules.specs.Bounds.{total_time}
use Rattle.line_rules.specs.Entries.{HasAnswer}
use Rattle.line_rules.specs.declared.types.Entry.{Entry}
use Rattle.cycle_search.specs.Ends.{first_lower}

-- g is the greatest cycle at which an entry refutes all tasks in m stations, 0 for none
pub record IsGreatestRefuted (line : Line) (es : List Entry) (m g : ℕ) : Type 0 where
  pub refuted : 1 ≤ g → HasAnswer es (all_tasks line) m g
  pub greatest : (c : ℕ) → HasAnswer es (all_tasks line) m c → c ≤ g

-- The lower bound over the numbers of stations from `least` to below `end`, where a balance has the product `upper`:
-- the
-- least of that and, over these numbers, of the stations times one more than the greatest refuted cycle.
pub record IsLowest (line : Line) (es : List Entry) (least end upper lower : ℕ) : Type 0 where
  pub within : lower ≤ upper
  pub each : (m : ℕ) → least ≤ m → m < end
      → (g : ℕ) × IsGreatestRefuted line es m g × (lower ≤ m * (g + 1))
  pub reached : (lower ≡ upper)
      ⊎ ((m : ℕ) × (g : ℕ) × (least ≤ m) × (m < end) × IsGreatestRefuted line es m g × (lower ≡ m * (g + 1)))

-- A lower bound that is at least what the times alone show: for one of the numbers of stations from `least` to `most` it
-- is at least that number times the first lower end for it. So it is at least the total time. (Own.)
pub record IsAtLeastFirst (line : Line) (least most lower : ℕ) : Type 0 where
  pub stations : ℕ
  pub from : least ≤ stations
  pub to : stations ≤ most
  pub product : stations * first_lower line stations ≤ lower
  pub total : total_time line ≤ lower
