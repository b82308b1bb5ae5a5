-- Which try a search for the least product comes to.
use Rattle.std.specs.Prelude.{◌≡◌, ℕ, ◌<◌, ◌≤◌, List}
use Rattle.line_instance.specs.Line.{Line}
use Rattle.line_rules.specs.Balance.{all_tasks}
use Rattle.line_rules.specs.Entries.{HasAnswer}
use Rattle.line_rules.specs.declared.types.Entry.{Entry}
use Rattle.effic_check.specs.Accepted.{IsClosed, cycle_below}

-- The next try of a search in `least` to `most` stations that has these entries, and a balance of the product `upper`:
-- it is in m stations, and each lesser number is closed below that product. Its cycle X is the greatest one whose
-- product with m is below it, and no entry refutes all tasks in m stations at X. (Own.)
pub record IsNextTry (line : Line) (es : List Entry) (least most upper m X : ℕ) : Type 0 where
  pub from : least ≤ m
  pub to : m ≤ most
  pub closed : (s : ℕ) → least ≤ s → s < m → IsClosed line es upper s
  pub some : 1 ≤ X
  pub is : X ≡ cycle_below upper m
  pub left : HasAnswer es (all_tasks line) m X → ⊥
