use Rattle.std.proofs.Common.{ℕ, ◌-◌, ◌≤◌}
use Rattle.line_rules.specs.Balance.{IsRight}
use Rattle.effic_search.proofs.trying.longest_station.Given as goal

abbrev pub invariant-looks : goal.invariant-looks
invariant-looks l = (c : ℕ) → IsRight l.kind l.inst c l.balance → l.longest ≤ c

abbrev pub decreases-looks : goal.decreases-looks
decreases-looks l = l.cycle - l.longest
