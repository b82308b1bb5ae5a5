use Rattle.std.proofs.Common.{◌≤◌, ◌<◌, ℕ}
use Rattle.line_rules.specs.Balance.{seat}
use Rattle.line_rules.proofs.checking.out_of_range.Given as goal

abbrev pub invariant-loop-i : goal.invariant-loop-i
invariant-loop-i l = (j : ℕ) → j < l.i → (1 ≤ (seat l.place j).station) × ((seat l.place j).station ≤ l.stations)
