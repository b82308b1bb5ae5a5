use Rattle.std.proofs.Common.{ℕ, ◌+◌, ◌≤◌, drop}
use Rattle.line_rules.specs.Units.{UnitsOf}
use Rattle.effic_search.specs.Counted.{IsCounted}
use Rattle.effic_search.proofs.counting.counted.Given as goal

abbrev pub invariant-loop-k : goal.invariant-loop-k
invariant-loop-k l = IsCounted l.inst l.entries l.k l.all
    × ((rest : ℕ) × UnitsOf l.inst (drop l.k l.entries) rest × (l.all.units + rest ≤ l.fn.listed.units + l.most))
    × (l.fn.listed.units ≤ l.all.units)
