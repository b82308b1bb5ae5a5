use Rattle.std.proofs.Common.{◌≡◌, ◌+◌, drop}
use Rattle.round_helpers.specs.Helping.{all_used}
use Rattle.cycle_search.proofs.asking.used_by.Given as goal

abbrev pub invariant-loop-units : goal.invariant-loop-units
invariant-loop-units l = l.used + all_used (drop l.units-index l.team) ≡ all_used l.team
