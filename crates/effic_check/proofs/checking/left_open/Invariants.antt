use Rattle.std.proofs.Common.{ℕ, ◌<◌, ◌≤◌}
use Rattle.effic_check.specs.Accepted.{IsClosed}
use Rattle.effic_check.proofs.checking.left_open.Given as goal

abbrev pub invariant-loop-stations : goal.invariant-loop-stations
invariant-loop-stations l = (m : ℕ) → l.cert.least_m ≤ m → m < l.stations
    → IsClosed l.inst l.cert.entries l.cert.lower m
