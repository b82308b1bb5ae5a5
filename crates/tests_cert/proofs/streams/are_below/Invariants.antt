use Rattle.std.proofs.Common.{ℕ, ◌<◌, take}
use Rattle.std.specs.List.{Contains}
use Rattle.tests_cert.proofs.streams.are_below.Given as goal

abbrev pub invariant-loop-cite : goal.invariant-loop-cite
invariant-loop-cite l = (cite : ℕ) → Contains (take l.cite-index l.cites) cite → cite < l.k
