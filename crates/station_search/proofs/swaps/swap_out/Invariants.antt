use Rattle.std.proofs.Common.{◌≡◌}
use Rattle.lemma_core.specs.Desks.{Waits}
use Rattle.station_search.proofs.swaps.swap_out.Given as goal

abbrev pub invariant-loop-k : goal.invariant-loop-k
invariant-loop-k g l = record {
  waits : Waits (g.D.Desk.desk l.fn.desk) (g.D.Desk.desk l.desk);
  swapped : l.swapped ≡ l.fn.swapped;
}
