use Rattle.effic_search.specs.Counted.{most_ended}
use Rattle.effic_search.specs.inner.Going.{IsGoing, IsPaid, product_of}
use Rattle.effic_search.proofs.searching.lowered.Given as goal

abbrev pub invariant-loop-stations : goal.invariant-loop-stations
invariant-loop-stations g l = IsGoing l.wanted.kind l.inst l.wanted.least l.wanted.most l.stations l.search
    × IsPaid l.plan (most_ended l.inst l.wanted.least l.stations (product_of l.search)) l.search
