use Rattle.effic_search.specs.Counted.{most_ended}
use Rattle.effic_search.specs.inner.Going.{IsGoing, IsPaid, product_of}
use Rattle.effic_search.proofs.settling.settle.Given as goal

abbrev pub invariant-tries : goal.invariant-tries
invariant-tries g l = IsGoing l.wanted.kind l.inst l.wanted.least l.wanted.most l.stations l.search
    × IsPaid l.plan (most_ended l.inst l.wanted.least l.stations (product_of l.search)) l.search

abbrev pub decreases-tries : goal.decreases-tries
decreases-tries g l = product_of l.search
