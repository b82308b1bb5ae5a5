use Rattle.effic_search.specs.inner.Opening.{IsFirstBook}
use Rattle.effic_search.proofs.opening.begin.Given as goal

abbrev pub invariant-loop-stations : goal.invariant-loop-stations
invariant-loop-stations l = IsFirstBook l.wanted.kind l.inst l.wanted.least l.stations l.book
