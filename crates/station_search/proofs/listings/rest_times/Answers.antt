use Rattle.std.proofs.Common.{ℕ, ◌-◌, sym, subst, arith}
use Rattle.line_rules.specs.Loads.{rest}
use Rattle.line_rules.specs.Times.{AreTimes}
use Rattle.station_search.specs.inner.Steps.{with_mark}
use Rattle.station_search.proofs.LightLoads.{value_of, load_at}
use Rattle.station_search.proofs.RestTimes.{rest_total, times_of_rest}
use Rattle.station_search.proofs.listings.rest_times.Goals as goal

pub overflow_sub-result : goal.overflow_sub-result
overflow_sub-result c =
    let v = value_of c.args.listing.now.walk.last c.requires.given in
    let f = with_mark c.args.frame.now c.args.listing.now.walk.last in
    omega (
      arith,
      c.sum.ensures,
      rest_total c.args.inst.now c.args.cycle f c.args.listing.now v.0 c.requires.beside
          (load_at c.args.inst.now c.args.cycle f c.args.listing.now v.0 c.requires.beside v.1) v.1,
    )

pub returns-clause-times : goal.returns-clause-times
returns-clause-times c = λ l e.
    let f = with_mark c.args.frame.now c.args.listing.now.walk.last in
    let P : ℕ → Type 0 = λ z. AreTimes c.args.inst.now (rest c.args.frame.now.set l)
    (c.args.listing.now.times.total - z) c.args.listing.now.times.longest in
    subst P (sym c.sum.ensures) (times_of_rest c.args.inst.now c.args.cycle f c.args.listing.now l c.requires.beside
    (load_at c.args.inst.now c.args.cycle f c.args.listing.now l c.requires.beside e) e)
