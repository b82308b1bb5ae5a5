-- The total time of what the last load of a frame leaves, by the total of the frame's set and that of the load.
use Rattle.std.proofs.Common.{◌≡◌, ℕ, ◌+◌, ◌-◌, ap, ◌∙◌, arith, Some, Option}
use Rattle.line_instance.specs.Line.{Line, has}
use Rattle.line_instance.specs.Sums.{sum_where}
use Rattle.line_rules.specs.Loads.{IsLoad, taken, rest}
use Rattle.line_rules.specs.declared.types.Load.{Load}
use Rattle.line_rules.specs.declared.types.OpenFrame.{OpenFrame}
use Rattle.line_rules.proofs.Paths.{rest_inside}
use Rattle.line_rules.specs.Times.{AreTimes}
use Rattle.line_rules.proofs.Rest.{rest_sum}
use Rattle.station_load.specs.Walking.{last_load}
use Rattle.station_search.specs.declared.listings.Listing.{Listing}
use Rattle.station_search.specs.inner.Work.{IsBeside}

module _ (line : Line) (X : ℕ) (f : OpenFrame) (g : Listing) (l : Load) (b : IsBeside line X f g)
    (load : IsLoad line X f.mode f.set l) (last : f.last ≡ Some l) where
  -- the total of the set is that of the load and that of the rest
  pub rest_total : g.times.total ≡ g.walk.sum + sum_where (has (rest f.set l)) line.times
  rest_total =
      let sum : g.walk.sum ≡ sum_where (has (taken l)) line.times =
      b.walk.sum ∙ ap (λ (z : Option Load). sum_where (has (taken (last_load z))) line.times)
      (b.same_last ∙ last) in
      omega (arith, sum, b.times.total, rest_sum line f.set l load.within)

  pub times_of_rest : AreTimes line (rest f.set l) (g.times.total - g.walk.sum) g.times.longest
  times_of_rest = record {
    total = omega (arith, rest_total);
    total_limit = omega (arith, b.times.total_limit);
    longest = λ i m. b.times.longest i (rest_inside f.set l i m);
    longest_limit = b.times.longest_limit;
  }
