-- The times at a station, a task at a time.
use Rattle.std.proofs.Common.{◌≡◌, ℕ, ◌+◌, ◌<◌, ◌≤◌, cond, ◌&&◌, nat_eq, List, take, ap, arith, add-one}
use Rattle.line_instance.specs.Line.{Line, tasks, time}
use Rattle.line_instance.specs.Sums.{sum_where}
use Rattle.line_instance.proofs.Sums.{weigh-take}
use Rattle.line_rules.specs.Balance.{seat}
use Rattle.line_rules.specs.declared.types.Seatplace.{Seatplace}
use Rattle.line_rules.proofs.All.{In-all}
use Rattle.line_rules.proofs.Stations.{at_station}

-- the sum of one task more
pub one_more : (line : Line) (ps : List Seatplace) (station k sum t : ℕ) → tasks line ≤ 1024 → k < tasks line
    → sum ≡ sum_where (at_station line ps station) (take k line.times)
    → t ≡ cond (nat_eq (seat ps k).station station) (time line k) 0
    → sum + t ≡ sum_where (at_station line ps station) (take (k + 1) line.times)
one_more line ps station k sum t small within so_far this =
    let there : cond (at_station line ps station k) (time line k) 0
    ≡ cond (nat_eq (seat ps k).station station) (time line k) 0 =
    ap (λ b. cond (b && nat_eq (seat ps k).station station) (time line k) 0) (In-all line k small within) in
    let step = weigh-take (λ w. w) (at_station line ps station) k line.times within in
    omega (
      arith,
      so_far,
      this,
      there,
      ap (λ n. sum_where (at_station line ps station) (take n line.times)) (add-one k),
      step,
    )
