-- What is known of the times of a set of tasks.
use Rattle.std.specs.Prelude.{◌≡◌, ℕ, ◌*◌, ◌≤◌, Bool, cond, ◌&&◌, ◌||◌, not, nat_eq, nat_lt, List}
use Rattle.line_instance.specs.Truths.{In}
use Rattle.line_instance.specs.Line.{Line, has, is_before, tasks, time}
use Rattle.line_instance.specs.Sums.{sum_where, weigh, count_where}
use Rattle.line_rules.specs.Bounds.{greatest_below, sixths}

-- the greatest time of a task of R, 0 where there is none
unfoldable pub longest_of : Line → List Bool → ℕ
longest_of line R = greatest_below (tasks line) (λ i. cond (has R i) (time line i) 0)

-- the times of the tasks of R that are neither before nor after j, without j
unfoldable pub time_elsewhere : Line → List Bool → ℕ → ℕ
time_elsewhere line R j = sum_where (λ i. has R i && not (nat_eq i j || (is_before line i j || is_before line j i)))
    line.times

-- a number that is the total time of R, and one that no task of R exceeds by its time, within the limits of times
pub record AreTimes (line : Line) (R : List Bool) (sum most : ℕ) : Type 0 where
  pub total : sum ≡ sum_where (has R) line.times
  pub total_limit : sum ≤ 204800000000000000
  pub longest : (i : ℕ) → In R i → time line i ≤ most
  pub longest_limit : most ≤ 200000000000000

-- What the tasks of R count for by their size: those longer than a cycle, those longer than half a cycle, those of
-- exactly half a cycle, and the sixths of a station of all together. And how great these counts can be.
pub record AreCounts (line : Line) (c : ℕ) (R : List Bool) (long above half six : ℕ) : Type 0 where
  pub too_long : long ≡ count_where (λ t. nat_lt c t) (has R) line.times
  pub above_half : above ≡ count_where (λ t. nat_lt c (2 * t)) (has R) line.times
  pub at_half : half ≡ count_where (λ t. nat_eq (2 * t) c) (has R) line.times
  pub sixths : six ≡ weigh (sixths c) (has R) line.times
  pub most_halves : above ≤ 1024
  pub most_half : half ≤ 1024
  pub most_sixths : six ≤ 6144
