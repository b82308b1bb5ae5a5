-- Lower bounds on the number of stations that a set of tasks needs, and the idle time.
use Rattle.std.specs.Prelude.{ℕ, zero, suc, ◌+◌, ◌-◌, ◌*◌, ◌/◌, ◌<◌, max, Bool, cond, ◌&&◌, ◌||◌, nat_eq, nat_lt, List}
use Rattle.line_instance.specs.Truths.{In, count}
use Rattle.line_instance.specs.Line.{Line, has, is_before, tasks, time}
use Rattle.line_instance.specs.Sums.{sum_where, count_where, weigh}
use Rattle.line_rules.specs.Balance.{all_tasks}
use Rattle.line_rules.specs.declared.types.LineKind.{LineKind}
use Rattle.line_rules.specs.declared.types.LineKind.TheVariants.{Straight, U}

-- a divided by b, rounded up
abbrev pub up : ℕ → ℕ → ℕ
up a b = (a + (b - 1)) / b

-- the times of all tasks together
abbrev pub total_time : Line → ℕ
total_time line = sum_where (has (all_tasks line)) line.times

-- the greater of 1 and the total time divided by the cycle, rounded up (Scholl's LM1)
abbrev pub total_bound : Line → ℕ → ℕ
total_bound line c = max 1 (up (total_time line) c)

-- the time of r stations that no task uses
abbrev pub idle_time : Line → ℕ → ℕ → ℕ
idle_time line c r = r * c - total_time line

-- i is a task that no station can hold
abbrev pub IsTooLong : Line → ℕ → ℕ → Type 0
IsTooLong line c i = (i < tasks line) × (c < time line i)

-- LM1 of R: its total time divided by the cycle, rounded up (Scholl)
unfoldable pub lm1 : Line → ℕ → List Bool → ℕ
lm1 line c R = up (sum_where (has R) line.times) c

-- LM2 of R: the tasks longer than half a cycle, of which no two fit one station, and half of those of just half a
-- cycle, rounded up (Scholl)
unfoldable pub lm2 : Line → ℕ → List Bool → ℕ
lm2 line c R = count_where (λ t. nat_lt c (2 * t)) (has R) line.times + up
    (count_where (λ t. nat_eq (2 * t) c) (has R) line.times) 2

-- the sixths of a station that a time t counts for: 6 above two thirds of the cycle, 4 at two thirds, 3 between, 2 at
-- one third, and none below it (Scholl's LM3, with sixths)
unfoldable pub sixths : ℕ → ℕ → ℕ
sixths c t = cond (nat_lt (2 * c) (3 * t)) 6 (cond (nat_eq (3 * t) (2 * c)) 4
    (cond (nat_lt c (3 * t)) 3 (cond (nat_eq (3 * t) c) 2 0)))

-- LM3 of R: the sixths of its tasks, in stations, rounded up (Scholl)
unfoldable pub lm3 : Line → ℕ → List Bool → ℕ
lm3 line c R = up (weigh (sixths c) (has R) line.times) 6

-- the head of j: its time and those of the tasks of R before it, in cycles, rounded up (Scholl)
unfoldable pub head : Line → ℕ → List Bool → ℕ → ℕ
head line c R j = up (sum_where (λ i. has R i && (nat_eq i j || is_before line i j)) line.times) c

-- the tail of j: its time and those of the tasks of R after it, in cycles, rounded up (Scholl)
unfoldable pub tail : Line → ℕ → List Bool → ℕ → ℕ
tail line c R j = up (sum_where (λ i. has R i && (nat_eq i j || is_before line j i)) line.times) c

-- the greatest value of f below n, 0 where n is 0
abbrev pub greatest_below : ℕ → (ℕ → ℕ) → ℕ
greatest_below zero f = 0
greatest_below (suc n) f = max (f n) (greatest_below n f)

-- on a straight line, the most stations that the head and the tail of a task of R need, its own station counted once
-- (Scholl); a U-line has no such bound
unfoldable pub chained : LineKind → Line → ℕ → List Bool → ℕ
chained Straight line c R = greatest_below (tasks line) (λ j. cond (has R j) (head line c R j + tail line c R j - 1) 0)
chained U line c R = 0

-- j is chained in R for m stations: a task of R whose head and tail need more than m, its own station counted once
-- (Scholl); on a U-line none is
unfoldable pub IsChained : LineKind → Line → ℕ → List Bool → ℕ → ℕ → Type 0
IsChained Straight line c R m j = In R j × (m < head line c R j + tail line c R j - 1)
IsChained U line c R m j = ⊥

-- The bound of R at cycle c: 0 for the empty set; 1,025 where a time of R exceeds c; otherwise the greatest of 1 and
-- the bounds above (Scholl).
unfoldable pub bound : LineKind → Line → ℕ → List Bool → ℕ
bound kind line c R =
    cond (nat_eq (count R) 0) 0
    (cond (nat_lt 0 (count_where (λ t. nat_lt c t) (has R) line.times)) 1025
    (max 1 (max (lm1 line c R) (max (lm2 line c R) (max (lm3 line c R) (chained kind line c R))))))
