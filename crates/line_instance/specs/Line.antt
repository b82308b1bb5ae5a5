-- Tasks with times, the tasks before each one, the tasks that are apart from each one, and the task of each rank.
use Rattle.std.specs.Prelude.{◌≡◌, ℕ, ◌<◌, ◌≤◌, Bool, false, List, [], length, slice_index_or}
use Rattle.line_instance.specs.Truths.{In}

-- row j of before has the tasks before j, row j of apart those apart from j, and order has the task of each rank
-- (Scholl)
pub record Line : Type 0 where
  pub times : List ℕ
  pub before : List (List Bool)
  pub apart : List (List Bool)
  pub order : List ℕ

-- how many tasks there are
abbrev pub tasks : Line → ℕ
tasks line = length line.times

-- the truth of i being in s
abbrev pub has : List Bool → ℕ → Bool
has s i = slice_index_or s i false

-- whether i is before j, and whether it is apart from j
abbrev pub is_before : Line → ℕ → ℕ → Bool
is_before line i j = has (slice_index_or line.before j []) i

abbrev pub is_apart : Line → ℕ → ℕ → Bool
is_apart line i j = has (slice_index_or line.apart j []) i

-- i is before j
abbrev pub Before : Line → ℕ → ℕ → Type 0
Before line i j = In (slice_index_or line.before j []) i

-- i is apart from j
abbrev pub Apart : Line → ℕ → ℕ → Type 0
Apart line i j = In (slice_index_or line.apart j []) i

-- j is covered by i: i is before j and no task lies between (Scholl)
pub record Covers (line : Line) (i j : ℕ) : Type 0 where
  pub before : Before line i j
  pub between : (k : ℕ) → Before line i k → Before line k j → ⊥

-- a set of tasks is a list of 1,024 truths, which are true of tasks alone
pub record IsTaskSet (line : Line) (s : List Bool) : Type 0 where
  pub truths : length s ≡ 1024
  pub tasks : (i : ℕ) → In s i → i < tasks line

-- the time of the task i
abbrev pub time : Line → ℕ → ℕ
time line i = slice_index_or line.times i 0

-- the task of a rank
abbrev pub at_rank : Line → ℕ → ℕ
at_rank line k = slice_index_or line.order k 0

-- What is true of each instance: 1 to 1,024 tasks; times within the limit; before is of tasks, leads on, and leads from
-- no task to itself; apart is of tasks, goes both ways, and is of two tasks.
pub record IsLine (line : Line) : Type 0 where
  pub some : 0 < tasks line
  pub small : tasks line ≤ 1024
  pub times : (i : ℕ) → time line i ≤ 200000000000000
  pub before_rows : length line.before ≡ tasks line
  pub before : (j : ℕ) → j < tasks line → IsTaskSet line (slice_index_or line.before j [])
  pub leads_on : (i j k : ℕ) → Before line i j → Before line j k → Before line i k
  pub not_itself : (i : ℕ) → Before line i i → ⊥
  pub apart_rows : length line.apart ≡ tasks line
  pub apart : (j : ℕ) → j < tasks line → IsTaskSet line (slice_index_or line.apart j [])
  pub both_ways : (i j : ℕ) → Apart line i j → Apart line j i
  pub of_two : (i : ℕ) → Apart line i i → ⊥

-- the ranks go over the tasks, each task once, and what is before a task has a lower rank
pub record IsRanked (line : Line) : Type 0 where
  pub many : length line.order ≡ tasks line
  pub task : (k : ℕ) → k < tasks line → at_rank line k < tasks line
  pub rank : (i : ℕ) → i < tasks line → (k : ℕ) × (k < tasks line) × (at_rank line k ≡ i)
  pub once : (k m : ℕ) → k < tasks line → m < tasks line → at_rank line k ≡ at_rank line m → k ≡ m
  pub rises : (k m : ℕ) → k < tasks line → m < tasks line → Before line (at_rank line k) (at_rank line m) → k < m
