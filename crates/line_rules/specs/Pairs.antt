-- Pairs: tasks of which no two can share a station, and how a few of them show that a set needs more stations. Own;
-- after the bin packing bounds of Martello and Toth, 1990.
use Rattle.std.specs.Prelude.{◌≡◌, ◌≢◌, ℕ, ◌+◌, ◌*◌, ◌<◌, ◌⊎◌, ◌↔◌, Bool, ◌&&◌, ◌||◌, List, length}
use Rattle.line_instance.specs.Truths.{In, IsSubset, count}
use Rattle.line_instance.specs.Line.{Line, IsLine, IsTaskSet, Apart, has, is_before, time}
use Rattle.line_instance.specs.Sums.{sum_where}
use Rattle.line_rules.specs.Balance.{Holds}
use Rattle.line_rules.specs.declared.types.LineKind.{LineKind}
use Rattle.line_rules.specs.declared.types.LineKind.TheVariants.{Straight, U}

-- whether k lies between i and j: i before k before j, or j before k before i (own)
abbrev pub is_between : Line → ℕ → ℕ → ℕ → Bool
is_between line i j k = (is_before line i k && is_before line k j) || (is_before line j k && is_before line k i)

-- The times of the tasks of R between i and j. On a straight line these stand with i and j wherever the two share a
-- station; on a U-line they needn't, so none of them counts (own).
unfoldable pub time_between : LineKind → Line → List Bool → ℕ → ℕ → ℕ
time_between Straight line R i j = sum_where (λ k. has R k && is_between line i j k) line.times
time_between U line R i j = 0

-- i and j conflict in R at cycle c: they are apart, or their times exceed c together, with those between them (own;
-- after the bin packing bounds of Martello and Toth, 1990)
abbrev pub Conflict : LineKind → Line → ℕ → List Bool → ℕ → ℕ → Type 0
Conflict kind line c R i j = Apart line i j ⊎ (c < time line i + time line j + time_between kind line R i j)

-- j is a task of R outside two, above a third of c, that conflicts in R with each task of two (own; after the bin
-- packing bounds of Martello and Toth, 1990)
pub record IsOne (kind : LineKind) (line : Line) (c : ℕ) (R two : List Bool) (j : ℕ) : Type 0 where
  pub member : In R j
  pub outside : In two j → ⊥
  pub long : c < 3 * time line j
  pub conflicts : (i : ℕ) → In two i → Conflict kind line c R i j

-- `one` is the set of these tasks
pub record AreOne (kind : LineKind) (line : Line) (c : ℕ) (R two one : List Bool) : Type 0 where
  pub truths : length one ≡ 1024
  pub members : (j : ℕ) → In one j ↔ IsOne kind line c R two j

-- R is refuted in `most` stations by pairs with two: two is a set, a subset of R; each two different tasks of it
-- conflict; and twice the tasks of two with the tasks of `one` are more than twice the stations (own; after the bin
-- packing bounds of Martello and Toth, 1990)
pub record IsRefutedByPairs (kind : LineKind) (line : Line) (c : ℕ) (R : List Bool) (most : ℕ)
    (two : List Bool) : Type 0 where
  pub truths : length two ≡ 1024
  pub within : IsSubset two R
  pub conflict : (i j : ℕ) → In two i → In two j → i ≢ j → Conflict kind line c R i j
  pub one : List Bool
  pub ones : AreOne kind line c R two one
  pub exceeds : 2 * most < 2 * count two + count one

-- soundness: a set of tasks that pairs refute has no balance in so many stations
abbrev pub PairsAreSound : Type 0
PairsAreSound =
    (kind : LineKind) (line : Line) (c : ℕ) (R : List Bool) (most : ℕ) (two : List Bool) → IsLine line
    → IsTaskSet line R → IsRefutedByPairs kind line c R most two → Holds kind line c R most

-- growth: the same tasks refute each larger set of tasks by pairs
abbrev pub PairsGrow : Type 0
PairsGrow =
    (kind : LineKind) (line : Line) (c : ℕ) (R S : List Bool) (most : ℕ) (two : List Bool) → IsTaskSet line S
    → IsSubset R S → IsRefutedByPairs kind line c R most two → IsRefutedByPairs kind line c S most two
