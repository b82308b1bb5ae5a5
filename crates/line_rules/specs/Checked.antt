-- What the test of a balance says: the first thing that is wrong with it, in the order of the definition.
use Rattle.std.specs.Prelude.{◌≡◌, ℕ, ◌<◌, ◌≤◌, length}
use Rattle.line_instance.specs.Truths.{In}
use Rattle.line_instance.specs.Line.{Line, Before, Apart, tasks}
use Rattle.line_rules.specs.Balance.{IsRight, IsSide, Keeps, all_tasks, seat, time_at}
use Rattle.line_rules.specs.declared.types.LineKind.{LineKind}
use Rattle.line_rules.specs.declared.types.Balance.{Balance as Assignment}
use Rattle.line_rules.specs.declared.types.BalanceCheck.{BalanceCheck}
use Rattle.line_rules.specs.declared.types.BalanceCheck.TheVariants.{Right, Unplaced, StationRange, SideWrong, Overfull}
use Rattle.line_rules.specs.declared.types.BalanceCheck.TheVariants.{Broken, Together}

-- i passes P, and nothing below it does
pub record IsLeastWhere (P : ℕ → Type 0) (i : ℕ) : Type 0 where
  pub passes : P i
  pub least : (j : ℕ) → j < i → P j → ⊥

-- the pair passes P, and none before it does, by the first and then the second
pub record IsLeastPair (P : ℕ → ℕ → Type 0) (i j : ℕ) : Type 0 where
  pub passes : P i j
  pub first : (k l : ℕ) → k < i → P k l → ⊥
  pub second : (l : ℕ) → l < j → P i l → ⊥

-- each task has a station of the line
abbrev pub HasStations : Line → Assignment → Type 0
HasStations line b = (i : ℕ) → In (all_tasks line) i → (1 ≤ (seat b.place i).station)
    × ((seat b.place i).station ≤ b.stations)

-- each task is at a side that the line has
abbrev pub HasSides : LineKind → Line → Assignment → Type 0
HasSides kind line b = (i : ℕ) → In (all_tasks line) i → IsSide kind (seat b.place i).side

-- no station has more time than the cycle
abbrev pub HasRoom : Line → ℕ → Assignment → Type 0
HasRoom line c b = (s : ℕ) → time_at line (all_tasks line) (seat b.place) s ≤ c

-- the places keep each precedence
abbrev pub KeepsAll : LineKind → Line → Assignment → Type 0
KeepsAll kind line b = (i j : ℕ) → In (all_tasks line) i → In (all_tasks line) j → Before line i j
    → Keeps kind (seat b.place i) (seat b.place j)

-- i is before j, and their places break that
pub record Breaks (kind : LineKind) (line : Line) (b : Assignment) (i j : ℕ) : Type 0 where
  pub first : In (all_tasks line) i
  pub second : In (all_tasks line) j
  pub before : Before line i j
  pub broken : Keeps kind (seat b.place i) (seat b.place j) → ⊥

-- i and j, the lesser first, are apart and at one station
pub record Meets (line : Line) (b : Assignment) (i j : ℕ) : Type 0 where
  pub second : In (all_tasks line) j
  pub rises : i < j
  pub apart : Apart line i j
  pub together : (seat b.place i).station ≡ (seat b.place j).station

-- Each answer says what is wrong, and that everything named before it is right.
abbrev pub IsChecked : LineKind → Line → ℕ → Assignment → BalanceCheck → Type 0
IsChecked kind line c b Right = IsRight kind line c b
IsChecked kind line c b (Unplaced n) = (n ≡ length b.place) × (n < tasks line)
IsChecked kind line c b (StationRange i) =
    (length b.place ≡ tasks line)
    × IsLeastWhere (λ j. In (all_tasks line) j × ((1 ≤ (seat b.place j).station)
    × ((seat b.place j).station ≤ b.stations) → ⊥)) i
IsChecked kind line c b (SideWrong i) =
    (length b.place ≡ tasks line) × HasStations line b
    × IsLeastWhere (λ j. In (all_tasks line) j × (IsSide kind (seat b.place j).side → ⊥)) i
IsChecked kind line c b (Overfull s time) =
    (length b.place ≡ tasks line) × HasStations line b × HasSides kind line b
    × (time ≡ time_at line (all_tasks line) (seat b.place) s)
    × IsLeastWhere (λ k. c < time_at line (all_tasks line) (seat b.place) k) s
IsChecked kind line c b (Broken i j) =
    (length b.place ≡ tasks line) × HasStations line b × HasSides kind line b × HasRoom line c b
    × IsLeastPair (Breaks kind line b) i j
IsChecked kind line c b (Together i j) =
    (length b.place ≡ tasks line) × HasStations line b × HasSides kind line b × HasRoom line c b
    × KeepsAll kind line b
    × IsLeastPair (Meets line b) i j
