-- What the entries of a book are: those by Bound, and the others.
use Rattle.std.specs.Prelude.{◌≡◌, ℕ, ◌+◌, ◌-◌, ◌*◌, ◌≤◌, List, [], ◌∷◌, length, take, slice_get, Some}
use Rattle.line_instance.specs.Line.{Line}
use Rattle.line_rules.specs.Balance.{all_tasks}
use Rattle.line_rules.specs.Units.{UnitsOf}
use Rattle.line_rules.specs.declared.types.Entry.{Entry}
use Rattle.line_rules.specs.declared.types.Why.{Why}
use Rattle.line_rules.specs.declared.types.Why.TheVariants as why
use Rattle.cycle_search.specs.rounds.declared.plans.Plan.{Plan}
use Rattle.cycle_search.specs.Ends.{first_upper}
use Rattle.cycle_search.specs.Seek.{try_room}
use Rattle.effic_search.specs.declared.counting.Listed.{Listed}

-- 1 for a reason other than Bound
abbrev pub other : Why → ℕ
other why.Bound = 0
other (why.Branch mode cites) = 1
other (why.Swap cite out into) = 1
other (why.Pairs two) = 1

-- how many of the entries aren't by Bound
abbrev pub others : List Entry → ℕ
others [] = 0
others (e ∷ es) = other e.why + others es

-- 1 for the reason Bound
abbrev pub by_bound : Why → ℕ
by_bound why.Bound = 1
by_bound (why.Branch mode cites) = 0
by_bound (why.Swap cite out into) = 0
by_bound (why.Pairs two) = 0

-- how many of the entries are by Bound
abbrev pub bounds : List Entry → ℕ
bounds [] = 0
bounds (e ∷ es) = by_bound e.why + bounds es

-- each entry by Bound is of all tasks
abbrev pub AreGoalsByBound : Line → List Entry → Type 0
AreGoalsByBound line es =
    (k : ℕ) (e : Entry) → slice_get es k ≡ Some e → e.why ≡ why.Bound → e.set ≡ all_tasks line

-- the first so many entries are counted
pub record IsCounted (line : Line) (es : List Entry) (from : ℕ) (listed : Listed) : Type 0 where
  pub entries : listed.entries ≡ others (take from es)
  pub units : UnitsOf line (take from es) listed.units

-- so many entries at most, of no more units (own)
pub record IsWithin (line : Line) (es : List Entry) (room : ℕ) : Type 0 where
  pub few : length es ≤ room
  pub units : ℕ
  pub counted : UnitsOf line es units
  pub paid : units ≤ room

-- Entries with which a try is made: they have at most 4,000,000 units, and at most 4,000,000 of them aren't by Bound.
pub record AreFew (line : Line) (es : List Entry) : Type 0 where
  pub units : ℕ
  pub counted : UnitsOf line es units
  pub small : units ≤ 4000000
  pub short : others es ≤ 4000000

-- Entries that a search by a plan may have: those with which a try is made, and what one try may add. They have at most
-- 4,000,000 units and those of a try, at most 4,000,001 and as many aren't by Bound, and at most 2,048 are. So there are
-- at most 4,002,049 and those of a try.
pub record ArePaid (line : Line) (plan : Plan) (es : List Entry) : Type 0 where
  pub units : ℕ
  pub counted : UnitsOf line es units
  pub within : units ≤ 4000000 + try_room plan
  pub short : others es ≤ 4000001 + try_room plan
  pub bounded : bounds es ≤ 2048
  pub many : length es ≤ 4002049 + try_room plan

-- How many tries a search has ended at most, where the next one is in m stations and the best product is P. Each has
-- closed its number of stations, from `least` on, or lowered the product, which was that of all tasks at the first of the
-- fewest stations. (Own.)
abbrev pub most_ended : Line → ℕ → ℕ → ℕ → ℕ
most_ended line least m P = (m - least) + (least * first_upper line - P)

-- Entries that so many tries may bring, where so many entries were kept of their seeks. A try brings no more units than
-- it may add, and at most one entry more, but for those by Bound; and beside the entries of its seek at most one more
-- than twice its units. (Own.)
pub record AreBrought (line : Line) (plan : Plan) (tries kept : ℕ) (es : List Entry) : Type 0 where
  pub units : ℕ
  pub counted : UnitsOf line es units
  pub within : units ≤ tries * try_room plan
  pub few : others es ≤ tries * (try_room plan + 1)
  pub short : others es ≤ tries * (2 * plan.units + 1) + kept
