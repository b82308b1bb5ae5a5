-- Worked rows: small lines, and what the definitions give for them.
use Rattle.std.specs.Prelude.{◌≡◌, ℕ, ◌+◌, ◌-◌, Bool, true, List, [], ◌∷◌, length, map, slice_set, Some, None}
use Rattle.std.specs.List.{range_with_len}
use Rattle.line_instance.specs.Truths.{full_to}
use Rattle.line_instance.specs.Line.{Line}
use Rattle.line_rules.specs.Balance.{all_tasks}
use Rattle.line_rules.specs.Bounds.{bound, lm1, lm2, lm3, head, tail}
use Rattle.line_rules.specs.Loads.{IsLoad, IsFull}
use Rattle.line_rules.specs.Order.{Lists, Counts}
use Rattle.line_rules.specs.Entries.{Follows, IsDerived}
use Rattle.line_rules.specs.Units.{UnitsOf}
use Rattle.line_rules.specs.Trails.{IsOpenOver}
use Rattle.line_rules.specs.Accepted.{IsAccepted}
use Rattle.line_rules.specs.declared.types.LineKind.TheVariants.{Straight, U}
use Rattle.line_rules.specs.declared.types.Side.TheVariants.{Front}
use Rattle.line_rules.specs.declared.types.Mode.TheVariants.{Fore, Both}
use Rattle.line_rules.specs.declared.types.Seatplace.{Seatplace}
use Rattle.line_rules.specs.declared.types.Load.{Load}
use Rattle.line_rules.specs.declared.types.Entry.{Entry}
use Rattle.line_rules.specs.declared.types.OpenFrame.{OpenFrame}
use Rattle.line_rules.specs.declared.types.Why.TheVariants as why
use Rattle.line_rules.specs.declared.types.Ask.TheVariants as ask
use Rattle.line_rules.specs.declared.types.Claim.TheVariants as claim
use Rattle.line_rules.specs.declared.types.Certificate.{Certificate}

-- the set of these tasks
abbrev pub set_of : List ℕ → List Bool
set_of [] = full_to 0
set_of (i ∷ is) = slice_set (set_of is) i true

-- a chain of three tasks with times 1, 2, 1
abbrev pub chain_of_three : Line
chain_of_three = record {
  times = 1 ∷ 2 ∷ 1 ∷ [];
  before = set_of [] ∷ set_of (0 ∷ []) ∷ set_of (0 ∷ 1 ∷ []) ∷ [];
  apart = set_of [] ∷ set_of [] ∷ set_of [] ∷ [];
  order = 0 ∷ 1 ∷ 2 ∷ [];
}

-- tasks with these times, no one before or apart from another
abbrev pub free : List ℕ → Line
free times = record {
  times = times;
  before = map (λ t. full_to 0) times;
  apart = map (λ t. full_to 0) times;
  order = range_with_len 0 (length times);
}

-- five free tasks with times 4, 4, 2, 2, 2
abbrev pub five_free : Line
five_free = free (4 ∷ 4 ∷ 2 ∷ 2 ∷ 2 ∷ [])

-- Jackson's graph of eleven tasks
abbrev pub jackson : Line
jackson = record {
  times = 6 ∷ 2 ∷ 5 ∷ 7 ∷ 1 ∷ 2 ∷ 3 ∷ 6 ∷ 5 ∷ 5 ∷ 4 ∷ [];
  before = set_of [] ∷ set_of (0 ∷ []) ∷ set_of (0 ∷ []) ∷ set_of (0 ∷ []) ∷ set_of (0 ∷ []) ∷ set_of
      (0 ∷ 1 ∷ []) ∷ set_of (0 ∷ 2 ∷ 3 ∷ 4 ∷ [])
      ∷ set_of (0 ∷ 1 ∷ 5 ∷ []) ∷ set_of (0 ∷ 2 ∷ 3 ∷ 4 ∷ 6 ∷ []) ∷ set_of (0 ∷ 1 ∷ 5 ∷ 7 ∷ []) ∷ set_of
      (0 ∷ 1 ∷ 2 ∷ 3 ∷ 4 ∷ 5 ∷ 6 ∷ 7 ∷ 8 ∷ 9 ∷ []) ∷ [];
  apart = set_of [] ∷ set_of [] ∷ set_of [] ∷ set_of [] ∷ set_of [] ∷ set_of [] ∷ set_of [] ∷ set_of [] ∷ set_of
      [] ∷ set_of [] ∷ set_of [] ∷ [];
  order = 0 ∷ 1 ∷ 2 ∷ 3 ∷ 4 ∷ 5 ∷ 6 ∷ 7 ∷ 8 ∷ 9 ∷ 10 ∷ [];
}

-- The bounds of the rows: the chain at cycle 2, the five tasks at cycles 8, 7, 6 and 3, Jackson's graph at cycles 10
-- and 7, and no task.
pub record BoundsOfTheRows : Type 0 where
  pub chain_lm1 : lm1 chain_of_three 2 (all_tasks chain_of_three) ≡ 2
  pub chain_lm2 : lm2 chain_of_three 2 (all_tasks chain_of_three) ≡ 2
  pub chain_lm3 : lm3 chain_of_three 2 (all_tasks chain_of_three) ≡ 2
  pub chain_second : head chain_of_three 2 (all_tasks chain_of_three) 1 + tail chain_of_three 2
      (all_tasks chain_of_three) 1 - 1 ≡ 3
  pub chain_straight : bound Straight chain_of_three 2 (all_tasks chain_of_three) ≡ 3
  pub chain_u : bound U chain_of_three 2 (all_tasks chain_of_three) ≡ 2
  pub five_at_8 : bound Straight five_free 8 (all_tasks five_free) ≡ 2
  pub five_at_7 : bound Straight five_free 7 (all_tasks five_free) ≡ 2
  pub five_at_6 : bound Straight five_free 6 (all_tasks five_free) ≡ 3
  pub five_at_3 : bound Straight five_free 3 (all_tasks five_free) ≡ 1025
  pub none : bound Straight five_free 7 (full_to 0) ≡ 0
  pub jackson_at_10 : bound Straight jackson 10 (all_tasks jackson) ≡ 5
  pub jackson_at_7 : bound Straight jackson 7 (all_tasks jackson) ≡ 7

-- a load of these tasks in front
abbrev pub load_of : List ℕ → Load
load_of is = record { front = set_of is; back = full_to 0 }

-- the loads of the five tasks at cycle 7, in order
abbrev pub fifteen_loads : List Load
fifteen_loads =
    load_of (4 ∷ []) ∷ load_of (3 ∷ []) ∷ load_of (3 ∷ 4 ∷ []) ∷ load_of (2 ∷ []) ∷ load_of (2 ∷ 4 ∷ []) ∷ load_of
    (2 ∷ 3 ∷ []) ∷ load_of (2 ∷ 3 ∷ 4 ∷ [])
    ∷ load_of (1 ∷ []) ∷ load_of (1 ∷ 4 ∷ []) ∷ load_of (1 ∷ 3 ∷ []) ∷ load_of (1 ∷ 2 ∷ [])
    ∷ load_of (0 ∷ []) ∷ load_of (0 ∷ 4 ∷ []) ∷ load_of (0 ∷ 3 ∷ []) ∷ load_of (0 ∷ 2 ∷ []) ∷ []

-- the full ones among them: the last three tasks, and each pair of a longer task and one of these
abbrev pub seven_full_loads : List Load
seven_full_loads =
    load_of (2 ∷ 3 ∷ 4 ∷ [])
    ∷ load_of (1 ∷ 4 ∷ []) ∷ load_of (1 ∷ 3 ∷ []) ∷ load_of (1 ∷ 2 ∷ [])
    ∷ load_of (0 ∷ 4 ∷ []) ∷ load_of (0 ∷ 3 ∷ []) ∷ load_of (0 ∷ 2 ∷ []) ∷ []

-- a place in front
abbrev pub at : ℕ → Seatplace
at s = record { station = s; side = Front }

-- the tasks have no balance in two stations at cycle 7, since no rest of a full load may fit one station
abbrev pub five_entry : Entry
five_entry = record { set = all_tasks five_free; most = 2; cycle = 7; why = why.Branch Fore [] }

-- the certificate of the five tasks, three stations being the least, at a cycle
abbrev pub five_certificate : ℕ → Certificate
five_certificate c = record {
  kind = Straight;
  tasks = 5;
  ask = ask.Stations c;
  claim = claim.Bounds 3 3 (record { stations = 3; place = at 1 ∷ at 2 ∷ at 1 ∷ at 2 ∷ at 3 ∷ [] }) (five_entry ∷ [])
      None;
}

-- the search that stopped one load short: the tasks have no balance in one station, and of the question of two stations
-- the loads up to that of tasks 0 and 3 are tried
abbrev pub five_bound : Entry
five_bound = record { set = all_tasks five_free; most = 1; cycle = 7; why = why.Bound }

abbrev pub five_frame : OpenFrame
five_frame = record { set = all_tasks five_free; most = 2; mode = Fore; last = Some (load_of (0 ∷ 3 ∷ [])); cites = [] }

abbrev pub five_stopped : Certificate
five_stopped = record {
  kind = Straight;
  tasks = 5;
  ask = ask.Stations 7;
  claim = claim.Bounds 2 3 (record { stations = 3; place = at 1 ∷ at 2 ∷ at 1 ∷ at 2 ∷ at 3 ∷ [] }) (five_bound ∷ [])
      (Some (record { cycle = 7; frames = five_frame ∷ [] }));
}

-- The loads and the certificates of the five tasks: the fifteen loads in order, and the seven full ones; the
-- certificate is accepted at cycle 7, with 15 units, and at cycle 6, which its entry answers too; at cycle 8 it isn't.
-- The search that stopped one load short has 14 units, and its trail is open; with the entry of the whole search beside
-- it, it would not be.
pub record CertificateOfTheRows : Type 0 where
  pub loads : Lists five_free (IsLoad five_free 7 Fore (all_tasks five_free)) fifteen_loads
  pub full : Lists five_free (λ l. IsLoad five_free 7 Fore (all_tasks five_free) l
      × IsFull five_free 7 Fore (all_tasks five_free) l) seven_full_loads
  pub at_7 : IsAccepted five_free (five_certificate 7) 3 3 15
  pub at_6 : IsAccepted five_free (five_certificate 6) 3 3 15
  pub at_8 : (lower upper units : ℕ) → IsAccepted five_free (five_certificate 8) lower upper units → ⊥
  pub stopped : IsAccepted five_free five_stopped 2 3 14
  pub left_open : IsOpenOver five_free 7 (five_bound ∷ []) (five_frame ∷ [])
  pub answered : IsOpenOver five_free 7 (five_bound ∷ five_entry ∷ []) (five_frame ∷ []) → ⊥
  pub u_loads : Counts five_free (IsLoad five_free 7 Both (all_tasks five_free)) 54

-- six free tasks with times 7, 4, 4, 2, 2, 2
abbrev pub six_free : Line
six_free = free (7 ∷ 4 ∷ 4 ∷ 2 ∷ 2 ∷ 2 ∷ [])

-- the tasks but the first have no balance in two stations, and so all have none in three: in the first full load, that
-- of the first task alone, the entry `cite` is to refute the rest
abbrev pub six_below : Entry
six_below = record { set = set_of (1 ∷ 2 ∷ 3 ∷ 4 ∷ 5 ∷ []); most = 2; cycle = 7; why = why.Branch Fore [] }

abbrev pub six_above : ℕ → Entry
six_above cite = record { set = all_tasks six_free; most = 3; cycle = 7; why = why.Branch Fore (cite ∷ []) }

-- an entry by Bound that speaks of too many tasks to refute that rest
abbrev pub six_bound : Entry
six_bound = record { set = all_tasks six_free; most = 2; cycle = 7; why = why.Bound }

-- an entry by Branch that speaks of no task
abbrev pub six_empty : Entry
six_empty = record { set = set_of []; most = 2; cycle = 7; why = why.Branch Fore [] }

-- Two branches: the list is derived, with 31 units. An entry that cites itself doesn't follow, and neither does one
-- whose cite isn't of a subset of the rest, or one of an empty set.
pub record BranchesOfTheRows : Type 0 where
  pub derived : IsDerived Straight six_free (six_below ∷ six_above 0 ∷ [])
  pub units : UnitsOf six_free (six_below ∷ six_above 0 ∷ []) 31
  pub itself : Follows Straight six_free (six_below ∷ []) (six_above 1) → ⊥
  pub bound : Follows Straight six_free [] six_bound
  pub no_subset : Follows Straight six_free (six_bound ∷ []) (six_above 0) → ⊥
  pub empty : Follows Straight six_free [] six_empty → ⊥

-- seven free tasks with times 7, 7, 4, 4, 2, 2, 2, of which the first two can stand in for each other
abbrev pub seven_free : Line
seven_free = free (7 ∷ 7 ∷ 4 ∷ 4 ∷ 2 ∷ 2 ∷ 2 ∷ [])

-- the tasks but the first two have no balance in two stations; with the first task, none in three; so with the second
-- in its place, none in three; and so all have none in four
abbrev pub seven_entries : List Entry
seven_entries =
    record { set = set_of (2 ∷ 3 ∷ 4 ∷ 5 ∷ 6 ∷ []); most = 2; cycle = 7; why = why.Branch Fore [] }
    ∷ record { set = set_of (0 ∷ 2 ∷ 3 ∷ 4 ∷ 5 ∷ 6 ∷ []); most = 3; cycle = 7; why = why.Branch Fore (0 ∷ []) }
    ∷ record { set = set_of (1 ∷ 2 ∷ 3 ∷ 4 ∷ 5 ∷ 6 ∷ []); most = 3; cycle = 7; why = why.Swap 1 1 0 }
    ∷ record { set = all_tasks seven_free; most = 4; cycle = 7; why = why.Branch Fore (1 ∷ 2 ∷ []) }
    ∷ []

-- A swap: the list is derived, with 48 units.
pub record SwapOfTheRows : Type 0 where
  pub derived : IsDerived Straight seven_free seven_entries
  pub units : UnitsOf seven_free seven_entries 48
