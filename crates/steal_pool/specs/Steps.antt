-- The kinds of step on a deque and on its tally, and what each tells. No other step changes what a pass or a seat
-- knows. Own.
use Rattle.std.specs.Prelude.{◌≡◌, ℕ, suc, ◌+◌, ◌-◌, ◌≤◌, true, false, cond, nat_eq, List, [], ◌++◌, sum_by}
use Rattle.atomic_table.specs.Table.{Step, Me}
use Rattle.steal_pool.specs.declared.piece.Piece.{Piece}
use Rattle.steal_pool.specs.Deques.{Log, Tally}

-- the worker's pass at the start, which has all parts, and one that has none
abbrev pub newcomer : Log
newcomer = record { parts = 1024; own = []; got = [] }

abbrev pub nobody : Log
nobody = record { parts = 0; own = []; got = [] }

-- push: the pieces were put
abbrev pub pushed : Log → List Piece → Log
pushed v xs = record { parts = v.parts; own = v.own ++ xs; got = v.got }

-- pop or steal: the pieces were taken
abbrev pub taken : Log → List Piece → Log
taken v xs = record { parts = v.parts; own = v.own; got = v.got ++ xs }

-- a part goes to a new pass
abbrev pub log_left : Log → Log
log_left v = record { parts = v.parts - 1; own = v.own; got = v.got }

abbrev pub log_right : Log → Log
log_right v = record { parts = 1; own = []; got = [] }

-- two passes are one
abbrev pub log_both : Log → Log → Log
log_both v w = record { parts = v.parts + w.parts; own = v.own ++ w.own; got = v.got ++ w.got }

-- what the pass with all parts learns: what was put is what was taken, and what the deque holds
abbrev pub IsWhole : Log → List Piece → Type 0
IsWhole v items = (h : Piece → ℕ) → sum_by h v.own ≡ sum_by h v.got + sum_by h items

abbrev pub Mine : Type 0
Mine = Me (Unit {0}) Tally

-- the owner's seat at the start, and a seat that knows nothing
abbrev pub first_tally : Tally
first_tally = record { parts = 1024; boss = true; put = 0; gone = 0; found = 0; mark = false }

abbrev pub no_tally : Tally
no_tally = record { parts = 0; boss = false; put = 0; gone = 0; found = 0; mark = false }

-- a piece will be put: the owner's mark is cleared
abbrev pub announced : Tally → Tally
announced v = record { parts = v.parts; boss = v.boss; put = suc v.put; gone = v.gone; found = v.found; mark = false }

-- a piece was taken
abbrev pub reports : Tally → Tally
reports v = record { parts = v.parts; boss = v.boss; put = v.put; gone = suc v.gone; found = v.found; mark = v.mark }

-- all that was put was reported as taken: the count rises, and the owner's mark is set
abbrev pub found_empty : Tally → Tally
found_empty v = record {
  parts = v.parts;
  boss = v.boss;
  put = v.put;
  gone = v.gone;
  found = suc v.found;
  mark = v.boss;
}

abbrev pub Announces : Step (Unit {0}) → Mine → ℕ → Mine → Type 0
Announces st m found n = n ≡ (announced m.0, m.1)

abbrev pub Reports : Step (Unit {0}) → Mine → ℕ → Mine → Type 0
Reports st m found n = n ≡ (reports m.0, m.1)

-- a load: where it finds 0, nothing is left
abbrev pub Looks : Step (Unit {0}) → Mine → ℕ → Mine → Type 0
Looks st m found n = n ≡ (cond (nat_eq found 0) (found_empty m.0) m.0, m.1)

-- the seat with all parts learns that its mark tells the truth of its own numbers
abbrev pub IsSettled : Tally → Type 0
IsSettled v = v.parts ≡ 1024 → v.mark ≡ true → v.put ≤ v.gone

abbrev pub Settles : Step (Unit {0}) → Mine → ℕ → Mine → Type 0
Settles st m found n = (n ≡ m) × IsSettled m.0

abbrev pub tally_left : Tally → Tally
tally_left v = record { parts = v.parts - 1; boss = v.boss; put = v.put; gone = v.gone; found = v.found; mark = v.mark }

abbrev pub tally_right : Tally → Tally
tally_right v = record { parts = 1; boss = false; put = 0; gone = 0; found = 0; mark = false }

abbrev pub tally_both : Tally → Tally → Tally
tally_both v w = record {
  parts = v.parts + w.parts;
  boss = v.boss;
  put = v.put;
  gone = v.gone + w.gone;
  found = v.found;
  mark = v.mark;
}
