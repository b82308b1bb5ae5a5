-- The search between two tries, and what a try comes to.
use Rattle.std.specs.Prelude.{◌≡◌, ◌≢◌, ◌⊎◌, ℕ, ◌+◌, ◌-◌, ◌*◌, ◌<◌, ◌≤◌, max, List, [], ◌++◌, length, slice_get}
use Rattle.std.specs.Prelude.{suc, Bool, Option, Some, None}
use Rattle.line_instance.specs.Line.{Line, tasks}
use Rattle.line_rules.specs.Balance.{IsRight, all_tasks}
use Rattle.line_rules.specs.Bounds.{total_time}
use Rattle.line_rules.specs.Entries.{HasAnswer}
use Rattle.line_rules.specs.Trails.{IsTrail, IsOpenOver}
use Rattle.line_rules.specs.Units.{UnitsOf, UnitsIn, TrailUnits}
use Rattle.line_rules.specs.declared.types.LineKind.{LineKind}
use Rattle.line_rules.specs.declared.types.Entry.{Entry}
use Rattle.line_rules.specs.declared.types.OpenFrame.{OpenFrame}
use Rattle.line_rules.specs.declared.types.Balance.{Balance as Assignment}
use Rattle.line_rules.specs.declared.types.Trail.{Trail}
use Rattle.line_rules.specs.declared.types.Why.TheVariants as why
use Rattle.line_rules.specs.Times.{longest_of}
use Rattle.lemma_core.specs.Books.{BookView, IsReserved}
use Rattle.cycle_search.specs.rounds.declared.closing.Verdict.{Verdict}
use Rattle.cycle_search.specs.rounds.declared.closing.Verdict.TheVariants as verdict
use Rattle.cycle_search.specs.rounds.declared.plans.Plan.{Plan}
use Rattle.round_helpers.specs.Growth.{AreAtCycle}
use Rattle.cycle_search.specs.Asking.{HasAskedBook}
use Rattle.cycle_search.specs.Ends.{first_lower, first_upper}
use Rattle.cycle_search.specs.Seek.{AreSeeks, HasSoughtBook, seek_room, try_room}
use Rattle.cycle_search.specs.declared.asking.Asked.{Asked}
use Rattle.cycle_search.specs.declared.seek.SoughtBook.{SoughtBook}
use Rattle.effic_check.specs.Accepted.{IsClosed, cycle_below}
use Rattle.effic_search.specs.Counted.{IsCounted, AreFew, AreGoalsByBound, IsWithin, bounds, most_ended}
use Rattle.effic_search.specs.NextTry.{IsNextTry}
use Rattle.effic_search.specs.Since.{IsSinceGoal}
use Rattle.effic_search.specs.declared.lowering.Lowering.{Lowering}
use Rattle.effic_search.specs.declared.trying.Tried.{Tried}
use Rattle.effic_search.specs.declared.trying.Tried.TheVariants as tried
use Rattle.effic_search.specs.declared.settling.Settled.{Settled}
use Rattle.effic_search.specs.declared.settling.Settled.TheVariants as settled

-- the product of the stations of the balance and its cycle
abbrev pub product_of : Lowering → ℕ
product_of h = h.balance.stations * h.cycle

-- the entries of a search
abbrev pub entries_of : Lowering → List Entry
entries_of h = h.book.state.entries

-- an entry refutes m stations below the first lower end, where that is above 1
abbrev pub IsFloored : Line → List Entry → ℕ → Type 0
IsFloored line es m = 1 < first_lower line m → HasAnswer es (all_tasks line) m (first_lower line m - 1)

-- each entry other than Bound has a cycle from the longest time to the greater of 1 and the total
abbrev pub HaveCycles : Line → List Entry → Type 0
HaveCycles line es = (k : ℕ) (e : Entry) → slice_get es k ≡ Some e → e.why ≢ why.Bound
    → (longest_of line (all_tasks line) ≤ e.cycle) × (e.cycle ≤ max (total_time line) 1)

-- no lesser cycle from 1 on is enough for the balance: this one is the greater of 1 and its longest station
abbrev pub IsTight : LineKind → Line → Assignment → ℕ → Type 0
IsTight kind line b cycle = (c : ℕ) → 1 ≤ c → IsRight kind line c b → cycle ≤ c

-- A search: its balance is right at its cycle, and at no lesser one, in a number of stations that is asked for, and of
-- no greater product than the first one; its entries are counted, and refute each number of stations below the first
-- lower end. Those by Bound are of all tasks, and at most two for each number of stations.
pub record IsLowering (kind : LineKind) (line : Line) (least most : ℕ) (h : Lowering) : Type 0 where
  pub line_is : h.book.about.line ≡ line
  pub kind_is : h.book.about.kind ≡ kind
  pub reserved : IsReserved h.book
  pub from : least ≤ h.balance.stations
  pub to : h.balance.stations ≤ most
  pub some : 1 ≤ h.cycle
  pub limit : h.cycle ≤ 204800000000000000
  pub bounded : first_upper line ≤ 204800000000000000
  pub right : IsRight kind line h.cycle h.balance
  pub tight : IsTight kind line h.balance h.cycle
  pub first : product_of h ≤ least * first_upper line
  pub counted : IsCounted line (entries_of h) (length (entries_of h)) h.listed
  pub few : length (entries_of h) ≤ 20000000
  pub within : h.listed.units ≤ 10000000
  pub floored : (m : ℕ) → least ≤ m → m ≤ most → IsFloored line (entries_of h) m
  pub cycles : HaveCycles line (entries_of h)
  pub goals : AreGoalsByBound line (entries_of h)
  pub by_bound : bounds (entries_of h) + 2 * least ≤ 2 * (most + 1)

-- A search before a try in m stations: at each cycle of a smaller product no entry is behind the last one of all tasks,
-- and the lesser numbers of stations are closed below the product. By Bound there is at most one entry for each number of
-- stations, and one for each of those.
pub record IsGoing (kind : LineKind) (line : Line) (least most m : ℕ) (h : Lowering) : Type 0 where
  pub lowering : IsLowering kind line least most h
  pub clear : (X : ℕ) → 1 ≤ X → m * X < product_of h → IsSinceGoal line X (entries_of h) []
  pub closed : (s : ℕ) → least ≤ s → s < m → IsClosed line (entries_of h) (product_of h) s
  pub bounded : bounds (entries_of h) + 2 * least ≤ most + 1 + m

-- a smaller product is left open: that of m stations and the cycle X, which is no less than the first lower end
pub record IsLeftAt (line : Line) (least most m X : ℕ) (h : Lowering) : Type 0 where
  pub from : least ≤ m
  pub to : m ≤ most
  pub some : 1 ≤ X
  pub floor : first_lower line m ≤ X
  pub near : m * X < product_of h
  pub left : HasAnswer (entries_of h) (all_tasks line) m X → ⊥

-- What a search by a plan has taken in so many tries: its seeks are those of the plan, and its entries are no more, and
-- of no more units, than those with which a try is made and what one try may add; nor than what the tries and the seeks
-- may bring. (Own.)
pub record IsPaid (plan : Plan) (tries : ℕ) (h : Lowering) : Type 0 where
  pub seeks : AreSeeks plan h.seeks
  pub units : h.listed.units ≤ 4000000 + try_room plan
  pub entries : h.listed.entries ≤ 4000001 + try_room plan
  pub within : h.listed.units ≤ tries * try_room plan
  pub few : h.listed.entries ≤ tries * (try_room plan + 1)
  pub short : h.listed.entries ≤ tries * (2 * plan.units + 1) + h.seeks.kept

-- A try in m stations is due at the cycle X, the greatest one whose product is smaller: it is left open, and the book
-- is small enough for a try. What was taken so far is what the plan allows. (Own.)
pub record IsTry (kind : LineKind) (line : Line) (least most m X : ℕ) (plan : Plan) (h : Lowering) : Type 0 where
  pub going : IsGoing kind line least most m h
  pub is : X ≡ cycle_below (product_of h) m
  pub left : IsLeftAt line least most m X h
  pub small : h.listed.units ≤ 4000000
  pub short : h.listed.entries ≤ 4000000
  pub paid : IsPaid plan (most_ended line least m (product_of h)) h

-- A try is due, and the entries are too many, or of too many units. What was taken is what the plan allows for the tries
-- that ended.
pub record IsDue (kind : LineKind) (line : Line) (least most : ℕ) (plan : Plan) (h : Lowering) : Type 0 where
  pub lowering : IsLowering kind line least most h
  pub m : ℕ
  pub X : ℕ
  pub left : IsLeftAt line least most m X h
  pub next : IsNextTry line (entries_of h) least most (product_of h) m X
  pub large : (4000000 < h.listed.units) ⊎ (4000000 < h.listed.entries)
  pub paid : IsPaid plan (most_ended line least m (product_of h)) h

-- The units of a try in m stations at the cycle of the book ended: its frames are a trail from the question, open over
-- the entries. First stand those before the try, few enough for it, then those of its seek, for which there was room.
-- From the number `closing_from` on stand those of its round: what they and the frames list is all units of the plan.
-- Where the plan has no seek, they are the entries since the last one of all tasks. What was taken is what the plan
-- allows for one try more than those that ended. (Own.)
pub record IsStuck (kind : LineKind) (line : Line) (least most : ℕ) (plan : Plan) (h : Lowering)
    (frames : List OpenFrame) (closing_from : ℕ) : Type 0 where
  pub lowering : IsLowering kind line least most h
  pub m : ℕ
  pub left : IsLeftAt line least most m h.book.about.cycle h
  pub next : IsNextTry line (entries_of h) least most (product_of h) m h.book.about.cycle
  pub few : m < tasks line
  pub trail : IsTrail kind line h.book.about.cycle (entries_of h) (all_tasks line) m frames
  pub opens : IsOpenOver line h.book.about.cycle (entries_of h) frames
  pub front : List Entry
  pub sought : List Entry
  pub since : List Entry
  pub added : entries_of h ≡ front ++ (sought ++ since)
  pub from : closing_from ≡ length front + length sought
  pub small : AreFew line front
  pub tried : AreAtCycle h.book.about.cycle (sought ++ since)
  pub room : IsWithin line sought (seek_room plan)
  pub goal : plan.seek ≡ 0 → IsSinceGoal line h.book.about.cycle (entries_of h) since
  pub published : ℕ
  pub listed : ℕ
  pub entry_units : UnitsOf line since published
  pub frame_units : UnitsIn line h.book.about.cycle frames listed
  pub within : listed ≤ 6000000
  pub twice : published + listed ≤ 2 * plan.units
  pub all : plan.units ≤ published + listed
  pub alone : plan.helpers ≡ 0 → published + listed ≡ plan.units
  pub paid : IsPaid plan (suc (most_ended line least m (product_of h))) h

-- what a try in m stations comes to, where the product was P; what was taken so far is what the plan allows for the tries
abbrev pub IsTried : LineKind → Line → ℕ → ℕ → ℕ → Plan → ℕ → Tried → Type 0
IsTried kind line least most m plan P (tried.Refuted h) =
    IsGoing kind line least most (m + 1) h × IsPaid plan (most_ended line least (m + 1) (product_of h)) h
IsTried kind line least most m plan P (tried.Found h) =
    (IsGoing kind line least most m h × (product_of h < P)) × IsPaid plan (most_ended line least m (product_of h)) h
IsTried kind line least most m plan P (tried.Spent h frames closing_from) =
    IsStuck kind line least most plan h frames closing_from
IsTried kind line least most m plan P (tried.NoMemory h) =
    IsLowering kind line least most h × IsPaid plan (most_ended line least (most + 1) (product_of h)) h

-- what the tries in m stations come to; what was taken so far is what the plan allows for the tries
abbrev pub IsSettled : LineKind → Line → ℕ → ℕ → ℕ → Plan → Settled → Type 0
IsSettled kind line least most m plan (settled.Goes h) =
    IsGoing kind line least most (m + 1) h × IsPaid plan (most_ended line least (m + 1) (product_of h)) h
IsSettled kind line least most m plan (settled.Large h) = IsDue kind line least most plan h
IsSettled kind line least most m plan (settled.Spent h frames closing_from) =
    IsStuck kind line least most plan h frames closing_from
IsSettled kind line least most m plan (settled.NoMemory h) =
    IsLowering kind line least most h × IsPaid plan (most_ended line least (most + 1) (product_of h)) h

-- A seek for m stations at the cycle X was made over the book of a search: what the book gained is counted, and the
-- rest of the search stays. It gained no entry by Bound. (Own.)
pub record HasSought (m : ℕ) (plan : Plan) (X : ℕ) (old new : Lowering) (found : Option Assignment) : Type 0 where
  pub cycle : new.cycle ≡ old.cycle
  pub balance : new.balance ≡ old.balance
  pub mid : BookView
  pub about : mid.about ≡ record { line = old.book.about.line; kind = old.book.about.kind; cycle = X }
  pub same : mid.state.entries ≡ entries_of old
  pub sought : SoughtBook
  pub book : sought.book ≡ new.book
  pub seeks : sought.seeks ≡ new.seeks
  pub found_is : sought.found ≡ found
  pub does : HasSoughtBook m plan mid old.seeks sought
  pub counted : IsCounted old.book.about.line (entries_of new) (length (entries_of new)) new.listed
  pub goals : AreGoalsByBound old.book.about.line does.gained
  pub by_bound : bounds does.gained ≤ 0

-- how many entries by Bound a round may add: one where it refuted its question
abbrev pub may_bound : Verdict → ℕ
may_bound verdict.Refuted = 1
may_bound verdict.Found = 0
may_bound (verdict.Spent frames) = 0
may_bound (verdict.NoMemory frames) = 0

-- The question of m stations was asked over the book of a search: what the book gained is counted, and the rest of the
-- search stays. It gained an entry by Bound only where the question was refuted, and at most one, of all tasks.
pub record HasAsked (m : ℕ) (plan : Plan) (old new : Lowering) (v : Verdict) : Type 0 where
  pub cycle : new.cycle ≡ old.cycle
  pub balance : new.balance ≡ old.balance
  pub seeks : new.seeks ≡ old.seeks
  pub asked : Asked
  pub book : asked.book ≡ new.book
  pub verdict : asked.verdict ≡ v
  pub does : HasAskedBook m plan old.book asked
  pub counted : IsCounted old.book.about.line (entries_of new) (length (entries_of new)) new.listed
  pub goals : AreGoalsByBound old.book.about.line does.gained
  pub by_bound : bounds does.gained ≤ may_bound v

-- A search with another balance, which is right at its cycle and at no lesser one, in m stations; the cycle is 1 to X.
-- The rest stays.
pub record IsImproved (kind : LineKind) (line : Line) (m X : ℕ) (old new : Lowering) : Type 0 where
  pub book : new.book ≡ old.book
  pub listed : new.listed ≡ old.listed
  pub seeks : new.seeks ≡ old.seeks
  pub stations : new.balance.stations ≡ m
  pub right : IsRight kind line new.cycle new.balance
  pub tight : IsTight kind line new.balance new.cycle
  pub some : 1 ≤ new.cycle
  pub less : new.cycle ≤ X

-- the last entry is of this set
pub record EndsWith (es : List Entry) (set : List Bool) : Type 0 where
  pub before : ℕ
  pub entry : Entry
  pub last : length es ≡ suc before
  pub there : slice_get es before ≡ Some entry
  pub same : entry.set ≡ set

-- a trail beside the entries of a search: valid from a question of a smaller product
abbrev pub HasTrailBy : LineKind → Line → ℕ → ℕ → Lowering → Option Trail → Type 0
HasTrailBy kind line least most h None = Unit {0}
HasTrailBy kind line least most h (Some t) = (m : ℕ) × (m < tasks line) × IsLeftAt line least most m t.cycle h
    × IsTrail kind line t.cycle (entries_of h) (all_tasks line) m t.frames

-- a trail of few units
abbrev pub HasFewUnits : Line → Option Trail → Type 0
HasFewUnits line trail = (listed : ℕ) × TrailUnits line trail listed × (listed ≤ 6000000)
