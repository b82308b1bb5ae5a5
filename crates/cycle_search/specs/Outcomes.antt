-- What a search for the least cycle comes to.
use Rattle.std.specs.Prelude.{◌≡◌, ℕ, ◌+◌, ◌-◌, ◌*◌, ◌/◌, ◌^◌, ◌<◌, ◌≤◌, List, [], length, drop, Option, Some, None}
use Rattle.line_instance.specs.Line.{Line, tasks}
use Rattle.line_rules.specs.Accepted.{IsLeastCycle}
use Rattle.line_rules.specs.Balance.{IsRight, all_tasks}
use Rattle.line_rules.specs.Entries.{HasAnswer, IsDerived, IsFreshAt}
use Rattle.line_rules.specs.Ranked.{IsRankedBalance}
use Rattle.line_rules.specs.Trails.{IsTrail, IsOpenOver}
use Rattle.line_rules.specs.Units.{UnitsAt, UnitsWhole}
use Rattle.line_rules.specs.declared.types.LineKind.{LineKind}
use Rattle.line_rules.specs.declared.types.Balance.{Balance as Assignment}
use Rattle.line_rules.specs.declared.types.Entry.{Entry}
use Rattle.line_rules.specs.declared.types.Trail.{Trail}
use Rattle.lemma_core.specs.Own.{AreStatable}
use Rattle.budget_law.specs.Budget.{states}
use Rattle.round_run.specs.declared.plans.Plan.{Plan}
use Rattle.round_run.specs.declared.solving.Cause.TheVariants as cause
use Rattle.cycle_search.specs.Ends.{first_lower, first_upper}
use Rattle.cycle_search.specs.Seek.{try_room, AreSeeks}
use Rattle.cycle_search.specs.declared.searching.CycleOutcome.{CycleOutcome}
use Rattle.cycle_search.specs.declared.searching.CycleOutcome.TheVariants as outcome

-- a right balance at cycle c in m stations, some of them perhaps empty
pub record IsRightIn (kind : LineKind) (line : Line) (m c : ℕ) (b : Assignment) : Type 0 where
  pub right : IsRight kind line c b
  pub stations : b.stations ≡ m

-- above 1, an entry shows that there is no balance of all tasks in m stations at the cycle below c
abbrev pub IsBelow : Line → ℕ → List Entry → ℕ → Type 0
IsBelow line m es c = 1 < c → HasAnswer es (all_tasks line) m (c - 1)

-- the cycle halfway between two ends, rounded down (own)
abbrev pub halfway : ℕ → ℕ → ℕ
halfway lower upper = (lower + upper) / 2

-- the ranked balance at cycle c has more than m stations
abbrev pub RankedNeedsMore : LineKind → Line → ℕ → ℕ → Type 0
RankedNeedsMore kind line m c = (b : Assignment) × IsRankedBalance kind line c b × (m < b.stations)

-- The entries of a search in which a try may add P, and the trail, have at most 2P + 2,000,000 units, and the entries
-- are at most 2P + 2,000,100: 7,000,000 and 7,000,100 where P is 2,500,000.
pub record AreSome (line : Line) (P : ℕ) (es : List Entry) (trail : Option Trail) : Type 0 where
  pub many : length es ≤ 2 * P + 2000100
  pub units : ℕ
  pub counted : UnitsWhole line es trail units
  pub within : units ≤ 2 * P + 2000000

-- The proof of a lower bound: entries of which each follows from those before it and can be said by a certificate, and
-- of which, above 1, one shows the bound.
pub record ShowsLower (kind : LineKind) (line : Line) (m lower : ℕ) (es : List Entry) : Type 0 where
  pub derived : IsDerived kind line es
  pub statable : AreStatable es
  pub goal : IsBelow line m es lower

-- The least cycle for m stations (Scholl's SALBP-2), at most the limit of a total time: the balance is right at it, and
-- the entries show that there is none at the cycle below; there is no entry where it is 1.
pub record IsSolved (kind : LineKind) (line : Line) (m : ℕ) (plan : Plan) (cycle : ℕ) (b : Assignment) (es : List Entry)
    : Type 0 where
  pub least : IsLeastCycle kind line m cycle
  pub limit : cycle ≤ 204800000000000000
  pub balance : IsRightIn kind line m cycle b
  pub proof : ShowsLower kind line m cycle es
  pub one : cycle ≡ 1 → es ≡ []
  pub some : AreSome line (try_room plan) es None

-- The search stopped: the lower bound, which is no less than the first lower end, is below the upper one, which is no
-- more than the first upper end, and at which the balance is right. The cycle of the trail is the tried one: the one
-- halfway between the bounds, rounded down, at which the ranked balance has more than m stations.
pub record IsStopped (kind : LineKind) (line : Line) (m : ℕ) (plan : Plan) (lower upper : ℕ) (b : Assignment)
    (es : List Entry) (trail : Trail) : Type 0 where
  pub from : first_lower line m ≤ lower
  pub below : lower < upper
  pub most : upper ≤ first_upper line
  pub limit : upper ≤ 204800000000000000
  pub balance : IsRightIn kind line m upper b
  pub proof : ShowsLower kind line m lower es
  pub some : AreSome line (try_room plan) es (Some trail)
  pub tried : trail.cycle ≡ halfway lower upper
  pub ranked : RankedNeedsMore kind line m trail.cycle

-- The N units of a try ended, and one more load was needed: there are fewer stations than tasks. The trail is at a
-- cycle X between the bounds, valid from the question of all tasks in m stations, and open over the entries. These are
-- fresh at X. The entries from a number `closing_from` on and the trail have at least N units at X, and exactly so many
-- where there are no helpers. All entries and the trail have no fewer at X, and as many where no seek is asked for. N
-- is below what the budget law allows. No entry refutes a balance at the lower bound itself: it is the best one that
-- the entries show.
pub record IsSpent (kind : LineKind) (line : Line) (m : ℕ) (plan : Plan) (lower upper : ℕ) (b : Assignment)
    (es : List Entry) (trail : Trail) (closing_from : ℕ) : Type 0 where
  pub stopped : IsStopped kind line m plan lower upper b es trail
  pub from : lower ≤ trail.cycle
  pub to : trail.cycle < upper
  pub stations : m < tasks line
  pub valid : IsTrail kind line trail.cycle es (all_tasks line) m trail.frames
  pub opens : IsOpenOver line trail.cycle es trail.frames
  pub fresh : IsFreshAt trail.cycle es
  pub begun : closing_from ≤ length es
  pub units : ℕ
  pub counted : UnitsAt line trail.cycle (drop closing_from es) (Some trail) units
  pub all : plan.units ≤ units
  pub alone : plan.helpers ≡ 0 → units ≡ plan.units
  pub whole : ℕ
  pub whole_counted : UnitsAt line trail.cycle es (Some trail) whole
  pub more : units ≤ whole
  pub unsought : plan.seek ≡ 0 → whole ≡ units
  pub budget : plan.units < (tasks line + 1) * states kind ^ tasks line
  pub tight : HasAnswer es (all_tasks line) m lower → ⊥

-- What is answered for m stations: the least cycle; or bounds, where the units of a try ended or memory did; and what
-- the seeks of the search come to. Out of memory is free.
abbrev pub Searches : LineKind → Line → ℕ → Plan → CycleOutcome → Type 0
Searches kind line m plan (outcome.Solved cycle b es seeks) =
    IsSolved kind line m plan cycle b es × AreSeeks plan seeks
Searches kind line m plan (outcome.Stopped cause.Units lower upper b es trail closing_from seeks) =
    IsSpent kind line m plan lower upper b es trail closing_from × AreSeeks plan seeks
Searches kind line m plan (outcome.Stopped cause.Memory lower upper b es trail closing_from seeks) =
    IsStopped kind line m plan lower upper b es trail × AreSeeks plan seeks
Searches kind line m plan outcome.NoMemory = Unit {0}
