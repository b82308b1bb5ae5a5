-- What a search for the least product of stations and cycle comes to.
use Rattle.std.specs.Prelude.{◌≡◌, ◌≢◌, ◌⊎◌, ℕ, suc, ◌+◌, ◌*◌, ◌^◌, ◌<◌, ◌≤◌, max, List, ◌++◌}
use Rattle.std.specs.Prelude.{length, slice_get}
use Rattle.std.specs.Prelude.{Some, None}
use Rattle.line_instance.specs.Line.{Line, tasks}
use Rattle.line_rules.specs.Balance.{IsRight, all_tasks}
use Rattle.line_rules.specs.Bounds.{total_time}
use Rattle.line_rules.specs.Entries.{IsDerived, IsFresh, IsFreshAt}
use Rattle.line_rules.specs.Trails.{IsTrail, IsOpenOver}
use Rattle.line_rules.specs.Units.{UnitsOf, UnitsIn}
use Rattle.line_rules.specs.declared.types.LineKind.{LineKind}
use Rattle.line_rules.specs.declared.types.Entry.{Entry}
use Rattle.line_rules.specs.declared.types.Trail.{Trail}
use Rattle.line_rules.specs.declared.types.Why.TheVariants as why
use Rattle.line_rules.specs.Times.{longest_of}
use Rattle.budget_law.specs.Budget.{states}
use Rattle.round_helpers.specs.Growth.{AreAtCycle}
use Rattle.cycle_search.specs.rounds.declared.plans.Plan.{Plan}
use Rattle.cycle_search.specs.Ends.{first_upper}
use Rattle.cycle_search.specs.Seek.{AreSeeks, seek_room}
use Rattle.line_rules.specs.Products.{IsSayable}
use Rattle.line_rules.specs.declared.products.EfficCert.{EfficCert}
use Rattle.effic_check.specs.Accepted.{IsAccepted}
use Rattle.effic_check.specs.Truth.{IsBetween, IsLeastProduct}
use Rattle.effic_search.specs.Counted.{others, bounds, AreFew, AreGoalsByBound, ArePaid, AreBrought, IsWithin, most_ended}
use Rattle.effic_search.specs.Lowest.{IsLowest, IsAtLeastFirst}
use Rattle.effic_search.specs.NextTry.{IsNextTry}
use Rattle.effic_search.specs.Since.{IsSinceGoal}
use Rattle.effic_search.specs.declared.searching.Ended.{Ended}
use Rattle.effic_search.specs.declared.searching.Ended.TheVariants as ended
use Rattle.effic_search.specs.declared.searching.EfficOutcome.{EfficOutcome}
use Rattle.effic_search.specs.declared.searching.EfficOutcome.TheVariants as outcome

-- A certificate of the question: of this kind and this range of stations, within the ranges of its text, and accepted
-- with so many units, which are few enough for the default steps of the check. Its bounds are true. The upper one is no
-- greater than the product of all tasks at the first of the fewest stations; the lower one is the one that its entries
-- show, and at least the one that the times alone show. No entry is answered by an earlier one, and each that isn't by
-- Bound has a cycle from the longest time to the greater of 1 and the total. Each that is by Bound is of all tasks, and
-- there are at most two for each number of stations. At no cycle from 1 on below its own its balance is right.
pub record IsCertified (kind : LineKind) (line : Line) (least most : ℕ) (cert : EfficCert) : Type 0 where
  pub kind_is : cert.kind ≡ kind
  pub least_is : cert.least_m ≡ least
  pub most_is : cert.most_m ≡ most
  pub sayable : IsSayable cert
  pub units : ℕ
  pub accepted : IsAccepted line cert units
  pub few : units ≤ 20000000
  pub true_bounds : IsBetween kind line least most cert.lower cert.upper
  pub first : cert.upper ≤ least * first_upper line
  pub lowest : IsLowest line cert.entries least (most + 1) cert.upper cert.lower
  pub from : IsAtLeastFirst line least most cert.lower
  pub fresh : IsFresh cert.entries
  pub cycles : (k : ℕ) (e : Entry) → slice_get cert.entries k ≡ Some e → e.why ≢ why.Bound
      → (longest_of line (all_tasks line) ≤ e.cycle) × (e.cycle ≤ max (total_time line) 1)
  pub goals : AreGoalsByBound line cert.entries
  pub by_bound : bounds cert.entries + 2 * least ≤ 2 * (most + 1)
  pub tight : (c : ℕ) → 1 ≤ c → IsRight kind line c cert.balance → cert.cycle ≤ c

-- The certificate of the least product: both its bounds are it, and it has no trail. Its entries are those that a search
-- by the plan may have, and that its tries may bring, where so many entries were kept of their seeks.
pub record IsSolved (kind : LineKind) (line : Line) (least most : ℕ) (plan : Plan) (cert : EfficCert) (kept : ℕ)
    : Type 0 where
  pub certified : IsCertified kind line least most cert
  pub meet : cert.lower ≡ cert.upper
  pub none : cert.trail ≡ None
  pub least_one : IsLeastProduct kind line least most cert.upper
  pub paid : ArePaid line plan cert.entries
  pub brought : AreBrought line plan (most_ended line least (most + 1) cert.upper) kept cert.entries

-- The N units of a try ended, and one more load was needed: the bounds differ. The trail is at the tried cycle X, which
-- is that of the next try, valid from its question, in fewer stations than tasks, and open over the entries, which are
-- fresh at X. First stand entries that are few enough for a try. Behind them stand some of cycle X, for which a seek has
-- room: none where the plan has no seek. From the number `closing_from` on stand others of cycle X. These and the trail
-- have at least N units, at most 2N, and exactly N where there are no helpers. Where the plan has no seek, they are the
-- entries of cycle X behind the last one of all tasks at X. N is below what the budget law allows. All entries are those
-- that a search by the plan may have, and that its tries, of which the last one hasn't ended, may bring, where so many
-- entries were kept of their seeks. (Own.)
pub record IsSpent (kind : LineKind) (line : Line) (least most : ℕ) (plan : Plan) (cert : EfficCert)
    (closing_from kept : ℕ) : Type 0 where
  pub certified : IsCertified kind line least most cert
  pub below : cert.lower < cert.upper
  pub trail : Trail
  pub has : cert.trail ≡ Some trail
  pub stations : ℕ
  pub next : IsNextTry line cert.entries least most cert.upper stations trail.cycle
  pub fewer : stations < tasks line
  pub asks : IsTrail kind line trail.cycle cert.entries (all_tasks line) stations trail.frames
  pub opens : IsOpenOver line trail.cycle cert.entries trail.frames
  pub fresh : IsFreshAt trail.cycle cert.entries
  pub front : List Entry
  pub sought : List Entry
  pub since : List Entry
  pub added : cert.entries ≡ front ++ (sought ++ since)
  pub from : closing_from ≡ length front + length sought
  pub few : AreFew line front
  pub tried : AreAtCycle trail.cycle (sought ++ since)
  pub room : IsWithin line sought (seek_room plan)
  pub goal : plan.seek ≡ 0 → IsSinceGoal line trail.cycle cert.entries since
  pub published : ℕ
  pub listed : ℕ
  pub entry_units : UnitsOf line since published
  pub frame_units : UnitsIn line trail.cycle trail.frames listed
  pub all : plan.units ≤ published + listed
  pub twice : published + listed ≤ 2 * plan.units
  pub alone : plan.helpers ≡ 0 → published + listed ≡ plan.units
  pub budget : plan.units < (tasks line + 1) * states kind ^ tasks line
  pub paid : ArePaid line plan cert.entries
  pub brought : AreBrought line plan (suc (most_ended line least stations cert.upper)) kept cert.entries

-- A next try was due, and the book was too large for it: the bounds differ. The entries, which are fresh, have more than
-- 4,000,000 units, or more than 4,000,000 of them aren't by Bound. Each that isn't by Bound has a cycle from the longest
-- time to the greater of 1 and the total. So the line is large: of n tasks, (n + 1) x 4^n times the greater of 1 and the
-- total is more than 4,000,000. No round stopped, so all entries stand before `closing_from`. They are those that a
-- search by the plan may have, and that the tries that ended may bring, where so many entries were kept of their seeks.
-- So the search doesn't stop before a try has ended. (Own.)
pub record IsLarge (kind : LineKind) (line : Line) (least most : ℕ) (plan : Plan) (cert : EfficCert)
    (closing_from kept : ℕ) : Type 0 where
  pub certified : IsCertified kind line least most cert
  pub below : cert.lower < cert.upper
  pub none : cert.trail ≡ None
  pub stations : ℕ
  pub cycle : ℕ
  pub next : IsNextTry line cert.entries least most cert.upper stations cycle
  pub from : closing_from ≡ length cert.entries
  pub fresh : IsFresh cert.entries
  pub units : ℕ
  pub counted : UnitsOf line cert.entries units
  pub large : (4000000 < units) ⊎ (4000000 < others cert.entries)
  pub cycles : (k : ℕ) (e : Entry) → slice_get cert.entries k ≡ Some e → e.why ≢ why.Bound
      → (longest_of line (all_tasks line) ≤ e.cycle) × (e.cycle ≤ max (total_time line) 1)
  pub budget : 4000000 < (tasks line + 1) * 4 ^ tasks line * max (total_time line) 1
  pub paid : ArePaid line plan cert.entries
  pub brought : AreBrought line plan (most_ended line least stations cert.upper) kept cert.entries

-- why a search stopped, and what its certificate has then, where so many entries were kept of its seeks
abbrev pub StoppedBy : Ended → LineKind → Line → ℕ → ℕ → Plan → EfficCert → ℕ → ℕ → Type 0
StoppedBy ended.Units kind line least most plan cert closing_from kept =
    IsSpent kind line least most plan cert closing_from kept
StoppedBy ended.Size kind line least most plan cert closing_from kept =
    IsLarge kind line least most plan cert closing_from kept

-- Memory ended after the first balance: the bounds are true and differ. The upper one is no greater than the product of
-- all tasks at the first of the fewest stations. The lower one is the one that some entries show, of which each follows
-- from those before it, and at least the one that the times alone show. (Own.)
pub record IsCutShort (kind : LineKind) (line : Line) (least most lower upper : ℕ) : Type 0 where
  pub true_bounds : IsBetween kind line least most lower upper
  pub below : lower < upper
  pub first : upper ≤ least * first_upper line
  pub entries : List Entry
  pub derived : IsDerived kind line entries
  pub lowest : IsLowest line entries least (most + 1) upper lower
  pub from : IsAtLeastFirst line least most lower

-- Units of a try that are enough for a line: of n tasks at least (n + 1) x 3^n, on a U-line (n + 1) x 4^n; and the line
-- is so small that its book can't become too large: (n + 1) x 4^n times the greater of 1 and the total is at most
-- 4,000,000.
pub record AreEnough (kind : LineKind) (line : Line) (N : ℕ) : Type 0 where
  pub units : (tasks line + 1) * states kind ^ tasks line ≤ N
  pub size : (tasks line + 1) * 4 ^ tasks line * max (total_time line) 1 ≤ 4000000

-- What is answered for `least` to `most` stations: the least product; or bounds, where the units of a try ended, the
-- book was too large for a try, or memory ended. The seeks are those of the plan. Out of memory is free.
abbrev pub Lowers : LineKind → Line → ℕ → ℕ → Plan → EfficOutcome → Type 0
Lowers kind line least most plan (outcome.Solved cert seeks) =
    IsSolved kind line least most plan cert seeks.kept × AreSeeks plan seeks
Lowers kind line least most plan (outcome.Stopped why cert closing_from seeks) =
    StoppedBy why kind line least most plan cert closing_from seeks.kept × AreSeeks plan seeks
Lowers kind line least most plan (outcome.Memory lower upper) = IsCutShort kind line least most lower upper
Lowers kind line least most plan outcome.NoMemory = Unit {0}
