-- A search for the least cycle between two tries, and what one try does to it.
use Rattle.std.specs.Prelude.{◌≡◌, ℕ, ◌+◌, ◌-◌, ◌*◌, ◌<◌, ◌≤◌, ◌⊎◌, List, [], ◌∷◌, ◌++◌, length, drop, slice_get}
use Rattle.std.specs.Prelude.{Option, Some}
use Rattle.line_instance.specs.Line.{Line, tasks}
use Rattle.line_rules.specs.Balance.{IsRight, all_tasks}
use Rattle.line_rules.specs.Entries.{IsDerived}
use Rattle.line_rules.specs.Trails.{IsTrail, IsOpenOver}
use Rattle.line_rules.specs.Units.{UnitsAt, UnitsOf, UnitsIn}
use Rattle.line_rules.specs.declared.types.LineKind.{LineKind}
use Rattle.line_rules.specs.declared.types.Balance.{Balance as Assignment}
use Rattle.line_rules.specs.declared.types.Entry.{Entry}
use Rattle.line_rules.specs.declared.types.OpenFrame.{OpenFrame}
use Rattle.lemma_core.specs.Own.{AreStatable}
use Rattle.lemma_core.specs.Books.{BookView, IsReserved}
use Rattle.round_helpers.specs.Growth.{AreAtCycle}
use Rattle.round_run.specs.Rounds.{IsAnswer, frames_of, by_bound}
use Rattle.round_run.specs.declared.plans.Plan.{Plan}
use Rattle.round_run.specs.declared.closing.Verdict.{Verdict}
use Rattle.round_run.specs.declared.solving.Cause.{Cause}
use Rattle.round_run.specs.declared.solving.Cause.TheVariants as cause
use Rattle.cycle_search.specs.Asking.{ListsAll}
use Rattle.cycle_search.specs.Ends.{first_lower, first_upper}
use Rattle.cycle_search.specs.Outcomes.{IsRightIn, IsBelow, RankedNeedsMore, halfway}
use Rattle.cycle_search.specs.Seek.{seek_room, try_room, AreSeeks}
use Rattle.cycle_search.specs.declared.halving.Halving.{Halving}
use Rattle.cycle_search.specs.declared.trying.Tried.{Tried}
use Rattle.cycle_search.specs.declared.trying.Tried.TheVariants as tried

-- no entry has a cycle from the lower end up to below the upper one
abbrev pub AreOutside : ℕ → ℕ → List Entry → Type 0
AreOutside lower upper es = (k : ℕ) (e : Entry) → slice_get es k ≡ Some e → (e.cycle < lower) ⊎ (upper ≤ e.cycle)

-- no entry but those at X has a cycle from the lower end up to below the upper one
abbrev pub AreOutsideBut : ℕ → ℕ → ℕ → List Entry → Type 0
AreOutsideBut lower upper X es = (k : ℕ) (e : Entry) → slice_get es k ≡ Some e → (e.cycle ≡ X → ⊥)
    → (e.cycle < lower) ⊎ (upper ≤ e.cycle)

-- The proof that is kept beside the book, where a try may add P: entries of which each follows from those before it and
-- can be said by a certificate, none at a cycle between the ends; where there are any, one shows the lower end.
pub record IsKept (kind : LineKind) (line : Line) (m P lower upper : ℕ) (es : List Entry) : Type 0 where
  pub derived : IsDerived kind line es
  pub statable : AreStatable es
  pub outside : AreOutside lower upper es
  pub goal : 0 < length es → IsBelow line m es lower
  pub few : length es ≤ P + 1000001
  pub units : ℕ
  pub counted : UnitsOf line es units
  pub within : units ≤ P + 1000000

-- The ends of a search by a plan: the balance is right at the upper one, which is no more than the first, and the kept
-- proof or the book shows the lower one, which is no less than the first.
pub record HasEnds (kind : LineKind) (line : Line) (m : ℕ) (plan : Plan) (h : Halving) : Type 0 where
  pub line_is : h.book.about.line ≡ line
  pub kind_is : h.book.about.kind ≡ kind
  pub reserved : IsReserved h.book
  pub from : first_lower line m ≤ h.lower
  pub met : h.lower ≤ h.upper
  pub most : h.upper ≤ first_upper line
  pub limit : h.upper ≤ 204800000000000000
  pub balance : IsRightIn kind line m h.upper h.balance
  pub proof : IsKept kind line m (try_room plan) h.lower h.upper h.proof
  pub goal : length h.proof ≡ 0 → IsBelow line m h.book.state.entries h.lower
  pub seeks : AreSeeks plan h.seeks

-- A search between two tries: no entry of its book is at a cycle between the ends, and the units of the entries are
-- paid for.
pub record IsBetween (kind : LineKind) (line : Line) (m : ℕ) (plan : Plan) (h : Halving) : Type 0 where
  pub ends : HasEnds kind line m plan h
  pub outside : AreOutside h.lower h.upper h.book.state.entries
  pub few : length h.book.state.entries ≤ try_room plan + 1000001
  pub units : ℕ
  pub counted : UnitsOf line h.book.state.entries units
  pub paid : units ≤ h.paid
  pub within : h.paid ≤ try_room plan + 1000000

-- The first book of a search: without an entry, or with the one by Bound that shows the first lower end, where that is
-- above 1.
pub record IsFirstBook (kind : LineKind) (line : Line) (m : ℕ) (b : BookView) : Type 0 where
  pub line_is : b.about.line ≡ line
  pub kind_is : b.about.kind ≡ kind
  pub reserved : IsReserved b
  pub entries : ((first_lower line m ≤ 1) × (b.state.entries ≡ []))
      ⊎ ((1 < first_lower line m) × (b.state.entries ≡ by_bound line m (first_lower line m - 1) ∷ []))

-- a try in m stations is at the cycle X: halfway between the ends of the search, rounded down, at which the ranked
-- balance has more stations
pub record IsTriedAt (kind : LineKind) (line : Line) (m X : ℕ) (h : Halving) : Type 0 where
  pub half : X ≡ halfway h.lower h.upper
  pub ranked : RankedNeedsMore kind line m X

-- A search whose book is open at the tried cycle X between the ends, and isn't too large for a try.
pub record IsReopened (kind : LineKind) (line : Line) (m : ℕ) (plan : Plan) (X : ℕ) (h : Halving) : Type 0 where
  pub between : IsBetween kind line m plan h
  pub cycle : h.book.about.cycle ≡ X
  pub from : h.lower ≤ X
  pub to : X < h.upper
  pub stations : m < tasks line
  pub small : length h.book.state.entries ≤ 1000000
  pub cheap : h.paid ≤ 1000000
  pub tried : IsTriedAt kind line m X h

-- A seek for m stations was made over the book of a search: what the book gained is at its cycle, no more than there is
-- room for, and paid for; a balance that was found is right at that cycle, and has at most m stations; the seeks of the
-- search are still such; and the rest of the search stays.
pub record HasSought (m : ℕ) (plan : Plan) (old new : Halving) (best : Option Assignment) : Type 0 where
  pub lower : new.lower ≡ old.lower
  pub upper : new.upper ≡ old.upper
  pub balance : new.balance ≡ old.balance
  pub proof : new.proof ≡ old.proof
  pub about : new.book.about ≡ old.book.about
  pub reserved : IsReserved new.book
  pub gained : List Entry
  pub entries : new.book.state.entries ≡ old.book.state.entries ++ gained
  pub cycles : AreAtCycle old.book.about.cycle gained
  pub few : length gained ≤ seek_room plan
  pub units : ℕ
  pub counted : UnitsOf old.book.about.line gained units
  pub paid : old.paid + units ≤ new.paid
  pub within : new.paid ≤ old.paid + seek_room plan
  pub found : (b : Assignment) → best ≡ Some b
      → IsRight old.book.about.kind old.book.about.line old.book.about.cycle b × (b.stations ≤ m)
  pub seeks : AreSeeks plan old.seeks → AreSeeks plan new.seeks

-- A search whose question is asked at the tried cycle X of its book, between the ends: its entries are those of before
-- the try, none at a cycle between the ends, and behind them those of a seek, all at X. Both are few, and paid for.
pub record IsAsking (kind : LineKind) (line : Line) (m : ℕ) (plan : Plan) (X : ℕ) (h : Halving) : Type 0 where
  pub ends : HasEnds kind line m plan h
  pub cycle : h.book.about.cycle ≡ X
  pub from : h.lower ≤ X
  pub to : X < h.upper
  pub stations : m < tasks line
  pub before : List Entry
  pub sought : List Entry
  pub entries : h.book.state.entries ≡ before ++ sought
  pub outside : AreOutside h.lower h.upper before
  pub cycles : AreAtCycle X sought
  pub small : length before ≤ 1000000
  pub few : length sought ≤ seek_room plan
  pub units : ℕ
  pub counted : UnitsOf line before units
  pub sought_units : ℕ
  pub sought_counted : UnitsOf line sought sought_units
  pub paid : units + sought_units ≤ h.paid
  pub cheap : h.paid ≤ 1000000 + seek_room plan
  pub tried : IsTriedAt kind line m X h

-- The question of m stations was asked over the book of a search: what the book gained is at its cycle, and paid for,
-- and the rest of the search stays.
pub record HasAsked (m : ℕ) (plan : Plan) (old new : Halving) (v : Verdict) : Type 0 where
  pub lower : new.lower ≡ old.lower
  pub upper : new.upper ≡ old.upper
  pub balance : new.balance ≡ old.balance
  pub proof : new.proof ≡ old.proof
  pub seeks : new.seeks ≡ old.seeks
  pub about : new.book.about ≡ old.book.about
  pub reserved : IsReserved new.book
  pub gained : List Entry
  pub entries : new.book.state.entries ≡ old.book.state.entries ++ gained
  pub cycles : AreAtCycle old.book.about.cycle gained
  pub few : length gained ≤ 2 * plan.units + 1
  pub published : ℕ
  pub listed : ℕ
  pub entry_units : UnitsOf old.book.about.line gained published
  pub frame_units : UnitsIn old.book.about.line old.book.about.cycle (frames_of v) listed
  pub paid : old.paid + (published + listed) ≤ new.paid
  pub within : new.paid ≤ old.paid + 2 * plan.units
  pub left : ℕ
  pub answer : IsAnswer new.book m left v
  pub all : ListsAll v plan (published + listed)

-- The entries from number `closing_from` on and the frames of a search at X whose units ended have at least the plan's
-- units at X, and exactly so many where there are no helpers. All entries and the frames have no fewer at X, and as
-- many where no seek is asked for. Own.
pub record HasListed (line : Line) (plan : Plan) (X : ℕ) (es : List Entry) (closing_from : ℕ) (frames : List OpenFrame)
    : Type 0 where
  pub units : ℕ
  pub counted : UnitsAt line X (drop closing_from es) (Some (record { cycle = X; frames = frames })) units
  pub all : plan.units ≤ units
  pub alone : plan.helpers ≡ 0 → units ≡ plan.units
  pub whole : ℕ
  pub whole_counted : UnitsAt line X es (Some (record { cycle = X; frames = frames })) whole
  pub more : units ≤ whole
  pub unsought : plan.seek ≡ 0 → whole ≡ units

-- the frames are those of a search at X whose units ended, or of one that memory ended
abbrev pub IsStuckBy : LineKind → Line → ℕ → Plan → ℕ → List Entry → ℕ → Cause → List OpenFrame → Type 0
IsStuckBy kind line m plan X es closing_from cause.Units frames =
    IsTrail kind line X es (all_tasks line) m frames × IsOpenOver line X es frames
    × HasListed line plan X es closing_from frames
IsStuckBy kind line m plan X es closing_from cause.Memory frames = frames ≡ []

-- A search that stopped at the tried cycle of its book, which is between the ends, and at which alone between them it
-- has entries. The entries of its last round are those from number `closing_from` on.
pub record IsStuck (kind : LineKind) (line : Line) (m : ℕ) (plan : Plan) (why : Cause) (h : Halving)
    (frames : List OpenFrame) (closing_from : ℕ) : Type 0 where
  pub ends : HasEnds kind line m plan h
  pub from : h.lower ≤ h.book.about.cycle
  pub to : h.book.about.cycle < h.upper
  pub stations : m < tasks line
  pub outside : AreOutsideBut h.lower h.upper h.book.about.cycle h.book.state.entries
  pub few : length h.book.state.entries ≤ try_room plan + 1000001
  pub begun : closing_from ≤ length h.book.state.entries
  pub published : ℕ
  pub listed : ℕ
  pub entry_units : UnitsOf line h.book.state.entries published
  pub frame_units : UnitsIn line h.book.about.cycle frames listed
  pub within : published + listed ≤ try_room plan + 1000000
  pub stuck : IsStuckBy kind line m plan h.book.about.cycle h.book.state.entries closing_from why frames
  pub tried : IsTriedAt kind line m h.book.about.cycle h

-- the ends are closer than these
abbrev pub IsCloser : ℕ → ℕ → Halving → Type 0
IsCloser lower upper h = h.upper - h.lower < upper - lower

-- what a try comes to that was made between these ends
abbrev pub IsTried : LineKind → Line → ℕ → Plan → ℕ → ℕ → Tried → Type 0
IsTried kind line m plan lower upper (tried.Goes h) = IsBetween kind line m plan h × IsCloser lower upper h
IsTried kind line m plan lower upper (tried.Stops why h frames closing_from) =
    IsStuck kind line m plan why h frames closing_from
