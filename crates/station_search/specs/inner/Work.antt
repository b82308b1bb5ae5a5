-- What the steps of a search do: how a load is sorted, what is published, and what a walk stands for.
use Rattle.std.specs.Prelude.{◌≡◌, ◌↔◌, ℕ, ◌+◌, ◌-◌, ◌≤◌, Bool, true, List, [], ◌∷◌, ◌++◌, length, Option, Some}
use Rattle.std.specs.Prelude.{None, IfSome}
use Rattle.line_instance.specs.Truths.{In, IsEmpty, IsSubset}
use Rattle.line_instance.specs.Line.{Line}
use Rattle.line_rules.specs.Bounds.{IsChained}
use Rattle.line_rules.specs.Entries.{Cites, IsUnanswered}
use Rattle.line_rules.specs.Units.{UnitsOf, UnitsIn}
use Rattle.line_rules.specs.declared.types.LineKind.{LineKind}
use Rattle.line_rules.specs.declared.types.LineKind.TheVariants.{Straight}
use Rattle.line_rules.specs.declared.types.Mode.{Mode}
use Rattle.line_rules.specs.declared.types.Load.{Load}
use Rattle.line_rules.specs.declared.types.Entry.{Entry}
use Rattle.line_rules.specs.declared.types.Why.TheVariants as why
use Rattle.line_rules.specs.declared.types.OpenFrame.{OpenFrame}
use Rattle.lemma_core.specs.History.{Item}
use Rattle.lemma_core.specs.Desks.{DeskView, entries}
use Rattle.lemma_core.specs.Own.{Did, ArePublish, added_of}
use Rattle.line_rules.specs.Times.{AreTimes}
use Rattle.station_load.specs.Walking.{IsWalk}
use Rattle.station_search.specs.Costs.{AreLemmas, PayAll, AreUnanswered}
use Rattle.station_search.specs.declared.answers.Decided.{Decided}
use Rattle.station_search.specs.declared.answers.Decided.TheVariants as decided
use Rattle.station_search.specs.declared.listings.Listing.{Listing}
use Rattle.station_search.specs.declared.sorting.Sorted.{Sorted}
use Rattle.station_search.specs.declared.sorting.Sorted.TheVariants as sorted

-- The listing goes over the loads of the frame, stands at its last one, and has the times of its set. Where it has
-- chained tasks, they are exactly those of the frame's set for a station less than the frame has, on a straight line.
pub record IsBeside (line : Line) (X : ℕ) (f : OpenFrame) (g : Listing) : Type 0 where
  pub walk : IsWalk line g.walk
  pub same_cycle : g.walk.cycle ≡ X
  pub same_mode : g.walk.mode ≡ f.mode
  pub same_set : g.walk.set ≡ f.set
  pub same_last : g.walk.last ≡ f.last
  pub times : AreTimes line f.set g.times.total g.times.longest
  pub chained : IfSome g.chained (λ s. (j : ℕ) → In s j ↔ IsChained Straight line X f.set (f.most - 1) j)

-- the frame with a load as its last, and with other cites
abbrev pub with_last : OpenFrame → Load → OpenFrame
with_last f l = record { set = f.set; most = f.most; mode = f.mode; last = Some l; cites = f.cites }

abbrev pub with_cites : OpenFrame → List ℕ → OpenFrame
with_cites f cites = record { set = f.set; most = f.most; mode = f.mode; last = f.last; cites = cites }

-- the Branch entry of a frame whose loads ended
abbrev pub branch_of : ℕ → OpenFrame → Entry
branch_of X f = record { set = f.set; most = f.most; cycle = X; why = why.Branch f.mode f.cites }

-- the Swap entry of a set: without a task and with another one, an entry refutes it
abbrev pub swap_of : ℕ → List Bool → ℕ → ℕ → ℕ → ℕ → Entry
swap_of X set most cite out into = record { set = set; most = most; cycle = X; why = why.Swap cite out into }

-- the Pairs entry of a set: pairs refute it, with these tasks counted twice
abbrev pub pairs_of : ℕ → List Bool → ℕ → List Bool → Entry
pairs_of X set most two = record { set = set; most = most; cycle = X; why = why.Pairs two }

-- What is told of the rest of an open load, for which n stations are left: an entry refutes it; it is empty; or it isn't,
-- and no entry answers it where the looks were exact and the desk is alone.
abbrev pub Sorts : ℕ → Bool → List Entry → List Bool → ℕ → Sorted → Type 0
Sorts X sure es T n (sorted.Covered id) = Cites es id T n X
Sorts X sure es T n sorted.Empty = IsEmpty T
Sorts X sure es T n sorted.Open = (IsEmpty T → ⊥) × (sure ≡ true → IsUnanswered es T n X)

-- What was done on a desk: these own events, which paid so much; a desk that is alone saw nothing else.
pub record Does (asked : Option Mode) (kind : LineKind) (line : Line) (X : ℕ) (old new : DeskView)
    (items : List Item) (n : ℕ) : Type 0 where
  pub did : Did old new items
  pub publishes : ArePublish items
  pub lemmas : AreLemmas asked kind line X (added_of items)
  pub paid : PayAll asked kind line X (entries new) items n
  pub alone : old.alone ≡ true → new.seen ≡ old.seen ++ items

-- Publishes that paid so much, and of which at most so many added an entry.
pub record DoesFew (asked : Option Mode) (kind : LineKind) (line : Line) (X : ℕ) (old new : DeskView)
    (most n : ℕ) : Type 0 where
  pub items : List Item
  pub done : Does asked kind line X old new items n
  pub few : length (added_of items) ≤ most

-- each of the entries has a part of this set, or all of it
abbrev pub AreWithin : List Bool → List Entry → Type 0
AreWithin T [] = Unit {0}
AreWithin T (e ∷ es) = IsSubset e.set T × AreWithin T es

-- Publishes of entries whose sets are parts of T, of which at most so many were added: what was paid are the units of
-- these, where the desk is alone.
pub record DoesFor (asked : Option Mode) (kind : LineKind) (line : Line) (X : ℕ) (old new : DeskView)
    (T : List Bool) (most n : ℕ) : Type 0 where
  pub items : List Item
  pub done : Does asked kind line X old new items n
  pub few : length (added_of items) ≤ most
  pub within : AreWithin T (added_of items)
  pub fresh : old.alone ≡ true → UnitsOf line (added_of items) n

-- how many entries may be added where a rest is sorted: one by Pairs or by Swap where it is covered
abbrev pub may_add : Sorted → ℕ
may_add (sorted.Covered id) = 1
may_add sorted.Empty = 0
may_add sorted.Open = 0

-- how many entries may be added where a Swap is looked for: one where it is found
abbrev pub may_swap : Option ℕ → ℕ
may_swap None = 0
may_swap (Some id) = 1

-- the account of a search: what was done and the frames pay for units used, and the entries added are at most so many
pub record Accounts (asked : Option Mode) (kind : LineKind) (line : Line) (X : ℕ) (old new : DeskView)
    (frames : List OpenFrame) (used most : ℕ) : Type 0 where
  pub items : List Item
  pub published : ℕ
  pub listed : ℕ
  pub done : Does asked kind line X old new items published
  pub framed : UnitsIn line X frames listed
  pub within : published + listed ≤ used
  pub few : length (added_of items) ≤ most

-- all units used are paid for, on a desk that is alone by the entries added
pub record Balances (asked : Option Mode) (kind : LineKind) (line : Line) (X : ℕ) (old new : DeskView)
    (frames : List OpenFrame) (used most : ℕ) : Type 0 where
  pub items : List Item
  pub published : ℕ
  pub listed : ℕ
  pub done : Does asked kind line X old new items published
  pub framed : UnitsIn line X frames listed
  pub sum : published + listed ≡ used
  pub few : length (added_of items) ≤ most
  pub fresh : old.alone ≡ true → UnitsOf line (added_of items) published

-- the account of an answer
abbrev pub Ends : Option Mode → LineKind → Line → ℕ → DeskView → DeskView → ℕ → Decided → Type 0
Ends asked kind line X old new used (decided.Refuted reason) = Balances asked kind line X old new [] used (used + 1)
Ends asked kind line X old new used (decided.Found loads) = Accounts asked kind line X old new [] used used
Ends asked kind line X old new used (decided.Spent frames) =
    Balances asked kind line X old new frames used used × (old.alone ≡ true → AreUnanswered (entries new) X frames)
Ends asked kind line X old new used (decided.NoMemory frames) = Accounts asked kind line X old new frames used used
