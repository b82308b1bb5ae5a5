-- What a call of `decide` publishes on its desk, and how that pays for the units that it uses.
use Rattle.std.specs.Prelude.{◌≡◌, ℕ, suc, ◌+◌, ◌≤◌, Bool, List, [], ◌∷◌, ◌++◌, length, slice_get, Option, Some}
use Rattle.line_instance.specs.Line.{Line}
use Rattle.line_rules.specs.Loads.{IsLoad}
use Rattle.line_rules.specs.Order.{Precedes}
use Rattle.line_rules.specs.Entries.{IsUnanswered}
use Rattle.line_rules.specs.Trails.{IsOpenOver}
use Rattle.line_rules.specs.Units.{UnitsBy, UnitsOf, UnitsIn}
use Rattle.line_rules.specs.declared.types.LineKind.{LineKind}
use Rattle.line_rules.specs.declared.types.Mode.{Mode}
use Rattle.line_rules.specs.declared.types.Load.{Load}
use Rattle.line_rules.specs.declared.types.Entry.{Entry}
use Rattle.line_rules.specs.declared.types.Why.{Why}
use Rattle.line_rules.specs.declared.types.Why.TheVariants as why
use Rattle.line_rules.specs.declared.types.OpenFrame.{OpenFrame}
use Rattle.lemma_core.specs.History.{Item, added, known, better}
use Rattle.lemma_core.specs.Desks.{DeskView, entries}
use Rattle.lemma_core.specs.Own.{Did, ArePublish, added_of}
use Rattle.station_search.specs.Mode.{frame_mode}
use Rattle.station_search.specs.declared.answers.Decided.{Decided}
use Rattle.station_search.specs.declared.answers.Decided.TheVariants as decided

-- a Branch has the mode that was asked for, or else that of its set
abbrev pub HasMode : Option Mode → LineKind → Line → List Bool → Why → Type 0
HasMode asked kind line R why.Bound = Unit {0}
HasMode asked kind line R (why.Branch mode cites) = mode ≡ frame_mode asked kind line R
HasMode asked kind line R (why.Swap cite out into) = Unit {0}
HasMode asked kind line R (why.Pairs two) = Unit {0}

-- each entry has the cycle X, and the mode asked for or that of its set where it is a Branch
abbrev pub AreLemmas : Option Mode → LineKind → Line → ℕ → List Entry → Type 0
AreLemmas asked kind line X [] = Unit {0}
AreLemmas asked kind line X (e ∷ es) =
    (e.cycle ≡ X) × HasMode asked kind line e.set e.why × AreLemmas asked kind line X es

-- The desk's own events in the call are Publishes, and the entries that they added have the cycle X and the mode asked
-- for, or else those of their sets.
pub record HasPublished (asked : Option Mode) (kind : LineKind) (line : Line) (X : ℕ)
    (old new : DeskView) : Type 0 where
  pub items : List Item
  pub did : Did old new items
  pub publishes : ArePublish items
  pub lemmas : AreLemmas asked kind line X (added_of items)

-- so many loads of R, rising: some of its loads, and so at most all
pub record HasLoads (line : Line) (c : ℕ) (mode : Mode) (R : List Bool) (n : ℕ) : Type 0 where
  pub loads : List Load
  pub rises : (k : ℕ) (a b : Load) → slice_get loads k ≡ Some a → slice_get loads (suc k) ≡ Some b → Precedes line a b
  pub each : (k : ℕ) (a : Load) → slice_get loads k ≡ Some a → IsLoad line c mode R a
  pub long : length loads ≡ n

-- What a Publish pays, the entries being those seen: an entry that was added its units, and one that was known some
-- loads of its set at the cycle X, in the mode asked for or else that of the set.
abbrev pub Pays : Option Mode → LineKind → Line → ℕ → List Entry → Item → ℕ → Type 0
Pays asked kind line X es (added id e) n = UnitsBy line e e.why n
Pays asked kind line X es (known id most) n =
    (e : Entry) × (slice_get es id ≡ Some e) × HasLoads line X (frame_mode asked kind line e.set) e.set n
Pays asked kind line X es (better m) n = n ≡ 0

-- the sum of what the items pay
abbrev pub PayAll : Option Mode → LineKind → Line → ℕ → List Entry → List Item → ℕ → Type 0
PayAll asked kind line X es [] n = n ≡ 0
PayAll asked kind line X es (i ∷ is) n =
    (a : ℕ) × (b : ℕ) × (Pays asked kind line X es i a × PayAll asked kind line X es is b × (n ≡ a + b))

-- every unit used is paid for: the own events and the frames answered pay them all
pub record PaysExactly (asked : Option Mode) (kind : LineKind) (line : Line) (X : ℕ) (old new : DeskView)
    (frames : List OpenFrame) (used : ℕ) : Type 0 where
  pub items : List Item
  pub did : Did old new items
  pub published : ℕ
  pub listed : ℕ
  pub paid : PayAll asked kind line X (entries new) items published
  pub framed : UnitsIn line X frames listed
  pub sum : published + listed ≡ used

-- the own events and the frames answered pay for units used, and for no more
pub record PaysWithin (asked : Option Mode) (kind : LineKind) (line : Line) (X : ℕ) (old new : DeskView)
    (frames : List OpenFrame) (used : ℕ) : Type 0 where
  pub items : List Item
  pub did : Did old new items
  pub published : ℕ
  pub listed : ℕ
  pub paid : PayAll asked kind line X (entries new) items published
  pub framed : UnitsIn line X frames listed
  pub sum : published + listed ≤ used

-- the units used in the call: all are paid for where the question was refuted or the units ended
abbrev pub Costs : Option Mode → LineKind → Line → ℕ → DeskView → DeskView → ℕ → Decided → Type 0
Costs asked kind line X old new used (decided.Refuted reason) = PaysExactly asked kind line X old new [] used
Costs asked kind line X old new used (decided.Found loads) = PaysWithin asked kind line X old new [] used
Costs asked kind line X old new used (decided.Spent frames) = PaysExactly asked kind line X old new frames used
Costs asked kind line X old new used (decided.NoMemory frames) = PaysWithin asked kind line X old new frames used

-- what a desk that is alone saw in the call is its own events, and the units used are those of the entries added and of
-- the frames
pub record Spends (line : Line) (X : ℕ) (old new : DeskView) (frames : List OpenFrame) (used : ℕ) : Type 0 where
  pub items : List Item
  pub did : Did old new items
  pub seen : new.seen ≡ old.seen ++ items
  pub published : ℕ
  pub listed : ℕ
  pub entry_units : UnitsOf line (added_of items) published
  pub framed : UnitsIn line X frames listed
  pub sum : published + listed ≡ used

-- no entry seen answers a frame
abbrev pub AreUnanswered : List Entry → ℕ → List OpenFrame → Type 0
AreUnanswered es X frames = (k : ℕ) (f : OpenFrame) → slice_get frames k ≡ Some f → IsUnanswered es f.set f.most X

-- where the desk is alone, the trail of a search that stopped is open over the entries seen, and no entry seen answers
-- a frame
abbrev pub CostsAlone : Line → ℕ → DeskView → DeskView → ℕ → Decided → Type 0
CostsAlone line X old new used (decided.Refuted reason) = Spends line X old new [] used
CostsAlone line X old new used (decided.Found loads) = Unit {0}
CostsAlone line X old new used (decided.Spent frames) =
    Spends line X old new frames used × AreUnanswered (entries new) X frames × IsOpenOver line X (entries new) frames
CostsAlone line X old new used (decided.NoMemory frames) = Unit {0}

-- the entries added are at most so many, and their units and those of the frames are together at most the units used
pub record AddsFew (line : Line) (X : ℕ) (old new : DeskView) (frames : List OpenFrame) (used most : ℕ) : Type 0 where
  pub items : List Item
  pub did : Did old new items
  pub few : length (added_of items) ≤ most
  pub published : ℕ
  pub listed : ℕ
  pub entry_units : UnitsOf line (added_of items) published
  pub framed : UnitsIn line X frames listed
  pub sum : published + listed ≤ used

-- whatever the answer, the entries added are at most as many as the units used, with one more where the question was
-- refuted
abbrev pub FewAdded : Line → ℕ → DeskView → DeskView → ℕ → Decided → Type 0
FewAdded line X old new used (decided.Refuted reason) = AddsFew line X old new [] used (used + 1)
FewAdded line X old new used (decided.Found loads) = AddsFew line X old new [] used used
FewAdded line X old new used (decided.Spent frames) = AddsFew line X old new frames used used
FewAdded line X old new used (decided.NoMemory frames) = AddsFew line X old new frames used used
