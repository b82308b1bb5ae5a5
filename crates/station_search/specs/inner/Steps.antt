-- The steps of a search: where it stands before and after.
use Rattle.std.specs.Prelude.{◌≡◌, ℕ, ◌+◌, ◌-◌, ◌<◌, Bool, true, List, [], ◌∷◌, ◌++◌, length, slice_get, vec_len, vec_capacity}
use Rattle.std.specs.Prelude.{Option, Some, None}
use Rattle.line_instance.specs.Truths.{IsEmpty}
use Rattle.line_instance.specs.Line.{Line}
use Rattle.line_rules.specs.Loads.{IsLoad, Belongs, rest}
use Rattle.line_rules.specs.Order.{After, IsFollowing}
use Rattle.line_rules.specs.Entries.{IsOpen, Cites, IsUnanswered}
use Rattle.line_rules.specs.declared.types.LineKind.{LineKind}
use Rattle.line_rules.specs.declared.types.Mode.{Mode}
use Rattle.line_rules.specs.declared.types.Load.{Load}
use Rattle.line_rules.specs.declared.types.OpenFrame.{OpenFrame}
use Rattle.lemma_core.specs.Desks.{DeskView, entries}
use Rattle.station_search.specs.Mode.{frame_mode}
use Rattle.station_search.specs.inner.Work.{IsBeside, DoesFor, with_last, with_cites}
use Rattle.station_search.specs.declared.listings.Listing.{Listing}
use Rattle.station_search.specs.declared.standing.Standing.{Standing}
use Rattle.station_search.specs.declared.standing.Listed.{Listed}
use Rattle.station_search.specs.declared.standing.Listed.TheVariants as listed

-- the frame with another last load, or with none
abbrev pub with_mark : OpenFrame → Option Load → OpenFrame
with_mark f last = record { set = f.set; most = f.most; mode = f.mode; last = last; cites = f.cites }

-- Loads follow one another from the last one of a frame on, and none of them is open: the last of these, and how many
-- there are.
pub data Skips (kind : LineKind) (line : Line) (X : ℕ) (f : OpenFrame) : Option Load → ℕ → Type 0 where
  none : {last : Option Load} {n : ℕ} → last ≡ f.last → n ≡ 0 → Skips kind line X f last n
  one_more : {last : Option Load} {n : ℕ} (before : Option Load) (k : ℕ) (l : Load) → Skips kind line X f before k
      → IsFollowing line X f.mode f.set before l → (IsOpen kind line X f.mode f.set f.most l → ⊥)
      → last ≡ Some l → n ≡ k + 1 → Skips kind line X f last n

-- the listing stands at the last of some loads of the frame that were passed over, each for a unit, or where it stood
pub record HasSkipped (kind : LineKind) (line : Line) (X : ℕ) (f : OpenFrame) (before after : ℕ) (g : Listing)
    : Type 0 where
  pub light : ℕ
  pub skips : Skips kind line X f g.walk.last light
  pub cost : after ≡ before + light
  pub beside : IsBeside line X (with_mark f g.walk.last) g

-- the listing stands at the load that comes after some that were passed over, each for a unit
pub record HasMet (kind : LineKind) (line : Line) (X : ℕ) (f : OpenFrame) (before after : ℕ) (g : Listing)
    : Type 0 where
  pub last : Option Load
  pub light : ℕ
  pub skips : Skips kind line X f last light
  pub load : Load
  pub next : IsFollowing line X f.mode f.set last load
  pub stands : g.walk.last ≡ Some load
  pub cost : after ≡ before + (light + 1)
  pub beside : IsBeside line X (with_last f load) g

-- no load of the frame comes after this one
abbrev pub IsLast : Line → ℕ → OpenFrame → Option Load → Type 0
IsLast line X f last = (l : Load) → IsLoad line X f.mode f.set l → After line last l → ⊥

-- there are as many listings as frames, and each goes over the loads of its frame
pub record ArePaired (line : Line) (X : ℕ) (fs : List OpenFrame) (ws : List Listing) : Type 0 where
  pub as_many : length fs ≡ length ws
  pub beside : (k : ℕ) (f : OpenFrame) (w : Listing) → slice_get fs k ≡ Some f → slice_get ws k ≡ Some w
      → IsBeside line X f w

-- there is room for one more frame, and the frames that wait have their listings
pub record IsReady (line : Line) (X : ℕ) (s : Standing) : Type 0 where
  pub room : vec_len s.passed < vec_capacity s.passed
  pub paired : ArePaired line X s.passed.items s.listings.items

-- the frame is that of a question before its first load
pub record IsFresh (asked : Option Mode) (kind : LineKind) (line : Line) (R : List Bool) (n : ℕ)
    (f : OpenFrame) : Type 0 where
  pub set : f.set ≡ R
  pub most : f.most ≡ n
  pub mode : f.mode ≡ frame_mode asked kind line R
  pub belongs : Belongs kind f.mode
  pub last : f.last ≡ None
  pub cites : f.cites ≡ []

-- the search stands before the first load of the question
pub record IsBegun (asked : Option Mode) (kind : LineKind) (line : Line) (X : ℕ) (R : List Bool) (most : ℕ)
    (s : Standing) : Type 0 where
  pub none : s.passed.items ≡ []
  pub fresh : IsFresh asked kind line R most s.frame
  pub beside : IsBeside line X s.frame s.listing
  pub ready : IsReady line X s

-- the frame in hand waits, and one of the set T with a station less is in hand
pub record GoesDown (asked : Option Mode) (kind : LineKind) (line : Line) (X : ℕ) (T : List Bool)
    (s t : Standing) : Type 0 where
  pub passed : t.passed.items ≡ s.passed.items ++ s.frame ∷ []
  pub fresh : IsFresh asked kind line T (s.frame.most - 1) t.frame
  pub beside : IsBeside line X t.frame t.listing
  pub ready : IsReady line X t

-- the frame that waits last is in hand, with one cite more, and its listing too; where there was room, there is room
pub record GoesUp (id : ℕ) (s t : Standing) : Type 0 where
  pub parent : OpenFrame
  pub cites : List ℕ
  pub passed : s.passed.items ≡ t.passed.items ++ parent ∷ []
  pub listings : s.listings.items ≡ t.listings.items ++ t.listing ∷ []
  pub cited : cites ≡ parent.cites ++ id ∷ []
  pub frame : t.frame ≡ with_cites parent cites
  pub room : vec_len s.passed < vec_capacity s.passed → vec_len t.passed < vec_capacity t.passed

-- where a search stands with another frame and listing in hand
abbrev pub stands_with : Standing → OpenFrame → Listing → Standing
stands_with s f h = record { passed = s.passed; listings = s.listings; frame = f; listing = h }

-- the load comes next, and so many entries at most were added, of parts of its rest, that have no units
pub record ListsLoad (kind : LineKind) (line : Line) (X : ℕ) (old new : DeskView) (f : OpenFrame) (l : Load)
    (most : ℕ) : Type 0 where
  pub next : IsFollowing line X f.mode f.set f.last l
  pub does : (asked : Option Mode) → DoesFor asked kind line X old new (rest f.set l) most 0

-- no load was listed, and nothing changed but the listing in hand
pub record ListsNone (old new : DeskView) (s t : Standing) : Type 0 where
  pub stays : t ≡ stands_with s s.frame t.listing
  pub desk : new ≡ old

-- the load is open, and one cite more refutes its rest
abbrev pub PassesBy : LineKind → Line → ℕ → DeskView → OpenFrame → Load → List ℕ → Type 0
PassesBy kind line X new f l cites =
    (id : ℕ) × ((cites ≡ f.cites ++ id ∷ []) × IsOpen kind line X f.mode f.set f.most l
    × Cites (entries new) id (rest f.set l) (f.most - 1) X)

pub record ListsPassed (kind : LineKind) (line : Line) (X : ℕ) (old new : DeskView) (s t : Standing) : Type 0 where
  pub load : Load
  pub cites : List ℕ
  pub listed : ListsLoad kind line X old new s.frame load 1
  pub stands : t ≡ stands_with s (with_cites (with_last s.frame load) cites) t.listing
  pub beside : IsBeside line X t.frame t.listing
  pub passes : PassesBy kind line X new s.frame load cites

-- an open load is the last one
pub record ListsOpen (kind : LineKind) (line : Line) (X : ℕ) (old new : DeskView) (s t : Standing) : Type 0 where
  pub load : Load
  pub listed : ListsLoad kind line X old new s.frame load 0
  pub stands : t ≡ stands_with s (with_last s.frame load) t.listing
  pub beside : IsBeside line X t.frame t.listing
  pub opens : IsOpen kind line X s.frame.mode s.frame.set s.frame.most load

-- What comes of the next load: there is none; or there is one, and no unit for it; or it needs no search; or its rest
-- is empty; or its rest isn't, and no entry answers it where the looks were exact and the desk is alone.
abbrev pub Lists : LineKind → Line → ℕ → Bool → DeskView → DeskView → Standing → Standing → ℕ → Listed → Type 0
Lists kind line X sure old new s t left listed.Ended =
    ListsNone old new s t
    × ((l : Load) → IsLoad line X s.frame.mode s.frame.set l → After line s.frame.last l → ⊥)
Lists kind line X sure old new s t left listed.Spent =
    ListsNone old new s t × (left ≡ 0) × ((l : Load) × IsFollowing line X s.frame.mode s.frame.set s.frame.last l)
Lists kind line X sure old new s t left listed.Passed = ListsPassed kind line X old new s t
Lists kind line X sure old new s t left listed.Empty =
    (o : ListsOpen kind line X old new s t) × IsEmpty (rest s.frame.set o.load)
Lists kind line X sure old new s t left (listed.Open T) =
    (o : ListsOpen kind line X old new s t) × ((T ≡ rest s.frame.set o.load) × (IsEmpty T → ⊥)
    × (sure ≡ true → IsUnanswered (entries new) T (s.frame.most - 1) X))

-- how many units a listing takes
abbrev pub units_of : Listed → ℕ
units_of listed.Ended = 0
units_of listed.Spent = 0
units_of listed.Passed = 1
units_of listed.Empty = 1
units_of (listed.Open T) = 1

-- What comes of the next load that isn't passed over. Some loads before it were, none of them open; then the search
-- stood with the last of them, and this came of the load after it. Each load that was listed took a unit.
pub record ListsOn (kind : LineKind) (line : Line) (X : ℕ) (sure : Bool) (old new : DeskView) (s t : Standing)
    (before after left : ℕ) (d : Listed) : Type 0 where
  pub last : Option Load
  pub light : ℕ
  pub skips : Skips kind line X s.frame last light
  pub listing : Listing
  pub lists : Lists kind line X sure old new (stands_with s (with_mark s.frame last) listing) t left d
  pub cost : after ≡ before + (light + units_of d)
