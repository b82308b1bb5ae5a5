-- The rule of a shared book, true between any two steps. The words are the turn, 0 free and 1 held, the number of
-- events, and the least station count; the one slot holds the book, and is empty while a pass has it in hand. Own.
use Rattle.std.specs.Prelude.{◌≡◌, ◌≢◌, ℕ, ◌+◌, ◌-◌, ◌<◌, ◌≤◌, ◌⊎◌, cond, nat_lt, List, [], ◌∷◌, length, Option, Some}
use mathlib.Core.Option.{some, none}
use mathlib.Core.Option as maybe
use lib.ListN.{get_elem?}
use Rattle.atomic_table.specs.Table.{State}
use Rattle.line_instance.specs.Line.{tasks}
use Rattle.line_rules.specs.Accepted.{HasBalance}
use Rattle.line_rules.specs.declared.types.LineKind.TheVariants.{Straight}
use Rattle.lemma_core.specs.Machine.{About}
use Rattle.lemma_core.specs.History.{Item, replay, Begins, AreExact}
use Rattle.lemma_core.specs.Books.{BookView, IsReserved}
use Rattle.book_share.specs.Passes.{Phase, Idle, Holding, Recorded, Lowered, Spent, Base, PassView}
use Rattle.book_share.specs.Places.{but_last, longer, shorter, times, once_from, Rises, merged, total}

-- the first pass, of a book as it is at the start: it has seen the whole log, and all parts are its own
abbrev pub newcomer : BookView → PassView
newcomer b = record {
  base = record { about = b.about; opening = b.opening; from = length b.events };
  seen = b.events;
  own = [];
  heard = [];
  tries = 0;
  met = 0;
  reads = 0;
  read = 0;
  parts = 1024;
  phase = Idle;
}

-- a pass of which one part goes, where it has two or more, and the pass to which it goes; else both have none
abbrev pub left_of : PassView → PassView
left_of v = record v { parts = cond (nat_lt 1 v.parts) (v.parts - 1) 0; phase = Idle }

abbrev pub right_of : PassView → PassView
right_of v = record v {
  own = [];
  heard = [];
  tries = 0;
  met = 0;
  reads = 0;
  read = 0;
  parts = cond (nat_lt 1 v.parts) 1 0;
  phase = Idle;
}

-- a pass into which another was joined: it has the longer list, the places and the parts of both
abbrev pub both_of : PassView → PassView → PassView
both_of v w = record v {
  seen = longer v.seen w.seen;
  own = merged v.own w.own;
  heard = shorter v.seen w.seen;
  parts = v.parts + w.parts;
  phase = Idle;
}

-- what is left of a pass that was joined into another
abbrev pub spent : PassView
spent = record {
  base = record {
    about = record { line = record { times = []; before = []; apart = []; order = [] }; kind = Straight; cycle = 0 };
    opening = record { entries = []; stations = 0 };
    from = 0;
  };
  seen = [];
  own = [];
  heard = [];
  tries = 0;
  met = 0;
  reads = 0;
  read = 0;
  parts = 0;
  phase = Spent;
}

-- the fewest stations of the opening balance and the better offers of a history
abbrev pub fewest : Base → List Item → ℕ
fewest base h = (replay base.opening h).stations

-- all tasks have a balance in n stations, and n is at most the number of tasks
pub record IsReached (about : About) (n : ℕ) : Type 0 where
  pub balance : HasBalance about.kind about.line about.cycle n
  pub few : n ≤ tasks about.line

-- What is true of a history, up to which the least count counts `done`: each event is exact at its turn, and so many
-- stations have a balance. The tasks are as many as a number of 32 bits can say.
pub record Stands (base : Base) (h done : List Item) : Type 0 where
  pub exact : AreExact base.opening h
  pub reached : IsReached base.about (fewest base done)
  pub small : tasks base.about.line < 4294967296

-- by the phase of the pass that has seen the whole history: the word turn,
abbrev pub turn_of : Phase → ℕ
turn_of Idle = 0
turn_of Holding = 1
turn_of Recorded = 1
turn_of Lowered = 1
turn_of Spent = 0

-- what of the history the other passes may have seen,
abbrev pub shown : Phase → List Item → List Item
shown Idle h = h
shown Holding h = h
shown Recorded h = but_last h
shown Lowered h = but_last h
shown Spent h = h

-- and what of it the word of the least count counts
abbrev pub counted : Phase → List Item → List Item
counted Idle h = h
counted Holding h = h
counted Recorded h = but_last h
counted Lowered h = h
counted Spent h = h

-- a book of this share with this history
pub record IsFor (base : Base) (h : List Item) (b : BookView) : Type 0 where
  pub about : b.about ≡ base.about
  pub opening : b.opening ≡ base.opening
  pub events : b.events ≡ h
  pub reserved : IsReserved b

-- the book is home exactly where the turn is free
abbrev pub Home : Phase → Base → List Item → List (maybe.Option (Option BookView)) → Type 0
Home Idle base h homes = (b : BookView) × (homes ≡ some (Some b) ∷ []) × IsFor base h b
Home Holding base h homes = homes ≡ none ∷ []
Home Recorded base h homes = homes ≡ none ∷ []
Home Lowered base h homes = homes ≡ none ∷ []
Home Spent base h homes = ⊥

-- a pass between two calls that has seen a beginning of h
pub record IsIdle (common : Base) (h : List Item) (v : PassView) : Type 0 where
  pub phase : v.phase ≡ Idle
  pub base : v.base ≡ common
  pub seen : Begins v.seen h

-- its own places rise, from the length of the log at the start on and below the length of what it has seen
abbrev pub OwnRises : PassView → Type 0
OwnRises v = Rises v.base.from v.own (length v.seen)

-- the parts of all passes together, and how often a place is an own place of any
abbrev pub all_parts : List PassView → ℕ
all_parts views = total (λ v. v.parts) views

abbrev pub own_times : ℕ → List PassView → ℕ
own_times x views = total (λ v. times x v.own) views

pub record Kept (s : State (Option BookView) PassView) : Type 0 where
  -- a pass that has seen the whole history, on whose phase the words depend
  pub at : ℕ
  pub view : PassView
  pub there : get_elem? s.views at ≡ some view
  pub words : s.words ≡ turn_of view.phase ∷ length view.seen ∷ fewest view.base (counted view.phase view.seen) ∷ []
  pub home : Home view.phase view.base view.seen s.homes
  pub stands : Stands view.base view.seen (counted view.phase view.seen)
  -- every other pass is spent, or between two calls with a beginning of the history
  pub others : (j : ℕ) (v : PassView) → j ≢ at → get_elem? s.views j ≡ some v
      → (v ≡ spent) ⊎ IsIdle view.base (shown view.phase view.seen) v
  pub rises : (j : ℕ) (v : PassView) → get_elem? s.views j ≡ some v → OwnRises v
  pub heard : (j : ℕ) (v : PassView) → get_elem? s.views j ≡ some v → Begins v.heard v.seen
  -- each place from the start on is an own place of one pass, once
  pub places : (x : ℕ) → own_times x s.views ≡ once_from view.base.from (length view.seen) x
  -- there are at most 1,024 parts, and where there are so many, each pass has one
  pub parts : all_parts s.views ≤ 1024
  pub each : all_parts s.views ≡ 1024 → (j : ℕ) (v : PassView) → get_elem? s.views j ≡ some v
      → (v ≡ spent) ⊎ (1 ≤ v.parts)
