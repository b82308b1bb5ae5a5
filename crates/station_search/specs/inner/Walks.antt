-- What the walks over a frame's loads come to, beside others.
use Rattle.std.specs.Prelude.{◌≡◌, ℕ, ◌+◌, ◌≤◌, List, [], ◌∷◌, Option, Some, None}
use Rattle.line_instance.specs.Line.{Line}
use Rattle.line_rules.specs.declared.types.LineKind.{LineKind}
use Rattle.line_rules.specs.declared.types.Mode.{Mode}
use Rattle.line_rules.specs.declared.types.OpenFrame.{OpenFrame}
use Rattle.lemma_core.specs.Desks.{DeskView, entries, Waits}
use Rattle.station_search.specs.Decide.{IsAnswered}
use Rattle.station_search.specs.inner.Work.{DoesFew}
use Rattle.station_search.specs.declared.searching_beside.Walk.{Walk}
use Rattle.station_search.specs.declared.searching_beside.Walk.TheVariants as walk

-- P holds, unless a load was put off in the walk
abbrev pub IfWhole : Walk → Type 0 → Type 0
IfWhole walk.First P = P
IfWhole walk.Gapped P = Unit {0}
IfWhole walk.Second P = P

-- how many walks over the loads of a frame may still be begun, by the walk that it is in
abbrev pub walks_left : Walk → ℕ
walks_left walk.First = 1
walks_left walk.Gapped = 1
walks_left walk.Second = 0

abbrev pub all_left : List Walk → ℕ
all_left [] = 0
all_left (w ∷ ws) = walks_left w + all_left ws

-- the frame before its first load
abbrev pub unlisted : OpenFrame → OpenFrame
unlisted f = record { set = f.set; most = f.most; mode = f.mode; last = None; cites = [] }

-- What came of a frame whose loads ended: an entry answers its question; or a load was put off, no event was added, and
-- the frame stands before its first load again.
abbrev pub Settles : ℕ → DeskView → DeskView → OpenFrame → OpenFrame → Walk → Option ℕ → Type 0
Settles X old new f g w (Some id) = IsAnswered (entries new) id f.set f.most X
Settles X old new f g w None = Waits old new × (w ≡ walk.Gapped) × (g ≡ unlisted f)

-- a frame that is refuted paid so much at most, with one entry at most
abbrev pub PaysFor : Option Mode → LineKind → Line → ℕ → DeskView → DeskView → ℕ → Option ℕ → Type 0
PaysFor asked kind line X old new n (Some id) = (m : ℕ) × ((m ≤ n) × DoesFew asked kind line X old new 1 m)
PaysFor asked kind line X old new n None = Unit {0}
