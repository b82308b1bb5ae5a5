-- A helper's desk at a shared book, and what becomes of a helper. Own.
use Rattle.std.specs.Prelude.{◌≡◌, ℕ, ◌+◌, ◌≤◌, List, [], ◌∷◌, length, slice_get, Some}
use Rattle.atomic_table.specs.Seated.{TableId}
use Rattle.line_instance.specs.Line.{Line}
use Rattle.line_rules.specs.Units.{UnitsOf}
use Rattle.lemma_core.specs.History.{Item, Begins}
use Rattle.lemma_core.specs.Desks.{DeskView, HasOwn}
use Rattle.lemma_core.specs.Own.{AreAt, added_of}
use Rattle.book_share.specs.Calls.{IsPassOf}
use Rattle.book_share.specs.Passes.{Base, PassView, PassOf, desk_by}
use Rattle.station_search.specs.declared.answers.Units.{Units}
use Rattle.round_helpers.specs.Growth.{AreAtCycle}
use Rattle.steal_pool.specs.Hands.{HandView}
use Rattle.round_helpers.specs.inner.Works.{IsEnd}
use Rattle.round_helpers.specs.declared.question_work.Question.{Question}
use Rattle.round_helpers.specs.declared.teams.Helper.{Helper}

-- the numbers by which a helper knows its pass again: the name of the loan of it, the length of the log at the start,
-- its parts, and its share
abbrev pub numbers_of : ℕ → TableId → PassView → List ℕ
numbers_of loan share v =
    loan ∷ v.base.from ∷ v.parts ∷ share.words ∷ share.slots ∷ share.views_name ∷ share.atom ∷ share.block
    ∷ share.offset ∷ share.slot_names

-- a pass as a helper's desk: it keeps those numbers
abbrev pub helper_desk : ℕ → TableId → PassView → DeskView
helper_desk loan share v = record (desk_by v) { kept = numbers_of loan share v }

-- A pass of a share that has no own places: what the share is about, what the pass has seen, and its parts.
pub record IsBare (share : TableId) (base : Base) (seen : List Item) (parts : ℕ) (p : PassOf) : Type 0 where
  pub pass : IsPassOf share p
  pub same : p.view.base ≡ base
  pub none : p.view.own ≡ []
  pub history : p.view.seen ≡ seen
  pub part : p.view.parts ≡ parts

-- A helper before its work: its pass is bare and has one part, this is its hand, and it has so many units, none of them
-- used.
pub record IsReady (share : TableId) (base : Base) (seen : List Item) (given : ℕ) (hand : HandView)
    (h : Helper) : Type 0 where
  pub bare : IsBare share base seen 1 h.pass
  pub own_hand : h.hand ≡ hand
  pub left : h.units.left ≡ given
  pub used : h.units.used ≡ 0

-- each helper is ready, with its hand and the units that are left to it
abbrev pub AreReady : TableId → Base → List Item → List Units → List HandView → List Helper → Type 0
AreReady share base seen us hands hs =
    (k : ℕ) (h : Helper) (u : Units) (v : HandView) → slice_get hs k ≡ Some h → slice_get us k ≡ Some u
    → slice_get hands k ≡ Some v → IsReady share base seen u.left v h

-- What the own events of a pass added, for so many units: entries of the cycle X, at most one for each unit, and with
-- no more units than these.
pub record HasAdded (line : Line) (X : ℕ) (v : PassView) (used : ℕ) : Type 0 where
  pub items : List Item
  pub there : AreAt v.seen v.own items
  pub cycles : AreAtCycle X (added_of items)
  pub few : length (added_of items) ≤ used
  pub published : ℕ
  pub units : UnitsOf line (added_of items) published
  pub within : published ≤ used

-- A helper after its work: its pass is the same one and has seen no less, its own events paid for the units used, and
-- its work ended so. It was given so many units.
pub record HasWorked (share : TableId) (base : Base) (seen : List Item) (line : Line) (question : Question)
    (given : ℕ) (h : Helper) : Type 0 where
  pub pass : IsPassOf share h.pass
  pub same : h.pass.view.base ≡ base
  pub part : h.pass.view.parts ≡ 1
  pub begins : Begins seen h.pass.view.seen
  pub added : HasAdded line question.cycle h.pass.view h.units.used
  pub ends : IsEnd (desk_by h.pass.view) line question h.units.left h.end
  pub sum : h.units.used + h.units.left ≡ given

-- each helper has worked, one for each as it was before
abbrev pub HaveAllWorked : TableId → Line → Question → List Helper → List Helper → Type 0
HaveAllWorked share line question before after =
    (k : ℕ) (a b : Helper) → slice_get before k ≡ Some a → slice_get after k ≡ Some b
    → HasWorked share a.pass.view.base a.pass.view.seen line question a.units.left b

-- each helper has worked, with the units that were left to it
abbrev pub HaveWorked : TableId → Base → List Item → Line → Question → List Units → List Helper → Type 0
HaveWorked share base seen line question us hs =
    (k : ℕ) (h : Helper) (u : Units) → slice_get hs k ≡ Some h → slice_get us k ≡ Some u
    → HasWorked share base seen line question u.left h

-- the units that helpers have used
abbrev pub used_by : List Helper → ℕ
used_by [] = 0
used_by (h ∷ hs) = h.units.used + used_by hs

-- The first pass with those of helpers joined into it: what any of them has seen begins what it has seen, and its own
-- places, which rise from the start of the share on, are those of all.
pub record HasJoined (share : TableId) (base : Base) (seen : List Item) (parts : ℕ) (line : Line) (X : ℕ)
    (hs : List Helper) (p : PassOf) : Type 0 where
  pub pass : IsPassOf share p
  pub same : p.view.base ≡ base
  pub part : p.view.parts ≡ parts + length hs
  pub begins : Begins seen p.view.seen
  pub own : HasOwn (desk_by p.view)
  pub behind : (k place : ℕ) → slice_get p.view.own k ≡ Some place → base.from ≤ place
  pub added : HasAdded line X p.view (used_by hs)
  pub each : (k : ℕ) (h : Helper) → slice_get hs k ≡ Some h → Begins h.pass.view.seen p.view.seen
