-- What contracts see of a pass, with which a caller works on a shared book. Own.
use Rattle.std.specs.Prelude.{ℕ, false, true, List, []}
use Rattle.atomic_table.specs.Seated.{TableId}
use Rattle.lemma_core.specs.Machine.{About}
use Rattle.lemma_core.specs.History.{Item, Standing}
use Rattle.lemma_core.specs.Desks.{DeskView}

-- Where a pass stands: between two calls; in a turn, with the book in hand; behind the step that recorded an event;
-- behind the one that lowered the least count; or joined into another pass.
pub data Phase : Type 0 where
  Idle : Phase
  Holding : Phase
  Recorded : Phase
  Lowered : Phase
  Spent : Phase

-- What all passes of one share have in common: what the book is about, the state that it opened with, and the length
-- of its log when the share was started.
pub record Base : Type 0 where
  pub about : About
  pub opening : Standing
  pub from : ℕ

-- What a pass knows: the list of events that it has seen, which begins the one history; which places of it are its
-- own; the shorter list that its last join brought; how often it tried to take the turn, and the turn word that the
-- last try found, 0 free and 1 held; how often it loaded a word, and what the last load found; its parts of the right
-- to all places; and its phase.
pub record PassView : Type 0 where
  pub base : Base
  pub seen : List Item
  pub own : List ℕ
  pub heard : List Item
  pub tries : ℕ
  pub met : ℕ
  pub reads : ℕ
  pub read : ℕ
  pub parts : ℕ
  pub phase : Phase

-- a pass: of which share it is, and what it knows
pub record PassOf : Type 0 where
  pub share : TableId
  pub view : PassView

-- a pass as a desk: it isn't alone, and the room for offers was made
abbrev pub desk_by : PassView → DeskView
desk_by v = record {
  about = v.base.about;
  opening = v.base.opening;
  seen = v.seen;
  own = v.own;
  alone = false;
  roomy = true;
  kept = [];
}
