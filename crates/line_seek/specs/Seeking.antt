-- What a seek keeps on its way, and what it comes to.
use Rattle.std.specs.Prelude.{◌≡◌, ◌⊎◌, ℕ, ◌+◌, ◌<◌, ◌≤◌, Bool, List, [], length}
use Rattle.line_instance.specs.Line.{Line, tasks}
use Rattle.line_instance.specs.Truths.{IsSubset}
use Rattle.line_rules.specs.Balance.{IsRight, all_tasks}
use Rattle.line_rules.specs.Bounds.{bound}
use Rattle.line_rules.specs.Entries.{HasAnswer, IsDerived}
use Rattle.line_rules.specs.Pairs.{IsRefutedByPairs}
use Rattle.line_rules.specs.Ranges.{AreEntries, IsCycle}
use Rattle.line_rules.specs.Units.{UnitsOf}
use Rattle.line_rules.specs.declared.types.Balance.{Balance as Assignment}
use Rattle.line_rules.specs.declared.types.Entry.{Entry}
use Rattle.lemma_core.specs.Books.{BookView}
use Rattle.round_helpers.specs.Growth.{AreAtCycle}
use Rattle.line_seek.specs.inner.Aims.{asked_for}
use Rattle.line_seek.specs.inner.Tries.{Suits}
use Rattle.line_seek.specs.inner.Trying.{IsPaid}
use Rattle.line_seek.specs.declared.aims.Aim.{Aim}
use Rattle.line_seek.specs.declared.aims.Aim.TheVariants as aims
use Rattle.line_seek.specs.declared.seeking.Seeker.{Seeker}
use Rattle.line_seek.specs.declared.seeking.Sought.{Sought}
use Rattle.line_seek.specs.declared.seeking.Sought.TheVariants as sought

-- A seek on its way: its best balance is right; the entries of its scratch book and their units are paid for by the
-- loads that it listed, but for so many entries; and the next try suits the line's kind.
pub record IsSeeking (free : ℕ) (s : Seeker) : Type 0 where
  pub cycle : IsCycle s.scratch.about.cycle
  pub right : IsRight s.scratch.about.kind s.scratch.about.line s.scratch.about.cycle s.best
  pub paid : IsPaid s.scratch s.used (s.used + free)
  pub turn : Suits s.scratch.about.kind s.turn

-- what is said of a seek that was done
abbrev pub IfDone : Sought → (Assignment → List Entry → ℕ → Type 0) → Type 0
IfDone (sought.Done best lemmas used) P = P best lemmas used
IfDone sought.NoMemory P = Unit {0}

-- The lemmas of a seek that listed so many loads: entries of sets of the line's tasks, all at the cycle, with no more
-- units than loads, and at most one more of them.
pub record AreSought (line : Line) (c used : ℕ) (lemmas : List Entry) : Type 0 where
  pub ranges : used < 20000000 → AreEntries (tasks line) lemmas
  pub cycles : AreAtCycle c lemmas
  pub units : ℕ
  pub counted : UnitsOf line lemmas units
  pub paid : units ≤ used
  pub few : length lemmas ≤ used + 1

-- the lemmas of a seek are none, or they refute that all tasks have a balance in so many stations
abbrev pub RefuteIn : Line → ℕ → ℕ → List Entry → Type 0
RefuteIn line c most lemmas = (lemmas ≡ []) ⊎ HasAnswer lemmas (all_tasks line) most c

-- an entry of the book, or pairs of its line, refute that all tasks have a balance in so many stations
abbrev pub IsRefuted : BookView → ℕ → Type 0
IsRefuted book most =
    HasAnswer book.state.entries (all_tasks book.about.line) most book.about.cycle
    ⊎ ((hull : List Bool) × (two : List Bool) × IsSubset hull (all_tasks book.about.line)
    × IsRefutedByPairs book.about.kind book.about.line book.about.cycle hull most two)

-- it is known without a search that all tasks have no balance in so many stations: the bound of all tasks exceeds them,
-- or an entry of the book or pairs refute them
abbrev pub IsKnown : BookView → ℕ → Type 0
IsKnown book most =
    (most < bound book.about.kind book.about.line book.about.cycle (all_tasks book.about.line)) ⊎ IsRefuted book most

-- Why a seek with a limit on its loads ends without lemmas: all loads are used; its balance has no more stations than
-- are asked for; none are asked for; or it is known that all tasks have no balance in so many.
abbrev pub IsOver : BookView → ℕ → ℕ → Assignment → ℕ → Type 0
IsOver book limit asked best used =
    (limit ≤ used) ⊎ (best.stations ≤ asked) ⊎ (asked ≡ 0) ⊎ IsKnown book asked

-- What a seek with an aim over a book comes to, with a limit on its loads. Each lemma follows from those before it, and
-- one refutes as many stations as a try for the best balance asks for; and there are lemmas, unless nothing is left to
-- seek or all loads are used.
pub record HasSoughtFor (aim : Aim) (book : BookView) (limit : ℕ) (best : Assignment) (lemmas : List Entry)
    (used : ℕ) : Type 0 where
  pub within : used ≤ limit
  pub right : IsRight book.about.kind book.about.line book.about.cycle best
  pub few : best.stations ≤ book.state.best.stations
  pub sought : AreSought book.about.line book.about.cycle used lemmas
  pub derived : IsDerived book.about.kind book.about.line lemmas
  pub shown : RefuteIn book.about.line book.about.cycle (asked_for aim best.stations) lemmas
  pub over : lemmas ≡ [] → IsOver book limit (asked_for aim best.stations) best used

-- what a seek for a balance in fewer stations comes to
abbrev pub HasSought : BookView → ℕ → Assignment → List Entry → ℕ → Type 0
HasSought book limit best lemmas used = HasSoughtFor aims.Fewer book limit best lemmas used
