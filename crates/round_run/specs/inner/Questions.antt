-- A run over the questions of a line at a cycle, and where it ends.
use Rattle.std.specs.Prelude.{◌≡◌, ℕ, ◌+◌, ◌-◌, ◌<◌, ◌≤◌, List, [], ◌++◌, length, Option, Some, None}
use Rattle.line_instance.specs.Line.{Line, tasks}
use Rattle.line_rules.specs.Balance.{all_tasks}
use Rattle.line_rules.specs.Entries.{HasAnswer, IsUnanswered}
use Rattle.line_rules.specs.Trails.{IsTrail, IsOpenOver}
use Rattle.line_rules.specs.Units.{UnitsOf, UnitsIn}
use Rattle.line_rules.specs.declared.types.LineKind.{LineKind}
use Rattle.line_rules.specs.declared.types.Entry.{Entry}
use Rattle.line_rules.specs.declared.types.OpenFrame.{OpenFrame}
use Rattle.lemma_core.specs.Books.{BookView, IsReserved}
use Rattle.round_helpers.specs.Growth.{AreAtCycle}
use Rattle.round_run.specs.declared.solving.Cause.{Cause}
use Rattle.round_run.specs.declared.solving.Cause.TheVariants as cause
use Rattle.round_run.specs.declared.questions.Asked.{Asked}
use Rattle.round_run.specs.declared.questions.Stop.{Stop}
use Rattle.round_run.specs.declared.closing.Verdict.{Verdict}
use Rattle.round_run.specs.declared.closing.Verdict.TheVariants as verdict

-- A run from the question `first` on, whose next question is `lower`: behind the entries with which it began, the book
-- has those that the run added, each at the cycle; an entry refutes the question before the next one, where there is
-- one; and the best balance has at most `top` stations, as many as the run began with.
pub record IsRun (kind : LineKind) (line : Line) (c : ℕ) (before added : List Entry) (top first lower : ℕ)
    (book : BookView) : Type 0 where
  pub about : book.about ≡ record { line = line; kind = kind; cycle = c }
  pub entries : book.state.entries ≡ before ++ added
  pub cycles : AreAtCycle c added
  pub some : 1 ≤ first
  pub from : first ≤ lower
  pub up_to : lower ≤ tasks line
  pub refuted : first < lower → HasAnswer book.state.entries (all_tasks line) (lower - 1) c
  pub best : book.state.best.stations ≤ top
  pub reserved : IsReserved book

-- A run with what it paid: the entries that it added have at least as many units as the closing passes used, and at
-- most as many as these and the helpers together. They are at most as many, with one more for each question that was
-- refuted.
pub record IsPaid (kind : LineKind) (line : Line) (c : ℕ) (before : List Entry) (top first lower used helped : ℕ)
    (book : BookView) : Type 0 where
  pub added : List Entry
  pub run : IsRun kind line c before added top first lower book
  pub published : ℕ
  pub units : UnitsOf line added published
  pub least : used ≤ published
  pub most : published ≤ used + helped
  pub few : length added + first ≤ used + helped + lower

-- the open frames where it stopped
abbrev pub trail_of : Option Stop → List OpenFrame
trail_of None = []
trail_of (Some stop) = stop.trail

-- a run stops for this cause, with these open frames
abbrev pub stop_by : Cause → List OpenFrame → Option Stop
stop_by why trail = Some (record { cause = why; trail = trail })

-- where a run stops with the answer to a question that was not refuted
abbrev pub stop_of : Verdict → Option Stop
stop_of verdict.Refuted = None
stop_of verdict.Found = None
stop_of (verdict.Spent frames) = stop_by cause.Units frames
stop_of (verdict.NoMemory frames) = stop_by cause.Memory frames

-- Units ended: at least N are listed, the trail of the search is valid from the next question and open over the book,
-- and no entry of the book answers that question.
abbrev pub StopsBy : LineKind → Line → ℕ → ℕ → ℕ → BookView → ℕ → Cause → List OpenFrame → Type 0
StopsBy kind line c N lower book listed cause.Units trail =
    (N ≤ listed) × IsTrail kind line c book.state.entries (all_tasks line) lower trail
    × IsOpenOver line c book.state.entries trail × IsUnanswered book.state.entries (all_tasks line) lower c
StopsBy kind line c N lower book listed cause.Memory trail = Unit {0}

-- The best balance has at most as many stations as the next question asks for; or the run stopped below it.
abbrev pub EndsBy : LineKind → Line → ℕ → ℕ → ℕ → BookView → ℕ → Option Stop → Type 0
EndsBy kind line c N lower book listed None = book.state.best.stations ≤ lower
EndsBy kind line c N lower book listed (Some stop) =
    (lower < book.state.best.stations) × StopsBy kind line c N lower book listed stop.cause stop.trail

-- A run whose questions ended, with N units for its closing passes and `helpers` for all its helpers: the entries that
-- it added and the open frames have no more units than these together.
pub record HasAsked (kind : LineKind) (line : Line) (c : ℕ) (before : List Entry) (top N helpers first : ℕ)
    (asked : Asked) : Type 0 where
  pub added : List Entry
  pub run : IsRun kind line c before added top first asked.lower asked.book
  pub few : length added ≤ N + helpers + asked.lower
  pub published : ℕ
  pub listed : ℕ
  pub entry_units : UnitsOf line added published
  pub frame_units : UnitsIn line c (trail_of asked.stop) listed
  pub within : published + listed ≤ N + helpers
  pub ends : EndsBy kind line c N asked.lower asked.book (published + listed) asked.stop
