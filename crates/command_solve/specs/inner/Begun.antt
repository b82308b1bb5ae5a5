-- The books of a run on its way, and the first lines of its text.
use Rattle.std.specs.Prelude.{◌≤◌, ◌≡◌, ℕ, ◌+◌, ◌*◌, List, length, ◌++◌, Option}
use Rattle.line_instance.specs.Line.{Line}
use Rattle.line_rules.specs.declared.types.LineKind.{LineKind}
use Rattle.line_rules.specs.declared.types.Entry.{Entry}
use Rattle.lemma_core.specs.Books.{BookView, IsReserved}
use Rattle.round_run.specs.Certified.{LeaveRoom}
use Rattle.round_run.specs.declared.plans.Plan.{Plan}
use Rattle.command_solve.specs.Effort.{SearchesFirst}
use Rattle.command_solve.specs.WarmStart.{Start, IsOpened, TakesOld, TakesSought, BeginsWith}
use Rattle.warm_book.specs.Warm.{Taking}
use Rattle.command_solve.specs.declared.warm_start.Taken.{Taken}

-- The book is about the line, has room for offers, and begins with such entries that a certificate has room for all,
-- and with its best balance. The entries and twice the units of the plan are at most 6,000,000, and the 101,025 of a
-- first search.
pub record IsBegun (kind : LineKind) (line : Line) (c : ℕ) (plan : Plan) (start : Start) (book : BookView)
    (first : List ℕ) : Type 0 where
  pub begins : BeginsWith kind line c plan start book.state.entries first book.state.best.stations
  pub about : book.about ≡ record { line = line; kind = kind; cycle = c }
  pub reserved : IsReserved book
  pub room : LeaveRoom line plan.units book.state.entries
  pub few : length book.state.entries + 2 * plan.units ≤ 6101025

-- the book took in the old entries, where there are any: it kept so many, with so many units, and the line says so
pub record IsTaken (N : ℕ) (book : BookView) (olds : Option (List Entry)) (taken : Taken) (said : List ℕ) : Type 0 where
  pub at : Taking
  pub took : TakesOld N book olds at said
  pub same_book : at.book ≡ taken.book
  pub same_kept : at.kept ≡ taken.kept
  pub same_units : at.units ≡ taken.units

-- What a run has before its seek: an empty book with the ranked balance took in the old entries, where there are any,
-- and went through a first search of so many units; 0 where there was none. It has room for offers.
pub record IsReady (kind : LineKind) (line : Line) (c : ℕ) (plan : Plan) (units : ℕ) (olds : Option (List Entry))
    (taken : Taken) (said : List ℕ) : Type 0 where
  pub book : BookView
  pub opened : IsOpened kind line c book
  pub at : Taking
  pub took : TakesOld plan.units book olds at said
  pub searches : SearchesFirst kind line c units plan at.book taken.book
  pub same_kept : at.kept ≡ taken.kept
  pub same_units : at.units ≡ taken.units
  pub about : taken.book.about ≡ record { line = line; kind = kind; cycle = c }
  pub reserved : IsReserved taken.book

-- a book took in the lemmas of a seek and was offered its balance, and this is the text with the line of the seek
-- behind it
pub record HasSoughtBehind (room limit : ℕ) (book final : BookView) (before first : List ℕ) : Type 0 where
  pub end : Taking
  pub said : List ℕ
  pub sought : TakesSought room limit book end said final.state.best.stations
  pub most : final.state.best.stations ≤ book.state.best.stations
  pub entries : final.state.entries ≡ end.book.state.entries
  pub about : final.about ≡ end.book.about
  pub behind : first ≡ before ++ said
