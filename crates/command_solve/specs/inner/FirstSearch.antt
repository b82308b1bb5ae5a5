-- What a first search comes to, over what a run has before it.
use Rattle.std.specs.Prelude.{◌≡◌, ◌≤◌, ℕ, List, string_bytes, Option}
use Rattle.line_instance.specs.Line.{Line}
use Rattle.lemma_core.specs.Books.{BookView, IsReserved, with_room}
use Rattle.line_rules.specs.declared.types.LineKind.{LineKind}
use Rattle.line_rules.specs.declared.types.Entry.{Entry}
use Rattle.line_rules.specs.declared.types.OpenFrame.{OpenFrame}
use Rattle.round_run.specs.Solving.{IsSolvedFrom, IsCutShortFrom}
use Rattle.round_run.specs.declared.plans.Plan.{Plan}
use Rattle.command_solve.specs.Effort.{first_plan}
use Rattle.command_solve.specs.inner.Begun.{IsReady}
use Rattle.command_solve.specs.declared.first_search.FirstSearch.{FirstSearch}
use Rattle.command_solve.specs.declared.first_search.FirstSearch.TheVariants as searched
use Rattle.command_solve.specs.declared.warm_start.Taken.{Taken}

-- the run goes on with this book, which has room for offers, and with what it had beside
pub record IsNext (book : BookView) (kept units : ℕ) (said : List ℕ) (next : Taken) : Type 0 where
  pub same_book : next.book ≡ with_room book next.book.room
  pub same_kept : next.kept ≡ kept
  pub same_units : next.units ≡ units
  pub same_said : string_bytes next.first ≡ said
  pub reserved : IsReserved next.book

-- the same, or memory is out
abbrev pub GoesOn : BookView → ℕ → ℕ → List ℕ → FirstSearch → Type 0
GoesOn book kept units said (searched.Open next) = IsNext book kept units said next
GoesOn book kept units said (searched.Solved done first) = ⊥
GoesOn book kept units said (searched.Memory lower done) = ⊥
GoesOn book kept units said searched.NoMemory = Unit {0}

-- What a first search of so many units comes to: an optimum, where there was one to search; what the run goes on with;
-- or, where memory ended it, its bounds. Out of memory before there are bounds is free.
abbrev pub IsSearchedFirst : LineKind → Line → ℕ → Plan → ℕ → Option (List Entry) → Taken → FirstSearch → Type 0
IsSearchedFirst kind line c plan units olds taken (searched.Solved book first) =
    (1 ≤ units) × IsSolvedFrom kind line c (first_plan units plan) taken.book.state.entries book
    × (string_bytes first ≡ string_bytes taken.first)
IsSearchedFirst kind line c plan units olds taken (searched.Open next) =
    IsReady kind line c plan units olds next (string_bytes next.first)
IsSearchedFirst kind line c plan units olds taken (searched.Memory lower book) =
    (trail : List OpenFrame)
    × IsCutShortFrom kind line c units taken.book.state.entries taken.book.state.best.stations lower book trail
IsSearchedFirst kind line c plan units olds taken searched.NoMemory = Unit {0}
