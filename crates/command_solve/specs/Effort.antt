-- What a run of `solve` spends before its search: a first search, and a seek. (Own.)
use Rattle.std.specs.Prelude.{◌≡◌, ◌≤◌, ℕ, zero, suc, ◌+◌, ◌*◌, List}
use Rattle.line_instance.specs.Line.{Line}
use Rattle.line_rules.specs.declared.types.LineKind.{LineKind}
use Rattle.line_rules.specs.declared.types.OpenFrame.{OpenFrame}
use Rattle.lemma_core.specs.Books.{BookView}
use Rattle.round_run.specs.Solving.{IsSpentFrom}
use Rattle.round_run.specs.declared.plans.Plan.{Plan}
use Rattle.command_solve.specs.declared.effort.Effort.{Effort}

-- a first search of at most 50,000 units, and a seek of at most 3,000,000 loads; 0 for none
pub record IsEffort (effort : Effort) : Type 0 where
  pub first : effort.first ≤ 50000
  pub seek : effort.seek ≤ 3000000

-- The plan of a first search of so many units: it has no helpers, and asks pairs where the plan of the run does.
abbrev pub first_plan : ℕ → Plan → Plan
first_plan units plan = record { helpers = 0; units = units; pairs = plan.pairs; seek = 0 }

-- the most entries that a first search of so many units adds to a book: none where there is none
abbrev pub first_room : ℕ → ℕ
first_room zero = 0
first_room (suc less) = 2 * suc less + 1025

-- A first search of so many units began with a book and left another one: it used its units, and its bounds differ.
-- What is kept of it are the entries of that book and its best balance.
pub record HasStoppedFirst (kind : LineKind) (line : Line) (c units : ℕ) (plan : Plan) (book mid : BookView) : Type 0 where
  pub lower : ℕ
  pub trail : List OpenFrame
  pub spent : IsSpentFrom kind line c (first_plan units plan) book.state.entries book.state.best.stations lower mid
      trail

-- the same where there is a first search; where there is none, the book stays
abbrev pub SearchesFirst : LineKind → Line → ℕ → ℕ → Plan → BookView → BookView → Type 0
SearchesFirst kind line c zero plan book mid = mid ≡ book
SearchesFirst kind line c (suc less) plan book mid = HasStoppedFirst kind line c (suc less) plan book mid
