-- What `solve` comes to, and what it promises.
use Rattle.std.specs.Prelude.{◌≤◌, ◌≡◌, ◌⊎◌, ℕ, List, length, ◌++◌, Option}
use Rattle.line_instance.specs.Line.{Line, time}
use Rattle.line_rules.specs.Balance.{all_tasks}
use Rattle.line_rules.specs.Bounds.{bound, idle_time, IsTooLong}
use Rattle.line_rules.specs.Checked.{IsLeastWhere}
use Rattle.line_rules.specs.Laws.{IsProved}
use Rattle.line_rules.specs.Ranked.{IsRankedBalance}
use Rattle.line_rules.specs.declared.types.LineKind.{LineKind}
use Rattle.line_rules.specs.declared.types.Balance.{Balance as Assignment}
use Rattle.line_rules.specs.declared.types.Entry.{Entry}
use Rattle.line_rules.specs.declared.types.Ask.TheVariants as ask
use Rattle.line_rules.specs.declared.types.Certificate.{Certificate}
use Rattle.cert_text.specs.Cert.{cert_text}
use Rattle.round_run.specs.Certified.{IsOptimumFrom, IsStopFrom, IsNoBalance}
use Rattle.round_run.specs.declared.plans.Plan.{Plan}
use Rattle.command_outcome.specs.Found.{Search, IsAnswer, IsFiled}
use Rattle.command_outcome.specs.Outcome.{Files, Outside, Outcome}
use Rattle.command_outcome.specs.declared.report.Kept.{Kept}
use Rattle.command_outcome.specs.declared.report.Kept.TheVariants.{Line as Certified}
use Rattle.command_outcome.specs.declared.status.Status.{Status}
use Rattle.input_files.specs.InputFile.{max_certificate}
use Rattle.input_files.specs.Instance.{IsSaid, IsUnsaid, naming_of}
use Rattle.station_report.specs.InfeasibleText.{infeasible_text}
use Rattle.lemma_core.specs.Books.{BookView}
use Rattle.warm_book.specs.Warm.{Taking}
use Rattle.command_solve.specs.Effort.{first_plan}
use Rattle.command_solve.specs.WarmStart.{AreOld, IsUnwarmed, Start, BeginsWith, IsOpened, TakesOld}
use Rattle.command_solve.specs.declared.effort.Effort.{Effort}
use Rattle.command_solve.specs.SolutionText.{optimal_text, stopped_text}
use Rattle.task_names.specs.declared.naming.Naming.{Naming}

-- An optimum, of a search of this plan that began with these entries. Behind these first lines the balance is printed.
-- It has the least number of stations, and the certificate proves it. The check reads files of this length.
pub record IsToldOptimal (naming : Naming) (kind : LineKind) (line : Line) (c : ℕ) (plan : Plan) (before : List Entry)
    (first : List ℕ) (cert : Certificate) (text : List ℕ) : Type 0 where
  pub balance : Assignment
  pub proved : IsOptimumFrom kind line c plan before balance cert
  pub fits : length (cert_text cert) ≤ max_certificate
  pub printed : text ≡ first ++ optimal_text naming kind balance (idle_time line c balance.stations)

-- The optimum: the search of a run found it, which began with these entries and these first lines.
pub record IsOptimal (naming : Naming) (kind : LineKind) (line : Line) (c : ℕ) (plan : Plan) (start : Start)
    (cert : Certificate) (text : List ℕ) : Type 0 where
  pub before : List Entry
  pub first : List ℕ
  pub top : ℕ
  pub begins : BeginsWith kind line c plan start before first top
  pub told : IsToldOptimal naming kind line c plan before first cert text

-- The optimum: the first search of a run found it, where the run has one. It began with a book that took in the old
-- entries alone, and nothing is told of a seek.
pub record IsOptimalAtFirst (naming : Naming) (kind : LineKind) (line : Line) (c : ℕ) (plan : Plan) (start : Start)
    (cert : Certificate) (text : List ℕ) : Type 0 where
  pub has : 1 ≤ start.effort.first
  pub book : BookView
  pub opened : IsOpened kind line c book
  pub at : Taking
  pub warm_said : List ℕ
  pub took : TakesOld plan.units book start.olds at warm_said
  pub told : IsToldOptimal naming kind line c (first_plan start.effort.first plan) at.book.state.entries warm_said cert
      text

-- There is no balance: the least task that is longer than the cycle is printed, and the certificate names it. The check
-- reads files of this length.
pub record IsInfeasible (naming : Naming) (kind : LineKind) (line : Line) (c : ℕ) (cert : Certificate) (text : List ℕ)
    : Type 0 where
  pub task : ℕ
  pub least : IsLeastWhere (IsTooLong line c) task
  pub proved : IsNoBalance kind line c task cert
  pub fits : length (cert_text cert) ≤ max_certificate
  pub printed : text ≡ infeasible_text naming task (time line task)

-- The units of the plan were used. The search of a run began with these entries and these first lines, and behind the
-- lines the bounds and the balance of the certificate are printed. It lists the units. The balance has no more stations
-- than the run began with. The check reads files of this length.
pub record IsStopped (naming : Naming) (kind : LineKind) (line : Line) (c : ℕ) (plan : Plan) (start : Start)
    (cert : Certificate) (text : List ℕ) : Type 0 where
  pub before : List Entry
  pub first : List ℕ
  pub top : ℕ
  pub begins : BeginsWith kind line c plan start before first top
  pub lower : ℕ
  pub balance : Assignment
  pub few : balance.stations ≤ top
  pub proved : IsStopFrom kind line c plan before lower balance cert
  pub fits : length (cert_text cert) ≤ max_certificate
  pub printed : text ≡ first ++ stopped_text naming kind lower balance (idle_time line c balance.stations)

-- Bounds of a run that memory ended: they are true. The lower one is at least the bound of all tasks, and the upper one
-- at most the stations of the ranked balance. (Own.)
pub record AreBounds (kind : LineKind) (line : Line) (c lower upper : ℕ) : Type 0 where
  pub true_bounds : IsProved kind line (ask.Stations c) lower upper
  pub from : bound kind line c (all_tasks line) ≤ lower
  pub first : Assignment
  pub ranked : IsRankedBalance kind line c first
  pub most : upper ≤ first.stations

-- The search for the fewest stations of a line at a cycle. It is solved by an optimum, or where there is no balance.
abbrev pub fewest_stations : Naming → LineKind → Line → ℕ → Plan → Start → Search
fewest_stations naming kind line c plan start = record {
  Cert = Certificate;
  keep = λ cert. Certified cert;
  tell = cert_text;
  Solved = λ cert text. IsOptimal naming kind line c plan start cert text
      ⊎ IsOptimalAtFirst naming kind line c plan start cert text ⊎ IsInfeasible naming kind line c cert text;
  Stopped = IsStopped naming kind line c plan start;
  Bounds = AreBounds kind line c;
}

-- the files say the line, the cycle time and the old entries, where there are any, and this is answered of them
pub record IsAnswered (files : Files) (file : List ℕ) (apart warm : Option (List ℕ)) (effort : Effort)
    (word : Option ℕ) (kind : LineKind) (plan : Plan) (name : Option (List ℕ)) (out : Outcome) : Type 0 where
  pub line : Line
  pub c : ℕ
  pub said : IsSaid files file apart word line c
  pub olds : Option (List Entry)
  pub old : AreOld files warm kind line olds
  pub answer : IsAnswer
      (fewest_stations (naming_of files file) kind line c plan (record { olds = olds; effort = effort })) name out

-- the files say the line and the cycle time, and the file of the old certificate says none to begin with
pub record IsSaidUnwarmed (o : Outside) (file : List ℕ) (apart warm : Option (List ℕ)) (word : Option ℕ)
    (kind : LineKind) (out : Outcome) : Type 0 where
  pub line : Line
  pub c : ℕ
  pub said : IsSaid o.files file apart word line c
  pub unwarmed : IsUnwarmed o warm kind line out

-- What `solve` comes to with a plan, and with what it spends before: an answer; why the files say no line with a cycle
-- time; or why the old certificate is refused. A later file is named only where the earlier ones were read.
abbrev pub IsSolveOutcome : Outside → List ℕ → Option (List ℕ) → Option (List ℕ) → Effort → Option ℕ → LineKind → Plan
    → Option (List ℕ) → Outcome → Type 0
IsSolveOutcome o file apart warm effort word kind plan name out =
    IsAnswered o.files file apart warm effort word kind plan name out ⊎ IsUnsaid o file apart word out
    ⊎ IsSaidUnwarmed o file apart warm word kind out

-- The promise of `solve`, where it answers with status 0 or 1. The files say the line, the cycle time and the old
-- entries, and what is printed is found of these. Its certificate is kept, and written where the words name a file.
pub record IsPromised (files after : Files) (file : List ℕ) (apart warm : Option (List ℕ)) (effort : Effort)
    (word : Option ℕ) (kind : LineKind) (plan : Plan) (name : Option (List ℕ)) (status : Status) (text : List ℕ)
    (kept : Kept) : Type 0 where
  pub line : Line
  pub c : ℕ
  pub said : IsSaid files file apart word line c
  pub olds : Option (List Entry)
  pub old : AreOld files warm kind line olds
  pub filed : IsFiled
      (fewest_stations (naming_of files file) kind line c plan (record { olds = olds; effort = effort })) name after
      status text kept
