-- What `cycle` comes to, and what it promises.
use Rattle.std.specs.Prelude.{◌≡◌, ◌≤◌, ◌⊎◌, ℕ, List, length, ◌++◌, Option}
use Rattle.line_instance.specs.Line.{Line}
use Rattle.line_rules.specs.Bounds.{idle_time}
use Rattle.line_rules.specs.Laws.{IsProved}
use Rattle.line_rules.specs.declared.types.LineKind.{LineKind}
use Rattle.line_rules.specs.declared.types.Balance.{Balance as Assignment}
use Rattle.line_rules.specs.declared.types.Ask.TheVariants as ask
use Rattle.line_rules.specs.declared.types.Certificate.{Certificate}
use Rattle.cert_text.specs.Cert.{cert_text}
use Rattle.cycle_search.specs.rounds.declared.plans.Plan.{Plan}
use Rattle.cycle_search.specs.CycleCertified.{IsOptimum, IsStop}
use Rattle.cycle_search.specs.Ends.{first_lower, first_upper}
use Rattle.cycle_search.specs.Seek.{AreSeeks}
use Rattle.cycle_search.specs.declared.seek.Seeks.{Seeks}
use Rattle.command_outcome.specs.Bounds.{seek_text}
use Rattle.command_outcome.specs.Found.{Search, IsAnswer, IsFiled}
use Rattle.command_outcome.specs.Outcome.{Files, Outside, Outcome}
use Rattle.command_outcome.specs.declared.report.Kept.{Kept}
use Rattle.command_outcome.specs.declared.report.Kept.TheVariants.{Line as Certified}
use Rattle.command_outcome.specs.declared.status.Status.{Status}
use Rattle.input_files.specs.InputFile.{max_certificate}
use Rattle.input_files.specs.Instance.{IsPlainLine, IsNoPlainLine, naming_of}
use Rattle.command_cycle.specs.CycleText.{optimal_text, stopped_text}
use Rattle.task_names.specs.declared.naming.Naming.{Naming}

-- The least cycle: the balance that is printed is right at it, and the certificate proves it. The line before it tells
-- of the seeks, where the plan has them. With at most 1,000,000 units a try, the check reads files of the certificate's
-- length.
pub record IsOptimal (naming : Naming) (kind : LineKind) (line : Line) (m : ℕ) (plan : Plan) (cert : Certificate)
    (text : List ℕ) : Type 0 where
  pub cycle : ℕ
  pub balance : Assignment
  pub proved : IsOptimum kind line m plan cycle balance cert
  pub fits : plan.units ≤ 1000000 → length (cert_text cert) ≤ max_certificate
  pub seeks : Seeks
  pub counted : AreSeeks plan seeks
  pub printed : text ≡ seek_text plan.seek seeks.used seeks.most seeks.kept
      ++ optimal_text naming kind cycle balance (idle_time line cycle m)

-- The units of a tried cycle were used: the bounds that are printed, and the balance at the upper one, are those of the
-- certificate, which lists the units. The line before them tells of the seeks, where the plan has them. With at most
-- 1,000,000 units a try, the check reads files of the certificate's length.
pub record IsStopped (naming : Naming) (kind : LineKind) (line : Line) (m : ℕ) (plan : Plan) (cert : Certificate)
    (text : List ℕ) : Type 0 where
  pub lower : ℕ
  pub upper : ℕ
  pub balance : Assignment
  pub proved : IsStop kind line m plan lower upper balance cert
  pub fits : plan.units ≤ 1000000 → length (cert_text cert) ≤ max_certificate
  pub seeks : Seeks
  pub counted : AreSeeks plan seeks
  pub printed : text ≡ seek_text plan.seek seeks.used seeks.most seeks.kept
      ++ stopped_text naming kind lower upper balance (idle_time line upper m)

-- Bounds of a search that memory ended: they are true. The lower one is at least the first lower end, and the upper one
-- at most the first upper end. (Own.)
pub record AreBounds (kind : LineKind) (line : Line) (m lower upper : ℕ) : Type 0 where
  pub true_bounds : IsProved kind line (ask.Cycle m) lower upper
  pub from : first_lower line m ≤ lower
  pub most : upper ≤ first_upper line

-- the search for the least cycle in m stations by a plan: it answers by the certificate of a line
abbrev pub least_cycle : Naming → LineKind → Line → ℕ → Plan → Search
least_cycle naming kind line m plan = record {
  Cert = Certificate;
  keep = λ cert. Certified cert;
  tell = cert_text;
  Solved = IsOptimal naming kind line m plan;
  Stopped = IsStopped naming kind line m plan;
  Bounds = AreBounds kind line m;
}

-- the file says the line, and this is answered of it
pub record IsAnswered (files : Files) (file : List ℕ) (kind : LineKind) (m : ℕ) (plan : Plan) (name : Option (List ℕ))
    (out : Outcome) : Type 0 where
  pub line : Line
  pub said : IsPlainLine files file line
  pub answer : IsAnswer (least_cycle (naming_of files file) kind line m plan) name out

-- What `cycle` comes to for m stations by a plan, which has units for each cycle that is tried: an answer, or why the
-- file says no line of which no two tasks are apart.
abbrev pub IsCycleOutcome : Outside → List ℕ → LineKind → ℕ → Plan → Option (List ℕ) → Outcome → Type 0
IsCycleOutcome o file kind m plan name out = IsAnswered o.files file kind m plan name out ⊎ IsNoPlainLine o file out

-- What `cycle` promises with status 0 or 1, for the line that the file says: what is printed is shown by a certificate,
-- which is kept, and written where the words name a file.
pub record IsCyclePromised (files after : Files) (file : List ℕ) (kind : LineKind) (m : ℕ) (plan : Plan)
    (name : Option (List ℕ)) (status : Status) (text : List ℕ) (kept : Kept) : Type 0 where
  pub line : Line
  pub said : IsPlainLine files file line
  pub filed : IsFiled (least_cycle (naming_of files file) kind line m plan) name after status text kept
