-- What `effic` comes to, and what it promises where it answers with status 0 or 1.
use Rattle.std.specs.Prelude.{◌≡◌, ◌⊎◌, ◌≤◌, ℕ, List, ◌++◌, length, Option}
use Rattle.line_instance.specs.Line.{Line}
use Rattle.line_rules.specs.Bounds.{idle_time}
use Rattle.line_rules.specs.declared.types.LineKind.{LineKind}
use Rattle.line_rules.specs.declared.products.EfficCert.{EfficCert}
use Rattle.effic_search.specs.rounds.declared.plans.Plan.{Plan}
use Rattle.effic_search.specs.Outcomes.{IsSolved, StoppedBy, IsCutShort}
use Rattle.effic_search.specs.cycles.Seek.{AreSeeks}
use Rattle.effic_search.specs.cycles.declared.seek.Seeks.{Seeks}
use Rattle.effic_search.specs.declared.searching.Ended.{Ended}
use Rattle.command_outcome.specs.Bounds.{seek_text}
use Rattle.command_outcome.specs.Found.{Search, IsAnswer, IsFiled}
use Rattle.command_outcome.specs.Outcome.{Files, Outside, Outcome}
use Rattle.command_outcome.specs.declared.report.Kept.{Kept}
use Rattle.command_outcome.specs.declared.report.Kept.TheVariants.{Product}
use Rattle.command_outcome.specs.declared.status.Status.{Status}
use Rattle.input_files.specs.InputFile.{max_certificate}
use Rattle.input_files.specs.Instance.{IsPlainLine, IsNoPlainLine, naming_of}
use Rattle.effic_cert.specs.Product.{product_text}
use Rattle.command_effic.specs.EfficText.{optimal_text, stopped_text}
use Rattle.task_names.specs.declared.naming.Naming.{Naming}

-- the time of the stations of the balance that no task uses
abbrev pub idle_of : Line → EfficCert → ℕ
idle_of line cert = idle_time line cert.cycle cert.balance.stations

-- The least product: the certificate proves it, and what is printed are its product and its balance. The line before
-- them tells of the seeks, where the plan has them. With at most 1,000,000 units a try, the check reads files of the
-- certificate's length.
pub record IsOptimal (naming : Naming) (kind : LineKind) (line : Line) (least most : ℕ) (plan : Plan) (cert : EfficCert)
    (text : List ℕ) : Type 0 where
  pub seeks : Seeks
  pub solved : IsSolved kind line least most plan cert seeks.kept
  pub fits : plan.units ≤ 1000000 → length (product_text cert) ≤ max_certificate
  pub counted : AreSeeks plan seeks
  pub printed : text ≡ seek_text plan.seek seeks.used seeks.most seeks.kept
      ++ optimal_text naming cert (idle_of line cert)

-- The search stopped: the certificate says why, and what is printed are its bounds and its balance. The line before
-- them tells of the seeks, where the plan has them. The units are counted from the entry `closing_from` on. With at
-- most 1,000,000 units a try, the check reads files of the certificate's length.
pub record IsStopped (naming : Naming) (kind : LineKind) (line : Line) (least most : ℕ) (plan : Plan) (cert : EfficCert)
    (text : List ℕ) : Type 0 where
  pub why : Ended
  pub closing_from : ℕ
  pub seeks : Seeks
  pub stopped : StoppedBy why kind line least most plan cert closing_from seeks.kept
  pub fits : plan.units ≤ 1000000 → length (product_text cert) ≤ max_certificate
  pub counted : AreSeeks plan seeks
  pub printed : text ≡ seek_text plan.seek seeks.used seeks.most seeks.kept
      ++ stopped_text naming why cert (idle_of line cert)

-- the search for the least product in `least` to `most` stations, which answers by certificates of products
abbrev pub least_product : Naming → LineKind → Line → ℕ → ℕ → Plan → Search
least_product naming kind line least most plan = record {
  Cert = EfficCert;
  keep = Product;
  tell = product_text;
  Solved = IsOptimal naming kind line least most plan;
  Stopped = IsStopped naming kind line least most plan;
  Bounds = IsCutShort kind line least most;
}

-- the file says the line, and this is answered of it
pub record IsAnswered (files : Files) (file : List ℕ) (kind : LineKind) (least most : ℕ) (plan : Plan)
    (name : Option (List ℕ)) (out : Outcome) : Type 0 where
  pub line : Line
  pub said : IsPlainLine files file line
  pub answer : IsAnswer (least_product (naming_of files file) kind line least most plan) name out

-- What `effic` comes to for `least` to `most` stations, by a plan with units for each cycle that is tried. It is an
-- answer, or why the file says no line of which no two tasks are apart.
abbrev pub IsEfficOutcome : Outside → List ℕ → LineKind → ℕ → ℕ → Plan → Option (List ℕ) → Outcome → Type 0
IsEfficOutcome o file kind least most plan name out =
    IsAnswered o.files file kind least most plan name out ⊎ IsNoPlainLine o file out

-- The promise of `effic` for the line that the file says: it is solved, or the search stopped. The certificate of that
-- is kept, and written where the words name a file.
pub record IsEfficPromised (files after : Files) (file : List ℕ) (kind : LineKind) (least most : ℕ) (plan : Plan)
    (name : Option (List ℕ)) (status : Status) (text : List ℕ) (kept : Kept) : Type 0 where
  pub line : Line
  pub said : IsPlainLine files file line
  pub filed : IsFiled (least_product (naming_of files file) kind line least most plan) name after status text kept
