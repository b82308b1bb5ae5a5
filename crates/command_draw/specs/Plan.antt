-- What `plan` comes to.
use Rattle.std.specs.Prelude.{◌≡◌, ◌⊎◌, ℕ, Bool, List, [], Option}
use Rattle.line_instance.specs.Line.{Line, tasks}
use Rattle.line_rules.specs.Accepted.{upper_cycle}
use Rattle.line_rules.specs.declared.types.Ask.{Ask}
use Rattle.line_rules.specs.declared.types.Claim.{Claim}
use Rattle.line_rules.specs.declared.types.Claim.TheVariants.{TooLong, Bounds}
use Rattle.line_rules.specs.declared.types.Certificate.{Certificate}
use Rattle.task_names.specs.Naming.{names_for}
use Rattle.balance_plan.specs.Plan.{plan_text}
use Rattle.balance_plan.specs.PlanFacts.{IsTruePlan}
use Rattle.command_outcome.specs.Outcome.{Files, Outside, Outcome, told}
use Rattle.command_outcome.specs.declared.status.Status.TheVariants as ends
use Rattle.input_files.specs.Instance.{IsLineOf, naming_of}
use Rattle.input_files.specs.Certificate.{IsCertificateOf}
use Rattle.input_files.specs.Sheet.{is_marked_in, mark_in}
use Rattle.command_draw.specs.Drawable.{IsDrawable, IsNotShown}

-- the plan of what is claimed; there is none of a task that is too long
abbrev pub claim_plan : Line → List (List ℕ) → ℕ → Bool → Ask → Claim → List ℕ
claim_plan line names mark bom a (TooLong task) = []
claim_plan line names mark bom a (Bounds lower upper b es trail) = plan_text line names (upper_cycle a upper) b mark bom

-- the plan of what is claimed is true of the line
abbrev pub ClaimIsPlanned : Line → Ask → Claim → Type 0
ClaimIsPlanned line a (TooLong task) = Unit {0}
ClaimIsPlanned line a (Bounds lower upper b es trail) = IsTruePlan line (upper_cycle a upper) b

-- the plan of a certificate for the line of a file, with the file's names, its mark and its byte-order mark
abbrev pub plan_of : Files → List ℕ → Line → Certificate → List ℕ
plan_of files name line cert =
    claim_plan line (names_for (naming_of files name) (tasks line)) (mark_in (files name)) (is_marked_in (files name))
    cert.ask cert.claim

-- The files say a line and a certificate whose balance can be shown, and what is told is its plan.
pub record IsPlanned (files : Files) (name proof : List ℕ) (apart : Option (List ℕ)) (out : Outcome) : Type 0 where
  pub line : Line
  pub cert : Certificate
  pub said : IsLineOf files name apart line
  pub read : IsCertificateOf files proof cert
  pub drawable : IsDrawable line cert
  pub shown : out ≡ told ends.Done (plan_of files name line cert)

-- What `plan` comes to: a plan; or why the files say no line, no certificate, or none whose balance can be shown. A
-- later file is named only where the earlier ones were read.
abbrev pub IsPlanOutcome : Outside → List ℕ → List ℕ → Option (List ℕ) → Outcome → Type 0
IsPlanOutcome o name proof apart out =
    IsPlanned o.files name proof apart out ⊎ IsNotShown o name proof apart out

-- What a run that is done has done: its files said a line and a certificate whose balance is right and shows the upper
-- bound, and what is told is its plan, which is true of the line.
pub record IsTrulyPlanned (files : Files) (name proof : List ℕ) (apart : Option (List ℕ)) (text : List ℕ)
    : Type 0 where
  pub line : Line
  pub cert : Certificate
  pub said : IsLineOf files name apart line
  pub read : IsCertificateOf files proof cert
  pub right : IsDrawable line cert
  pub true_plan : ClaimIsPlanned line cert.ask cert.claim
  pub printed : text ≡ plan_of files name line cert
