-- What a job comes to that reads no file: a page, or what `try` tells of the line of a seed.
use Rattle.std.proofs.Common.{IfOk, ◌≡◌, ℕ, List, None, inl, refl}
use Rattle.std.specs.declared.result.Result.{Result}
use Rattle.std.specs.declared.result.Result.TheVariants.{Ok, Err}
use Rattle.line_rules.specs.declared.types.LineKind.{LineKind}
use Rattle.command_outcome.specs.Outcome.{outcome_of, told}
use Rattle.command_outcome.specs.Found.{IsSearchStatus}
use Rattle.command_outcome.specs.declared.report.Kept.TheVariants.{Nothing}
use Rattle.command_outcome.specs.declared.report.Report.{Report}
use Rattle.command_outcome.specs.declared.report.EarlyEnd.{EarlyEnd}
use Rattle.command_outcome.specs.declared.status.Status.TheVariants as ends
use Rattle.command_outcome.proofs.OutcomeFacts.{told_as}
use Rattle.command_try.specs.Tried.{IsTried}
use Rattle.line_run.specs.Run.{IsTryOutcome}

-- what is tried comes to its outcome
pub tried_so : (seed tasks cycle : ℕ) (kind : LineKind) (units : ℕ) (r : Result Report EarlyEnd)
    → IfOk r (λ x. IsTried seed tasks cycle kind units x.status x.text.items x.kept)
    → IfOk r (λ x. IsTryOutcome seed tasks cycle kind units (outcome_of x None))
tried_so seed tasks cycle kind units (Ok x) t = record { tried = t; bare = refl }
tried_so seed tasks cycle kind units (Err s) t = t

-- a report of a text that is done and keeps nothing comes to that text
pub page_so : (text : List ℕ) (r : Result Report EarlyEnd) → IfOk r (λ x. x.status ≡ ends.Done)
    → IfOk r (λ x. x.text.items ≡ text) → IfOk r (λ x. x.kept ≡ Nothing)
    → IfOk r (λ x. outcome_of x None ≡ told ends.Done text)
page_so text (Ok x) s t k = told_as x ends.Done text s t k
page_so text (Err e) s t k = s

-- what is done answers
pub done_answers : (r : Result Report EarlyEnd) → IfOk r (λ x. x.status ≡ ends.Done) → IfOk r (λ x. IsSearchStatus x.status)
done_answers (Ok x) e = inl e
done_answers (Err s) e = e
