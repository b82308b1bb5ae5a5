-- What a command ends with that is stopped, or that reports.
use Rattle.std.proofs.Common.{◌≡◌, ◌∙◌, ap, ℕ, List, None, IfOk, sym, subst, rules}
use Rattle.std.specs.Prelude.{IsErrAnd, MatchResult}
use Rattle.std.proofs.lemmas.Result.{err_from_is_err_and}
use Rattle.std.specs.declared.result.Result.{Result}
use Rattle.std.specs.declared.result.Result.TheVariants.{Ok, Err}
use Rattle.command_outcome.specs.Outcome.{Files, Outside, Outcome, Ends, Stay, Stops, outcome_of, told}
use Rattle.command_outcome.specs.declared.report.Kept.{Kept}
use Rattle.command_outcome.specs.declared.report.Kept.TheVariants.{Nothing}
use Rattle.command_outcome.specs.declared.report.Report.{Report}
use Rattle.command_outcome.specs.declared.report.EarlyEnd.{EarlyEnd}
use Rattle.command_outcome.specs.declared.report.EarlyEnd.TheVariants as stop
use Rattle.command_outcome.specs.declared.status.Status.{Status}

-- a refusal of one kind is one of another that it implies
pub stops_as : (P Q : Outcome → Type 0) (s : EarlyEnd) → ((out : Outcome) → P out → Q out) → Stops P s → Stops Q s
stops_as P Q (stop.Report r) f p = f (outcome_of r None) p
stops_as P Q stop.Memory f p = p
stops_as P Q stop.Unwritten f p = p

-- a command that is stopped before it writes anything
pub stopped : (o : Outside) (P Q : Outcome → Type 0) (after : Files) (s : EarlyEnd) → ((out : Outcome) → Q out → P out)
    → Stay o.files after → Stops Q s → Ends o P after (Err s)
stopped o P Q after (stop.Report r) f k q = record { page = None; reached = f (outcome_of r None) q; written = k }
stopped o P Q after stop.Memory f k q = k
stopped o P Q after stop.Unwritten f k q = absurd q

-- the same of a command that hands on by `?` what a step stopped with
pub early : (o : Outside) (P Q : Outcome → Type 0) (after : Files) (s : EarlyEnd) (r : Result Report EarlyEnd)
    → ((out : Outcome) → Q out → P out) → Stay o.files after → Stops Q s → IsErrAnd r (λ e. e ≡ s) → Ends o P after r
early o P Q after s r f k q is =
    let e = err_from_is_err_and r is in
    subst (λ x. Ends o P after x) (sym e.1)
    (subst (λ x. Ends o P after (Err x)) (sym e.2) (stopped o P Q after s f k q))

-- the same of a step
pub step_early : {T : Type 0} (P Q : Outcome → Type 0) (good : T → Type 0) (s : EarlyEnd) (r : Result T EarlyEnd)
    → ((out : Outcome) → Q out → P out) → Stops Q s → IsErrAnd r (λ e. e ≡ s) → MatchResult r good (Stops P)
step_early {T = T} P Q good s r f q is =
    let e = err_from_is_err_and r is in
    subst (λ (x : Result T EarlyEnd). MatchResult x good (Stops P)) (sym e.1)
    (subst (λ (x : EarlyEnd). Stops P x) (sym e.2) (stops_as Q P s f q))

-- what a report of this status and text comes to that keeps nothing
pub told_as : (r : Report) (status : Status) (text : List ℕ) → r.status ≡ status → r.text.items ≡ text
    → r.kept ≡ Nothing → outcome_of r None ≡ told status text
told_as r status text s t k =
    let with_status : Status → Outcome = λ x. record { status = x; text = r.text.items; page = None; kept = r.kept } in
    let with_text : List ℕ → Outcome = λ x. record { status = status; text = x; page = None; kept = r.kept } in
    let with_kept : Kept → Outcome = λ x. record { status = status; text = text; page = None; kept = x } in
    ap with_status s ∙ ap with_text t ∙ ap with_kept k

-- an end of which P is true is one of which Q is true, where P implies Q
pub ends_as : (o : Outside) (P Q : Outcome → Type 0) (after : Files) (r : Result Report EarlyEnd)
    → ((out : Outcome) → P out → Q out) → Ends o P after r → Ends o Q after r
ends_as o P Q after (Ok r) f e = record {
  page = e.page;
  reached = f (outcome_of r e.page) e.reached;
  written = e.written;
}
ends_as o P Q after (Err (stop.Report r)) f e = record {
  page = e.page;
  reached = f (outcome_of r e.page) e.reached;
  written = e.written;
}
ends_as o P Q after (Err stop.Memory) f e = e
ends_as o P Q after (Err stop.Unwritten) f e = record {
  outcome = e.outcome;
  reached = f e.outcome e.reached;
  page = e.page;
  has = e.has;
  blamed = e.blamed;
  cut = e.cut;
  others = e.others;
}

-- what follows for a report from what was found out of it, where it was handed on
pub handed_on : (P Q : Report → Type 0) (report : Report) (r : Result Report EarlyEnd) → (Q report → P report)
    → IfOk r (λ x. x ≡ report) → IfOk r Q → IfOk r P
handed_on P Q report (Ok x) f same q = subst P (sym same) (f (subst Q same q))
handed_on P Q report (Err e) f same q = search rules
