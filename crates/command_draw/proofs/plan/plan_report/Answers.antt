use Rattle.std.proofs.Common.{inr, List, ℕ, Option}
use Rattle.std.specs.Prelude.{option_map}
use Rattle.command_outcome.specs.Outcome.{Files, Outside, outside}
use Rattle.command_outcome.proofs.OutcomeFacts.{early}
use Rattle.command_draw.specs.Plan.{IsPlanOutcome}
use Rattle.command_draw.specs.Drawable.{IsNotShown}
use Rattle.command_draw.proofs.plan.plan_report.Goals as goal

pub returns-in_err-shown-clause-ends : goal.returns-in_err-shown-clause-ends
returns-in_err-shown-clause-ends g c = λ t.
    let a = c.args in
    let apart : Option (List ℕ) = option_map (λ x. x.now) a.apart in
    let after : Files = g.S.Shelf.file c.shown_of.new.shelf in
    let o : Outside = outside (g.S.Shelf.file a.shelf.now) (g.S.Shelf.blames c.shown_of.new.shelf) in
    early o (IsPlanOutcome o a.file.now a.proof.now apart) (IsNotShown o a.file.now a.proof.now apart) after
    c.in_err-shown.field-0.0 c.from_residual.result (λ out x. inr x) (c.in_err-shown.ensures.files t)
    (c.in_err-shown.ensures.said t) c.from_residual.ensures.1
