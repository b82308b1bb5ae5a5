use Rattle.std.proofs.Common.{option_map, subst, sym, inr, List, ℕ, Option}
use Rattle.std.specs.declared.result.Result.TheVariants.{Err}
use Rattle.std.proofs.lemmas.Result.{err_from_is_err_and}
use Rattle.command_outcome.specs.Outcome.{Files, Outside, Outcome, Ends, outside}
use Rattle.command_outcome.proofs.OutcomeFacts.{stopped}
use Rattle.input_files.specs.Instance.{IsUnsaid}
use Rattle.command_balance.specs.Balance.{IsBalanceOutcome}
use Rattle.command_balance.proofs.balance.balance_report.Goals as goal

pub returns-in_err-timed-clause-ends : goal.returns-in_err-timed-clause-ends
returns-in_err-timed-clause-ends g c = λ t.
    let o : Outside = outside (g.S.Shelf.file c.args.shelf.now) (g.S.Shelf.blames c.said_instance.new.shelf) in
    let name : List ℕ = c.args.file.now in
    let apart : Option (List ℕ) = option_map (λ a. a.now) c.args.apart in
    let P : Outcome → Type 0 = IsBalanceOutcome o name apart c.args.word c.args.kind in
    let after : Files = g.S.Shelf.file c.said_instance.new.shelf in
    let q = err_from_is_err_and c.from_residual.result c.from_residual.ensures.1 in
    subst (λ r. Ends o P after r) (sym q.1)
    (subst (λ s. Ends o P after (Err s)) (sym q.2)
    (stopped o P (IsUnsaid o name apart c.args.word) after c.in_err-timed.field-0.0 (λ out x. inr x)
    (c.in_err-timed.ensures.files t) (c.in_err-timed.ensures.said t)))
