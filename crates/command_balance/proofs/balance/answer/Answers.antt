use Rattle.std.proofs.Common.{◌≡◌, ◌∙◌, ap, inl, subst, ℕ}
use Rattle.std.proofs.lemmas.Result.{IfOk-weaker}
use Rattle.line_rules.specs.Accepted.{IsBelowAll}
use Rattle.line_rules.specs.Bounds.{total_bound}
use Rattle.line_rules.specs.declared.types.LineKind.{LineKind}
use Rattle.task_names.specs.declared.naming.Naming.{Naming}
use Rattle.command_outcome.specs.Outcome.{told}
use Rattle.command_outcome.specs.declared.status.Status.TheVariants as ends
use Rattle.command_balance.specs.Balance.{IsAnswer}
use Rattle.command_balance.specs.BalanceText.{balance_text}
use Rattle.command_balance.proofs.balance.answer.Goals as goal

pub returns-in-Good : goal.returns-in-Good
returns-in-Good c =
    let naming : Naming = c.args.naming.now in
    let kind : LineKind = c.args.kind in
    let line = c.args.inst.now in
    let cycle : ℕ = c.args.cycle in
    let balance = c.in-Good.balance in
    IfOk-weaker c.balance_report_text.result (λ t. t.items ≡ balance_text naming kind balance c.total_bound-bound.result
    c.idle_of-idle.result) (λ t. IsAnswer naming kind line cycle (told ends.Done t.items))
    (λ t e. inl (record {
      balance = balance;
      right = c.in-Good.ensures.right;
      ranked = c.in-Good.ensures.ranked;
      bound = subst (IsBelowAll line cycle) c.total_bound-bound.ensures.value c.total_bound-bound.ensures.below_all;
      shown = ap (told ends.Done) (e ∙ (ap (λ b. balance_text naming kind balance b c.idle_of-idle.result)
          c.total_bound-bound.ensures.value ∙ ap (λ i. balance_text naming kind balance (total_bound line cycle) i)
          c.idle_of-idle.ensures));
    })) c.balance_report_text.ensures
