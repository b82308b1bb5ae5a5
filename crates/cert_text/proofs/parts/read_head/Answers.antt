use Rattle.std.proofs.Common.{[]}
use Rattle.cert_text.specs.Parts.{heads}
use Rattle.cert_text.proofs.PartErrors.{ends, first, second, same, hand}
use Rattle.cert_text.proofs.CertificateParts.{kinds, unique_kind, tasks_grammar, unique_tasks, asks, tasks_ask}
use Rattle.cert_text.proofs.CertificateParts.{head_parts}
use Rattle.cert_text.proofs.CertificateParts.{some_ask, some_tasks_ask, same_heads}
use Rattle.cert_text.proofs.parts.read_head.Goals as goal

pub returns-in_err-kind-clause-read : goal.returns-in_err-kind-clause-read
returns-in_err-kind-clause-read g c t =
    hand heads _ _ _ _ c.from_residual.result c.in_err-kind.field-0.0 c.from_residual.ensures.1
    (same head_parts heads same_heads (first kinds tasks_ask unique_kind some_tasks_ask
    (ends kinds _ 0 _ [] _ (c.in_err-kind.ensures.read t))))

pub returns-in_err-tasks-clause-read : goal.returns-in_err-tasks-clause-read
returns-in_err-tasks-clause-read g c t =
    hand heads _ _ _ _ c.from_residual-in_err-tasks.result c.in_err-tasks.field-0.0
    c.from_residual-in_err-tasks.ensures.1
    (same head_parts heads same_heads (second kinds tasks_ask _ _ _ _ _ unique_kind (c.in_ok-kind.ensures.read t)
    (first tasks_grammar (λ n. asks) unique_tasks (λ a r. some_ask)
    (ends tasks_grammar _ 0 _ [] _ (c.in_err-tasks.ensures.read t)))))

pub read_line-requires-2-clause-some : goal.read_line-requires-2-clause-some
read_line-requires-2-clause-some g c = some_ask

pub returns-in_err-ask-clause-read : goal.returns-in_err-ask-clause-read
returns-in_err-ask-clause-read g c t =
    hand heads _ _ _ _ c.from_residual-in_err-ask.result c.in_err-ask.field-0.0 c.from_residual-in_err-ask.ensures.1
    (same head_parts heads same_heads (second kinds tasks_ask _ _ _ _ _ unique_kind (c.in_ok-kind.ensures.read t)
    (second tasks_grammar (λ n. asks) _ _ _ _ _ unique_tasks (c.in_ok-tasks.ensures.read t)
    (ends asks _ 0 _ [] _ (c.in_err-ask.ensures.read t)))))
