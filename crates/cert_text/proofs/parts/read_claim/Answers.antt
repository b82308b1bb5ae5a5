use Rattle.std.proofs.Common.{[]}
use Rattle.cert_text.specs.Parts.{opened, claims}
use Rattle.cert_text.proofs.PartErrors.{ends, first, same, hand}
use Rattle.cert_text.proofs.Claims.{openings, claim_parts, unique_opening, some_opening, some_opened, same_claims}
use Rattle.cert_text.proofs.Claims.{claim_result}
use Rattle.cert_text.proofs.parts.read_claim.Goals as goal

pub read_line-requires-clause-some : goal.read_line-requires-clause-some
read_line-requires-clause-some g c = some_opening c.args.head.ask c.args.head.tasks

pub returns-in_err-opening-clause-read : goal.returns-in_err-opening-clause-read
returns-in_err-opening-clause-read g c t =
    hand (claims c.args.version c.args.head) _ _ _ _ c.from_residual.result c.in_err-opening.field-0.0
    c.from_residual.ensures.1
    (same (claim_parts c.args.version c.args.head) (claims c.args.version c.args.head)
    (same_claims c.args.version c.args.head)
    (first (openings c.args.head.ask c.args.head.tasks) (opened c.args.version c.args.head)
    (unique_opening c.args.head.ask c.args.head.tasks c.requires.few)
    (some_opened c.args.version c.args.head) (ends (openings c.args.head.ask c.args.head.tasks) _ 0 _ [] _
    (c.in_err-opening.ensures.read t))))

pub returns-clause-read : goal.returns-clause-read
returns-clause-read g c t = claim_result c.args.version c.args.head c.in_ok-opening.opening c.read_opened.result _ _ _ _
    _ _ c.requires.few (c.in_ok-opening.ensures.read t) (c.read_opened.ensures.read t)
