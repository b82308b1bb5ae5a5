use Rattle.std.proofs.Common.{[]}
use Rattle.cert_text.specs.Parts.{seatings, placings}
use Rattle.cert_text.proofs.PartErrors.{ends, first, second, same, hand}
use Rattle.cert_text.proofs.PartSequences.{both_read}
use Rattle.cert_text.proofs.CertificateParts.{uppers, unique_upper, placing_parts, some_seating, placing_said}
use Rattle.cert_text.proofs.CertificateParts.{same_placings}
use Rattle.cert_text.proofs.CertificateParts.{placing_read}
use Rattle.cert_text.proofs.parts.read_placed.Goals as goal

pub returns-in_err-upper-clause-read : goal.returns-in_err-upper-clause-read
returns-in_err-upper-clause-read g c t =
    hand (placings c.args.head.kind c.args.head.tasks) _ _ _ _ c.from_residual.result c.in_err-upper.field-0.0
    c.from_residual.ensures.1
    (same (placing_parts c.args.head.kind c.args.head.tasks) (placings c.args.head.kind c.args.head.tasks)
    (same_placings c.args.head.kind c.args.head.tasks)
    (first uppers (λ u. seatings c.args.head.kind c.args.head.tasks) unique_upper
    (λ u r. some_seating c.args.head.kind c.args.head.tasks)
    (ends uppers _ 0 _ [] _ (c.in_err-upper.ensures.read t))))

pub returns-in_err-balance-clause-read : goal.returns-in_err-balance-clause-read
returns-in_err-balance-clause-read g c t =
    hand (placings c.args.head.kind c.args.head.tasks) _ _ _ _ c.from_residual-in_err-balance.result
    c.in_err-balance.field-0.0 c.from_residual-in_err-balance.ensures.1
    (same (placing_parts c.args.head.kind c.args.head.tasks) (placings c.args.head.kind c.args.head.tasks)
    (same_placings c.args.head.kind c.args.head.tasks)
    (second uppers (λ u. seatings c.args.head.kind c.args.head.tasks) _ _ _ _ _ unique_upper
    (c.in_ok-upper.ensures.read t) (ends (seatings c.args.head.kind c.args.head.tasks) _ 0 _ [] _
    (c.in_err-balance.ensures.read t))))

pub returns-clause-said : goal.returns-clause-said
returns-clause-said g c = placing_said c.args.head.kind c.args.head.tasks c.in_ok-upper.upper c.in_ok-balance.balance
    c.in_ok-upper.ensures.said c.in_ok-balance.ensures.said

pub returns-clause-read : goal.returns-clause-read
returns-clause-read g c t =
    placing_read c.args.head.kind c.args.head.tasks c.in_ok-upper.upper c.in_ok-balance.balance _ _ _ _
    (both_read uppers (λ u. seatings c.args.head.kind c.args.head.tasks) c.in_ok-upper.upper c.in_ok-balance.balance _ _
    _ _ _ _ (c.in_ok-upper.ensures.read t) (c.in_ok-balance.ensures.read t))
