use Rattle.std.proofs.Common.{[]}
use Rattle.cert_text.specs.Parts.{heads, claims}
use Rattle.cert_text.specs.Versions.{both}
use Rattle.cert_text.proofs.PartErrors.{ends, first, second, same}
use Rattle.cert_text.proofs.CertificateParts.{unique_heads}
use Rattle.cert_text.proofs.Claims.{versions, unique_version, body_parts, any_parts, same_any, some_body, some_claim}
use Rattle.cert_text.proofs.Claims.{all_said, all_read, any_hand}
use Rattle.cert_text.proofs.parts.read_all.Goals as goal

pub returns-in_err-version-clause-read : goal.returns-in_err-version-clause-read
returns-in_err-version-clause-read g c t =
    any_hand _ _ _ _ c.from_residual.result c.in_err-version.field-0.0 c.from_residual.ensures.1
    (same any_parts both same_any (first versions body_parts unique_version some_body
    (ends versions _ 0 _ [] _ (c.in_err-version.ensures.read t))))

pub returns-in_err-head-clause-read : goal.returns-in_err-head-clause-read
returns-in_err-head-clause-read g c t =
    any_hand _ _ _ _ c.from_residual-in_err-head.result c.in_err-head.field-0.0 c.from_residual-in_err-head.ensures.1
    (same any_parts both same_any (second versions body_parts _ _ _ _ _ unique_version (c.in_ok-version.ensures.read t)
    (first heads (claims c.in_ok-version.version) unique_heads (λ h r. some_claim c.in_ok-version.version h)
    (ends heads _ 0 _ [] _ (c.in_err-head.ensures.read t)))))

pub returns-in_err-claim-clause-read : goal.returns-in_err-claim-clause-read
returns-in_err-claim-clause-read g c t =
    any_hand _ _ _ _ c.from_residual-in_err-claim.result c.in_err-claim.field-0.0 c.from_residual-in_err-claim.ensures.1
    (same any_parts both same_any (second versions body_parts _ _ _ _ _ unique_version (c.in_ok-version.ensures.read t)
    (second heads (claims c.in_ok-version.version) _ _ _ _ _ unique_heads (c.in_ok-head.ensures.read t)
    (ends (claims c.in_ok-version.version c.in_ok-head.head) _ 0 _ [] _ (c.in_err-claim.ensures.read t)))))

pub returns-clause-said : goal.returns-clause-said
returns-clause-said g c = all_said c.in_ok-version.version c.in_ok-head.head c.in_ok-claim.claim c.in_ok-cert.cert
    c.in_ok-head.ensures.said c.in_ok-claim.ensures.said c.in_ok-cert.ensures

pub returns-clause-read : goal.returns-clause-read
returns-clause-read g c t =
    all_read c.in_ok-version.version c.in_ok-head.head c.in_ok-claim.claim c.in_ok-cert.cert _ _ _ _ _ _ _ _
    (c.in_ok-version.ensures.read t) (c.in_ok-head.ensures.read t) (c.in_ok-claim.ensures.read t)
    c.in_ok-cert.ensures
