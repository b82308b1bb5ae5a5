use Rattle.std.proofs.Common.{subst}
use Rattle.cert_text.specs.Parts.{IsClaimOf}
use Rattle.cert_text.specs.declared.parts.AnyClaim.{AnyClaim}
use Rattle.cert_text.proofs.Claims.{old_in_range}
use Rattle.cert_text.proofs.parts.certified.Goals as goal

pub lift-requires : goal.lift-requires
lift-requires c =
    let P : AnyClaim → Type 0 = IsClaimOf c.requires.claim.0 c.args.head in
    old_in_range c.requires.claim.0 c.args.head c.in-Old.claim c.requires.head (subst P c.in-Old.is c.requires.claim.1)
