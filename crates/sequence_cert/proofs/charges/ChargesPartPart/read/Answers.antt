use Rattle.std.proofs.Common.{[], sym, subst}
use Rattle.cert_lines.specs.Pattern.{IsRead, one}
use Rattle.cert_text.proofs.PartErrors.{ends, same, hand}
use Rattle.sequence_rules.specs.Charges.{IsChargesOf}
use Rattle.sequence_cert.specs.SequenceText.{charges_row}
use Rattle.sequence_cert.specs.inner.Parts.{chargeds}
use Rattle.sequence_cert.specs.declared.version.Version.{Version}
use Rattle.sequence_cert.specs.declared.version.Version.TheVariants as version
use Rattle.sequence_cert.proofs.PartFacts.{same_charges}
use Rattle.sequence_cert.proofs.charges.ChargesPartPart.read.Goals as goal

pub returns-in_err-charges-in-Two-clause-read : goal.returns-in_err-charges-in-Two-clause-read
returns-in_err-charges-in-Two-clause-read g c t =
    let m = c.args.self.now.models in
    let line = one charges_row (IsChargesOf m) in
    let P : Version → Type 0 = λ v. IsRead (chargeds v m) (g.S.Source.number c.args.source.now)
    (g.S.Source.left c.args.source.now) (g.S.Source.left c.read_line.new.source)
    (g.S.Source.number c.read_line.new.source) c.from_residual.result in
    subst P (sym c.in-Two.is)
    (hand (chargeds version.Two m) _ _ _ _ c.from_residual.result c.in_err-charges-in-Two.field-0.0
    c.from_residual.ensures.1
    (same line (chargeds version.Two m) (same_charges m)
    (ends line _ 0 _ [] _ (c.in_err-charges-in-Two.ensures.read t))))
