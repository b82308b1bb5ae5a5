use Rattle.std.proofs.Common.{Bool, Ok, Err, [], subst}
use Rattle.cert_lines.specs.Pattern.{IsRead}
use Rattle.effic_cert.specs.inner.Parts.{bodies}
use Rattle.text_grammar.proofs.TwoParts.{first_fails, second_fails, two_read}
use Rattle.effic_cert.proofs.PartFacts.{version_tells, bodies_tell, text, same_texts}
use Rattle.effic_cert.proofs.whole_text.AllLinesPart.read.Goals as goal

pub read_line-requires-clause-some : goal.read_line-requires-clause-some
read_line-requires-clause-some g c = version_tells.some

pub returns-in_err-version-clause-read : goal.returns-in_err-version-clause-read
returns-in_err-version-clause-read g c t =
    first_fails text _ _ _ _ c.from_residual.result c.in_err-version.field-0.0 c.from_residual.ensures.1
    (c.in_err-version.ensures.read t)

pub read-requires-clause-tells : goal.read-requires-clause-tells
read-requires-clause-tells g c = bodies_tell c.may_have_pairs-pairs.result

pub returns-in_err-cert-clause-read : goal.returns-in_err-cert-clause-read
returns-in_err-cert-clause-read g c t =
    let P : Bool → Type 0 = λ b. IsRead (bodies b) (g.S.Source.number c.read_line.new.source)
    (g.S.Source.left c.read_line.new.source) [] 0 (Err c.in_err-cert.field-0.0) in
    second_fails text c.in_ok-version.version _ _ _ _ _ _ c.from_residual-in_err-cert.result c.in_err-cert.field-0.0
    c.from_residual-in_err-cert.ensures.1 (c.in_ok-version.ensures.read t)
    (subst P c.may_have_pairs-pairs.ensures (c.in_err-cert.ensures.read t))

pub returns-clause-read : goal.returns-clause-read
unfolding same_texts
returns-clause-read g c t =
    let P : Bool → Type 0 = λ b. IsRead (bodies b) (g.S.Source.number c.read_line.new.source)
    (g.S.Source.left c.read_line.new.source) (g.S.Source.left c.read.new.source) (g.S.Source.number c.read.new.source)
    (Ok c.in_ok-cert.cert) in
    two_read text c.in_ok-version.version c.in_ok-cert.cert _ _ _ _ _ _ (c.in_ok-version.ensures.read t)
    (subst P c.may_have_pairs-pairs.ensures (c.in_ok-cert.ensures.read t))
