use Rattle.std.proofs.Common.{List, Ok, sym, subst}
use Rattle.cert_lines.specs.Pattern.{IsRead}
use Rattle.cert_lines.specs.LineForms.{key_text}
use Rattle.text_grammar.proofs.TwoParts.{first_fails, second_fails, two_read}
use Rattle.sequence_cert.specs.inner.Parts.{counteds, IsCounted}
use Rattle.sequence_cert.proofs.PartFacts.{count_said, counted, same_counted}
use Rattle.sequence_cert.proofs.counted.CountedPart.read.Goals as goal

pub returns-in_err-many-clause-read : goal.returns-in_err-many-clause-read
returns-in_err-many-clause-read g c t =
    let p = c.args.self.now in
    let can = c.requires.can in
    first_fails
    (counted p.count.key p.count.low p.count.high (g.P.Pattern.line_of p.pattern) (g.P.Pattern.may_say p.pattern)
    can.0.1 can.1.1)
    _ _ _ _ c.from_residual.result c.in_err-many.field-0.0 c.from_residual.ensures.1 (c.in_err-many.ensures.read t)

pub returns-in_err-values-clause-read : goal.returns-in_err-values-clause-read
returns-in_err-values-clause-read g c t =
    let p = c.args.self.now in
    let can = c.requires.can in
    second_fails
    (counted p.count.key p.count.low p.count.high (g.P.Pattern.line_of p.pattern) (g.P.Pattern.may_say p.pattern)
    can.0.1 can.1.1)
    c.in_ok-many.many _ _ _ _ _ _ c.from_residual-in_err-values.result c.in_err-values.field-0.0
    c.from_residual-in_err-values.ensures.1 (c.in_ok-many.ensures.read t) (c.in_err-values.ensures.read t)

pub returns-clause-said : goal.returns-clause-said
returns-clause-said g c =
    let p = c.args.self.now in
    let P : List _ → Type 0 = IsCounted p.count.low p.count.high (g.P.Pattern.may_say p.pattern) in
    subst P (sym c.from_vec.ensures)
    (count_said p.count.low p.count.high (g.P.Pattern.may_say p.pattern) c.in_ok-many.many c.in_ok-values.values.items
    c.in_ok-many.ensures.said c.in_ok-values.ensures.said)

pub returns-clause-read : goal.returns-clause-read
unfolding same_counted
returns-clause-read g c t =
    let p = c.args.self.now in
    let can = c.requires.can in
    let row = g.P.Pattern.line_of p.pattern in
    let ranged = g.P.Pattern.may_say p.pattern in
    let P : List _ → Type 0 = λ vs. IsRead (counteds (key_text p.count.key) p.count.low p.count.high row ranged)
    (g.S.Source.number c.args.source.now) (g.S.Source.left c.args.source.now) (g.S.Source.left c.read_lines.new.source)
    (g.S.Source.number c.read_lines.new.source) (Ok vs) in
    subst P (sym c.from_vec.ensures)
    (two_read (counted p.count.key p.count.low p.count.high row ranged can.0.1 can.1.1) c.in_ok-many.many
    c.in_ok-values.values.items _ _ _ _ _ _ (c.in_ok-many.ensures.read t) (c.in_ok-values.ensures.read t))
