use Rattle.effic_cert.proofs.PartFacts.{head_ready, shown_ready, behind_tells, body, same_bodies}
use Rattle.text_grammar.proofs.TwoParts.{first_fails, second_fails, two_read}
use Rattle.effic_cert.proofs.body.ProductBodyPart.read.Goals as goal

pub read-requires-clause-can : goal.read-requires-clause-can
read-requires-clause-can g c = head_ready.is

pub read-requires-clause-tells : goal.read-requires-clause-tells
read-requires-clause-tells g c = head_ready.tells

pub returns-in_err-head-clause-read : goal.returns-in_err-head-clause-read
returns-in_err-head-clause-read g c t =
    first_fails (body c.args.self.now.pairs) _ _ _ _ c.from_residual.result c.in_err-head.field-0.0
    c.from_residual.ensures.1
    (c.in_err-head.ensures.read t)

pub read-requires-2-clause-can : goal.read-requires-2-clause-can
read-requires-2-clause-can g c =
    let h = c.in_ok-head.head in
    let r = c.in_ok-head.ensures.said in
    (shown_ready h.0.0 h.0.1.0 c.args.self.now.pairs r.0.1.0.0 r.0.1.0.1).is

pub read-requires-2-clause-tells : goal.read-requires-2-clause-tells
read-requires-2-clause-tells g c = behind_tells c.args.self.now.pairs c.in_ok-head.head c.in_ok-head.ensures.said

pub returns-in_err-shown-clause-read : goal.returns-in_err-shown-clause-read
returns-in_err-shown-clause-read g c t =
    second_fails (body c.args.self.now.pairs) c.in_ok-head.head _ _ _ _ _ _ c.from_residual-in_err-shown.result
    c.in_err-shown.field-0.0
    c.from_residual-in_err-shown.ensures.1 (c.in_ok-head.ensures.read t) (c.in_err-shown.ensures.read t)

pub returns-clause-said : goal.returns-clause-said
unfolding same_bodies
returns-clause-said g c = (same_bodies c.args.self.now.pairs).to_ranged (c.in_ok-head.head, c.in_ok-shown.shown)
    (c.in_ok-head.ensures.said, c.in_ok-shown.ensures.said)

pub returns-clause-read : goal.returns-clause-read
unfolding same_bodies
returns-clause-read g c t =
    two_read (body c.args.self.now.pairs) c.in_ok-head.head c.in_ok-shown.shown _ _ _ _ _ _ (c.in_ok-head.ensures.read
    t)
    (c.in_ok-shown.ensures.read t)
