use Rattle.sequence_cert.proofs.PartFacts.{sizes_ready, behind_ready, behind_tells, body, same_bodies}
use Rattle.text_grammar.proofs.TwoParts.{first_fails, second_fails, two_read}
use Rattle.sequence_cert.proofs.body.SequenceBodyPart.read.Goals as goal

pub read-requires-clause-can : goal.read-requires-clause-can
read-requires-clause-can g c = sizes_ready.is

pub read-requires-clause-tells : goal.read-requires-clause-tells
read-requires-clause-tells g c = sizes_ready.tells

pub returns-in_err-sizes-clause-read : goal.returns-in_err-sizes-clause-read
returns-in_err-sizes-clause-read g c t =
    first_fails (body c.args.self.now.version) _ _ _ _ c.from_residual.result c.in_err-sizes.field-0.0
    c.from_residual.ensures.1 (c.in_err-sizes.ensures.read t)

pub read-requires-2-clause-can : goal.read-requires-2-clause-can
read-requires-2-clause-can g c =
    let s = c.in_ok-sizes.sizes in
    let r = c.in_ok-sizes.ensures.said in
    (behind_ready c.args.self.now.version s.0 s.1 (record { some = r.0.0; few = r.0.1 })).is

pub read-requires-2-clause-tells : goal.read-requires-2-clause-tells
read-requires-2-clause-tells g c =
    behind_tells c.args.self.now.version c.in_ok-sizes.sizes c.in_ok-sizes.ensures.said

pub returns-in_err-rest-clause-read : goal.returns-in_err-rest-clause-read
returns-in_err-rest-clause-read g c t =
    second_fails (body c.args.self.now.version) c.in_ok-sizes.sizes _ _ _ _ _ _ c.from_residual-in_err-rest.result
    c.in_err-rest.field-0.0 c.from_residual-in_err-rest.ensures.1 (c.in_ok-sizes.ensures.read t)
    (c.in_err-rest.ensures.read t)

pub returns-clause-said : goal.returns-clause-said
unfolding same_bodies
returns-clause-said g c = (same_bodies c.args.self.now.version).to_ranged (c.in_ok-sizes.sizes, c.in_ok-rest.rest)
    (c.in_ok-sizes.ensures.said, c.in_ok-rest.ensures.said)

pub returns-clause-read : goal.returns-clause-read
unfolding same_bodies
returns-clause-read g c t =
    two_read (body c.args.self.now.version) c.in_ok-sizes.sizes c.in_ok-rest.rest _ _ _ _ _ _
    (c.in_ok-sizes.ensures.read t) (c.in_ok-rest.ensures.read t)
