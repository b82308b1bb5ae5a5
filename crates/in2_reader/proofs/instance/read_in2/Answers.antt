use Rattle.in2_reader.proofs.AnswerFacts.{times_right, arcs_right, answered, not_read}
use Rattle.in2_reader.proofs.Acyclic.{fault_has_none}
use Rattle.in2_reader.proofs.instance.read_in2.Goals as goal

pub instance_of-requires-clause-times : goal.instance_of-requires-clause-times
instance_of-requires-clause-times c = times_right c.args.bytes.now _ c.in-Ok.ensures.exact

pub instance_of-requires-clause-arcs : goal.instance_of-requires-clause-arcs
instance_of-requires-clause-arcs c = arcs_right c.args.bytes.now _ c.in-Ok.ensures.exact

pub returns-in-Ok-clause-read : goal.returns-in-Ok-clause-read
returns-in-Ok-clause-read c = answered c.args.bytes.now _ c.instance_of.result c.in-Ok.ensures.exact
    c.instance_of.ensures

pub returns-in-Ok-clause-none : goal.returns-in-Ok-clause-none
returns-in-Ok-clause-none c = fault_has_none c.args.bytes.now c.instance_of.result
    (answered c.args.bytes.now _ c.instance_of.result c.in-Ok.ensures.exact c.instance_of.ensures)

pub returns-in-Err-clause-read : goal.returns-in-Err-clause-read
returns-in-Err-clause-read c = not_read c.args.bytes.now c.in-Err.error c.refused.result c.in-Err.ensures.exact
    c.refused.ensures

pub returns-in-Err-clause-none : goal.returns-in-Err-clause-none
returns-in-Err-clause-none c = fault_has_none c.args.bytes.now c.refused.result
    (not_read c.args.bytes.now c.in-Err.error c.refused.result c.in-Err.ensures.exact c.refused.ensures)
