use Rattle.in2_reader.proofs.ApartFacts.{pairs_said, apart_not_read, fault_has_no_pairs}
use Rattle.in2_reader.proofs.apart.read_apart.Goals as goal

pub returns-in-Ok-clause-read : goal.returns-in-Ok-clause-read
returns-in-Ok-clause-read c = pairs_said c.args.tasks c.args.bytes.now _ c.in-Ok.ensures

pub returns-in-Err-clause-read : goal.returns-in-Err-clause-read
returns-in-Err-clause-read c = apart_not_read c.args.tasks c.args.bytes.now c.in-Err.error c.refused.result
    c.in-Err.ensures c.refused.ensures

pub returns-in-Err-clause-none : goal.returns-in-Err-clause-none
returns-in-Err-clause-none c = fault_has_no_pairs c.args.tasks c.args.bytes.now c.refused.result
    (apart_not_read c.args.tasks c.args.bytes.now c.in-Err.error c.refused.result c.in-Err.ensures c.refused.ensures)
