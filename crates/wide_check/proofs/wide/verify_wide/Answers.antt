use Rattle.line_check.proofs.OneVerdict.{certificate_one}
use Rattle.wide_check.proofs.wide.verify_wide.Goals as goal

pub returns-in-Ok-clause-in_order : goal.returns-in-Ok-clause-in_order
returns-in-Ok-clause-in_order g c = λ w h.
    certificate_one c.args.inst.now c.tasks-tasks.ensures.line c.tasks-tasks.ensures.ranked c.args.cert.now c.args.steps
    c.verify_found.result w c.verify_found.ensures.verdict h
