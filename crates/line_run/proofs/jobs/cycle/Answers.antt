use Rattle.line_run.proofs.JobFacts.{search_done}
use Rattle.line_run.proofs.jobs.cycle.Goals as goal

pub returns : goal.returns
returns g c =
    rw (← c.plan_of-plan.ensures, ← c.kind_of-kind.ensures, ← c.text.ensures, ← c.name_of.ensures)
    (search_done _ _ c.cycle_report.result c.cycle_report.ensures.ends _ _ c.cycle_report.ensures.good
    c.cycle_report.ensures.fault c.cycle_report.ensures.unwritten c.cycle_report.ensures.promise)
