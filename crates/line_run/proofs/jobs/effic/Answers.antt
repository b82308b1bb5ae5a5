use Rattle.line_run.proofs.JobFacts.{search_done}
use Rattle.line_run.proofs.jobs.effic.Goals as goal

pub returns : goal.returns
returns g c =
    rw (← c.plan_of-plan.ensures, ← c.kind_of-kind.ensures, ← c.text.ensures, ← c.name_of.ensures)
    (search_done _ _ c.effic_report.result c.effic_report.ensures.ends _ _ c.effic_report.ensures.good
    c.effic_report.ensures.fault c.effic_report.ensures.unwritten c.effic_report.ensures.promise)
