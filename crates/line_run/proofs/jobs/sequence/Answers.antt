use Rattle.line_run.proofs.JobFacts.{search_done}
use Rattle.line_run.proofs.jobs.sequence.Goals as goal

pub returns : goal.returns
returns g c =
    rw (← c.text.ensures, ← c.text-2.ensures, ← c.name_of.ensures)
    (search_done _ _ c.sequence_report.result c.sequence_report.ensures.ends _ _ c.sequence_report.ensures.good
    c.sequence_report.ensures.fault c.sequence_report.ensures.unwritten c.sequence_report.ensures.promise)
