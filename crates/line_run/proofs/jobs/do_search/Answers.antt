use Rattle.line_run.proofs.PageFacts.{tried_so}
use Rattle.line_run.proofs.JobFacts.{page_told}
use Rattle.line_run.proofs.jobs.do_search.Goals as goal

pub returns-in-Try : goal.returns-in-Try
returns-in-Try g c =
    rw (c.in-Try.is, ← c.kind_of-kind.ensures)
    (page_told _ _ _ _ _ _ _ _ _ c.try_report.result (tried_so _ _ _ _ _ c.try_report.result
    c.try_report.ensures.tried) c.try_report.ensures.good c.try_report.ensures.memory c.try_report.ensures.tried)
