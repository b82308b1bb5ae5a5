use Rattle.line_run.proofs.PageFacts.{page_so, done_answers}
use Rattle.line_run.proofs.JobFacts.{page_told, nothing_promised}
use Rattle.line_run.proofs.jobs.do_job.Goals as goal

pub returns-in-Page : goal.returns-in-Page
returns-in-Page g c =
    rw (c.in-Page.is)
    (page_told _ _ _ _ _ _ _ _ _ c.page_report.result (page_so _ c.page_report.result c.page_report.ensures.status
    c.page_report.ensures.text c.page_report.ensures.kept) (done_answers c.page_report.result
    c.page_report.ensures.status) c.page_report.ensures.memory (nothing_promised c.page_report.result))
