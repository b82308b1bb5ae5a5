use Rattle.std.proofs.Common.{refl}
use Rattle.line_words.specs.Words.{texts}
use Rattle.line_run.proofs.RanFacts.{job_done, fault_told}
use Rattle.line_run.proofs.program.do_words.Goals as goal

pub returns-in-Good : goal.returns-in-Good
returns-in-Good g c =
    job_done (texts c.args.words.now) _ c.in-Good.job c.do_job.result c.in-Good.ensures.read c.do_job.ensures

pub returns-in_ok-usage_report-in-Usage : goal.returns-in_ok-usage_report-in-Usage
returns-in_ok-usage_report-in-Usage g c =
    fault_told (texts c.args.words.now) _ c.in-Usage.index c.in-Usage.kind c.in_ok-usage_report-in-Usage.field-0
    (λ q. refl) c.in-Usage.ensures.read c.in_ok-usage_report-in-Usage.ensures.status
    c.in_ok-usage_report-in-Usage.ensures.text c.in_ok-usage_report-in-Usage.ensures.kept
