use Rattle.line_run.proofs.JobFacts.{check_done}
use Rattle.line_run.proofs.jobs.do_check.Goals as goal

pub returns-in-LineCheck : goal.returns-in-LineCheck
returns-in-LineCheck g c =
    rw (c.in-LineCheck.is, ← c.text.ensures, ← c.text-in-LineCheck.ensures, ← c.name_of.ensures)
    (check_done _ _ c.check_report.result c.check_report.ensures.ends _ c.check_report.ensures.good
    c.check_report.ensures.kept c.check_report.ensures.true_bounds c.check_report.ensures.fault)

pub returns-in-EfficCheck : goal.returns-in-EfficCheck
returns-in-EfficCheck g c =
    rw (c.in-EfficCheck.is, ← c.text-in-EfficCheck.ensures, ← c.text-in-EfficCheck-2.ensures)
    (check_done _ _ c.effic_check_report.result c.effic_check_report.ensures.ends _
    c.effic_check_report.ensures.good c.effic_check_report.ensures.kept c.effic_check_report.ensures.true_bounds
    c.effic_check_report.ensures.fault)

pub returns-in-SequenceCheck : goal.returns-in-SequenceCheck
returns-in-SequenceCheck g c =
    rw (
      c.in-SequenceCheck.is,
      ← c.text-in-SequenceCheck.ensures,
      ← c.text-in-SequenceCheck-2.ensures,
      ← c.text-in-SequenceCheck-3.ensures,
    )
    (check_done _ _ c.sequence_check_report.result c.sequence_check_report.ensures.ends _
    c.sequence_check_report.ensures.good c.sequence_check_report.ensures.kept
    c.sequence_check_report.ensures.true_bounds c.sequence_check_report.ensures.fault)
