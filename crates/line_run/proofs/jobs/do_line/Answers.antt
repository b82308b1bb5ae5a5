use Rattle.line_run.proofs.JobFacts.{page_alone_written, text_alone_told, page_written, text_told}
use Rattle.line_run.proofs.jobs.do_line.Goals as goal

pub returns-in-Balance : goal.returns-in-Balance
returns-in-Balance g c =
    rw (c.in-Balance.is, ← c.kind_of-kind.ensures, ← c.text.ensures, ← c.name_of-apart.ensures)
    (text_alone_told _ _ c.balance_report.result c.balance_report.ensures.ends c.balance_report.ensures.good
    c.balance_report.ensures.fault)

pub returns-in-Convert : goal.returns-in-Convert
returns-in-Convert g c =
    rw (c.in-Convert.is, ← c.text-in-Convert.ensures, ← c.text-in-Convert-2.ensures, ← c.name_of.ensures)
    (page_alone_written _ _ c.convert_report.result c.convert_report.ensures.ends _ c.convert_report.ensures.good
    c.convert_report.ensures.fault)

pub returns-in-Draw : goal.returns-in-Draw
returns-in-Draw g c =
    rw (
      c.in-Draw.is,
      ← c.text-in-Draw.ensures,
      ← c.text-in-Draw-2.ensures,
      ← c.text-in-Draw-3.ensures,
      ← c.name_of-in-Draw.ensures,
    )
    (page_written _ _ c.draw_report.result c.draw_report.ensures.ends _ _ c.draw_report.ensures.good
    c.draw_report.ensures.fault c.draw_report.ensures.promise)

pub returns-in-Plan : goal.returns-in-Plan
returns-in-Plan g c =
    rw (c.in-Plan.is, ← c.text-in-Plan.ensures, ← c.text-in-Plan-2.ensures, ← c.name_of-in-Plan.ensures)
    (text_told _ _ c.plan_report.result c.plan_report.ensures.ends _ c.plan_report.ensures.good
    c.plan_report.ensures.fault c.plan_report.ensures.true_plan)
