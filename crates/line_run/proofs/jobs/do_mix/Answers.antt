use Rattle.line_run.proofs.JobFacts.{page_alone_written, text_alone_told, page_written}
use Rattle.line_run.proofs.jobs.do_mix.Goals as goal

pub returns-in-Combine : goal.returns-in-Combine
returns-in-Combine g c =
    rw (c.in-Combine.is, ← c.text.ensures, ← c.text-in-Combine.ensures)
    (page_alone_written _ _ c.combine_report.result c.combine_report.ensures.ends _ c.combine_report.ensures.good
    c.combine_report.ensures.fault)

pub returns-in-Utility : goal.returns-in-Utility
returns-in-Utility g c =
    rw (c.in-Utility.is, ← c.text-in-Utility.ensures, ← c.text-in-Utility-2.ensures, ← c.text-in-Utility-3.ensures)
    (text_alone_told _ _ c.utility_report.result c.utility_report.ensures.ends c.utility_report.ensures.good
    c.utility_report.ensures.fault)

pub returns-in-Timeline : goal.returns-in-Timeline
returns-in-Timeline g c =
    rw (
      c.in-Timeline.is,
      ← c.text-in-Timeline.ensures,
      ← c.text-in-Timeline-2.ensures,
      ← c.text-in-Timeline-3.ensures,
    )
    (text_alone_told _ _ c.timeline_report.result c.timeline_report.ensures.ends c.timeline_report.ensures.good
    c.timeline_report.ensures.fault)

pub returns-in-TimelineDraw : goal.returns-in-TimelineDraw
returns-in-TimelineDraw g c =
    rw (
      c.in-TimelineDraw.is,
      ← c.text-in-TimelineDraw.ensures,
      ← c.text-in-TimelineDraw-2.ensures,
      ← c.text-in-TimelineDraw-3.ensures,
      ← c.text-in-TimelineDraw-4.ensures,
    )
    (page_written _ _ c.timeline_draw_report.result c.timeline_draw_report.ensures.ends _ _
    c.timeline_draw_report.ensures.good c.timeline_draw_report.ensures.fault c.timeline_draw_report.ensures.promise)
