use Rattle.line_run.proofs.JobFacts.{search_done}
use Rattle.line_run.proofs.jobs.solve.Goals as goal

pub returns : goal.returns
returns g c =
    rw (
      ← c.units_of.ensures.value,
      ← c.plan_of-plan.ensures,
      ← c.effort_of-effort.ensures.value,
      ← c.kind_of-kind.ensures,
      ← c.name_of-cert.ensures,
      ← c.text.ensures,
      ← c.name_of.ensures,
      ← c.name_of-2.ensures,
    )
    (search_done _ _ c.solve_report.result c.solve_report.ensures.ends _ _ c.solve_report.ensures.good
    c.solve_report.ensures.fault c.solve_report.ensures.unwritten c.solve_report.ensures.promise)
