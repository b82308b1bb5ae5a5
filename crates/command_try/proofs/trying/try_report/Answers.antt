use Rattle.std.proofs.Common.{ap, ◌∙◌, length}
use Rattle.line_instance.specs.Line.{tasks}
use Rattle.line_generator.proofs.Drawings.{many_times}
use Rattle.command_try.proofs.ShownFacts.{shown_of, status_shown}
use Rattle.command_try.proofs.trying.try_report.Goals as goal

pub returns-clause-tried : goal.returns-clause-tried
returns-clause-tried g c = record {
  line = c.in-Good.inst;
  drawn = c.in-Good.ensures;
  shown = shown_of c.args.kind c.in-Good.inst c.args.seed c.args.tasks c.args.cycle c.args.units
      c.in_ok-report_of.field-0 (ap length c.in-Good.ensures.times ∙ many_times c.args.seed c.args.tasks)
      c.in_ok-report_of.ensures;
}

pub returns-clause-good : goal.returns-clause-good
returns-clause-good g c = status_shown c.args.kind c.in-Good.inst c.args.seed (tasks c.in-Good.inst) c.args.cycle
    c.args.units c.in_ok-report_of.field-0 c.in_ok-report_of.ensures
