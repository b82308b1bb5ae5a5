use Rattle.std.proofs.Common.{◌∙◌, ap, sym}
use Rattle.alb_reader.specs.Faults.{mark_fault}
use Rattle.alb_reader.proofs.SectionFacts.{end_draft, heading_taken}
use Rattle.alb_reader.proofs.draft.Draft.take.Goals as goal

pub returns-in-Heading : goal.returns-in-Heading
returns-in-Heading c = λ before h. heading_taken before (c.args.line, c.args.content.now) c.in-Heading.section
    c.args.self.now c.open.new.self c.open.result h (sym c.requires ∙ c.in-Heading.is)
    c.open.ensures.opened c.open.ensures.seen c.open.ensures.wrong c.open.ensures.kind

pub returns-in-End : goal.returns-in-End
returns-in-End c = λ before h. (
  ap (mark_fault before c.args.content.now) (sym c.requires ∙ c.in-End.is),
  end_draft before (c.args.line, c.args.content.now) c.args.self.now h (sym c.requires ∙ c.in-End.is),
)
