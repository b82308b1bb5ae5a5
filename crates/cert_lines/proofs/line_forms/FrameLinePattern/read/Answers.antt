use Rattle.std.proofs.Common.{◌∙◌, sym}
use Rattle.cert_lines.proofs.JudgedEntry.{frame_none}
use Rattle.cert_lines.proofs.JudgedResult.{frame_judged}
use Rattle.cert_lines.proofs.line_forms.FrameLinePattern.read.Goals as goal

pub returns-in-Ok-None : goal.returns-in-Ok-None
returns-in-Ok-None c = frame_none c.args.self.now.tasks c.args.self.now.count c.args.line.now
    (sym c.in-Ok-None.ensures ∙ c.in-Ok-None.field-0-is)

pub returns-in-Ok-Some : goal.returns-in-Ok-Some
returns-in-Ok-Some c =
    frame_judged c.args.self.now.tasks c.args.self.now.count c.args.line.now c.in-Ok-Some.draft c.frame_within.result
    c.requires.1 c.requires.2 (sym c.in-Ok-Some.ensures ∙ c.in-Ok-Some.field-0-is) c.frame_within.ensures
