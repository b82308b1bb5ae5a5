use Rattle.std.proofs.Common.{◌∙◌, sym}
use Rattle.sequence_cert.proofs.StateLines.{entry_none, entry_judged}
use Rattle.sequence_cert.proofs.lines.StateEntryLinePattern.read.Goals as goal

pub returns-in-Ok-None : goal.returns-in-Ok-None
returns-in-Ok-None c =
    entry_none c.args.self.now.version c.args.self.now.models c.args.self.now.stations c.args.line.now
    (sym c.in-Ok-None.ensures ∙ c.in-Ok-None.field-0-is)

pub returns-in-Ok-Some : goal.returns-in-Ok-Some
returns-in-Ok-Some c =
    entry_judged c.args.self.now.version c.args.self.now.models c.args.self.now.stations c.args.line.now
    c.in-Ok-Some.entry c.entry_within.result
    (sym c.in-Ok-Some.ensures ∙ c.in-Ok-Some.field-0-is) c.entry_within.ensures
