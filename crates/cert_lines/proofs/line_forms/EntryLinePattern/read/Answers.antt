use Rattle.std.proofs.Common.{◌∙◌, sym}
use Rattle.cert_lines.proofs.JudgedEntry.{entry_none}
use Rattle.cert_lines.proofs.JudgedResult.{entry_judged}
use Rattle.cert_lines.proofs.line_forms.EntryLinePattern.read.Goals as goal

pub returns-in-Ok-None : goal.returns-in-Ok-None
returns-in-Ok-None c = entry_none c.args.self.now.tasks c.args.self.now.count c.args.self.now.given
    c.args.self.now.pairs c.args.line.now (sym c.in-Ok-None.ensures ∙ c.in-Ok-None.field-0-is)

pub returns-in-Ok-Some : goal.returns-in-Ok-Some
returns-in-Ok-Some c =
    entry_judged c.args.self.now.tasks c.args.self.now.count c.args.self.now.given c.args.self.now.pairs
    c.args.line.now c.in-Ok-Some.draft c.entry_within.result c.requires.1 c.requires.2 c.requires.3
    (sym c.in-Ok-Some.ensures ∙ c.in-Ok-Some.field-0-is) c.entry_within.ensures
