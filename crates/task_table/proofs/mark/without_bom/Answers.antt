use Rattle.std.proofs.Common.{◌∙◌, sym}
use Rattle.task_table.proofs.MarkFacts.{bom_cut, no_bom}
use Rattle.task_table.proofs.mark.without_bom.Goals as goal

pub returns-then-has_bom : goal.returns-then-has_bom
returns-then-has_bom c = bom_cut c.args.bytes.now (sym c.has_bom.ensures ∙ c.if-has_bom.true)

pub returns : goal.returns
returns c = no_bom c.args.bytes.now (sym c.has_bom.ensures ∙ c.if-has_bom.false)
