use Rattle.std.proofs.Common.{◌∙◌}
use Rattle.task_table.proofs.ListFacts.{kept_last, blank_last}
use Rattle.task_table.proofs.lists.up_to_blanks.Goals as goal

pub returns-then-last-ne32 : goal.returns-then-last-ne32
returns-then-last-ne32 c = kept_last c.loop-kept.kept.now c.in-len1-up.len_at_least c.if-last-ne32.true
    ∙ c.loop-kept.invariant

pub loop-kept-preserved : goal.loop-kept-preserved
loop-kept-preserved c = blank_last c.loop-kept.kept.now c.in-len1-up.len_at_least c.if-last-ne32.false
    ∙ c.loop-kept.invariant
