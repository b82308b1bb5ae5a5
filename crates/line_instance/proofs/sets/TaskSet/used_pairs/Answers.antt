use Rattle.std.proofs.Common.{◌∙◌, sym, ◌-◌, arith}
use Rattle.line_instance.specs.Tags.{pairs_of}
use Rattle.line_instance.proofs.UsedPairs.{none_used, last_used, past_pairs}
use Rattle.line_instance.proofs.sets.TaskSet.used_pairs.Goals as goal

pub loop-k-init : goal.loop-k-init
loop-k-init c = λ j past. past_pairs c.args.self.now j past

pub returns-then-pair-ne0-clause-value : goal.returns-then-pair-ne0-clause-value
returns-then-pair-ne0-clause-value c =
    sym (last_used (pairs_of c.args.self.now) (c.loop-k.k - 1) (λ e. c.if-pair-ne0.true (c.pair.ensures ∙ e))
    (λ j l. c.loop-k.invariant j (omega arith)))

pub returns-clause-value : goal.returns-clause-value
returns-clause-value c = sym (none_used (pairs_of c.args.self.now) (λ j. c.loop-k.invariant j (omega arith)))
