use Rattle.std.proofs.Common.{rules, arith, ◌≡◌, ◌∙◌, ◌+◌, ◌++◌, sym, ap, take}
use Rattle.std.specs.Prelude.{codes, decimal}
use Rattle.in2_reader.specs.Texts.{ring_text, task_text}
use Rattle.std.proofs.Output.{has_written_append, has_written_of_eq}
use Rattle.line_io.proofs.PrintedItems.{next_text}
use Rattle.in2_reader.proofs.text.RingTasksDisplay.fmt.Goals as goal

pub loop-k-preserved : goal.loop-k-preserved
loop-k-preserved g c = λ p.
    let next : ring_text (take c.loop-k.k c.args.self.now.ring.now)
    ++ (codes " " ++ decimal (c.from.result + 1)) ≡ ring_text (take (c.loop-k.k + 1) c.args.self.now.ring.now) =
    next_text task_text c.args.self.now.ring.now c.loop-k.k 0 _ (omega arith)
    (ap task_text (sym (c.from.ensures ∙ c.at.ensures))) in
    has_written_of_eq _ _ _ _ _ next (has_written_append _ _ _ _ _ _ (c.loop-k.invariant p) (search rules))
