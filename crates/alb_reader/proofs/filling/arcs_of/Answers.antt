use Rattle.std.proofs.Common.{◌∙◌, Err, None, sym, subst}
use Rattle.alb_reader.specs.inner.Fillings.{IsArcsRead}
use Rattle.alb_reader.specs.declared.draft.PairLine.{PairLine}
use Rattle.alb_reader.proofs.StatedLines.{arcs_on, arcs_stop}
use Rattle.alb_reader.proofs.filling.arcs_of.Goals as goal

none : PairLine
none = record { line = 0; arc = None }

pub returns-in-None : goal.returns-in-None
unfolding none
returns-in-None c = λ under e.
    subst (λ x. IsArcsRead c.args.tasks under (Err x)) (sym c.fault.ensures)
    (arcs_stop c.args.tasks c.args.lines.now under c.loop-k.k none e c.loop-k-test.true
    (sym c.named_arc.ensures ∙ c.in-None.is) (c.loop-k.invariant under e).0)

pub loop-k-preserved : goal.loop-k-preserved
unfolding none
loop-k-preserved c = λ under e.
    let q = arcs_on c.args.tasks c.args.lines.now under c.loop-k.k none e c.loop-k-test.true c.loop-k.arcs.items
    c.in-Some.arc (sym c.named_arc.ensures ∙ c.in-Some.is) (c.loop-k.invariant under e) in
    (q.0, c.in_ok-push-in-Some.ensures.items ∙ q.1)
