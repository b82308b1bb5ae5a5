use Rattle.std.specs.Vec.Iter.{into_iter_items}
use Rattle.lemma_core.proofs.MidRun.{IsMidRun}
use Rattle.lemma_core.proofs.event_run.run_events.Given as goal

abbrev pub invariant-loop-event : goal.invariant-loop-event
invariant-loop-event l = IsMidRun l.fn.book l.fn.events.items l.fn.replies.items l.book l.replies.items
    (into_iter_items l.event-iterator)
