use Rattle.cert_text.proofs.LiftFacts.{entry_of_part}
use Rattle.cert_text.proofs.lifting.append.Goals as goal

pub lift_entry-requires-clause-entry : goal.lift_entry-requires-clause-entry
lift_entry-requires-clause-entry c =
    entry_of_part c.requires.part.0 _ c.loop-entry.entry-index c.args.part.now c.as_slice-entry-items.result.now
    c.entry-item.result c.requires.part.1 c.as_slice-entry-items.ensures c.len-count.ensures c.loop-entry-test.true
    c.entry-item.is
