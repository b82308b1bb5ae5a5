use Rattle.std.proofs.Common.{length, sym, ◌∙◌}
use Rattle.std.proofs.lemmas.Bool.{eqb-true}
use Rattle.cycle_search.proofs.BehindFacts.{behind_none, item_cites}
use Rattle.cycle_search.proofs.joining.joined.Goals as goal

pub returns-then-is_empty : goal.returns-then-is_empty
returns-then-is_empty c =
    behind_none c.args.proof c.args.entries
    (eqb-true (length c.args.proof) 0 (sym c.is_empty.ensures ∙ c.if-is_empty.true))

pub raise_entry-requires-clause-entry : goal.raise_entry-requires-clause-entry
raise_entry-requires-clause-entry c =
    item_cites _ c.loop-entry.entry-index c.args.entries c.as_slice-entry-items.result.now c.entry-item.result
    c.requires.cites c.as_slice-entry-items.ensures c.len-2.ensures c.loop-entry-test.true c.entry-item.is
