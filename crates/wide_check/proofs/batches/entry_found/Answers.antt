use Rattle.wide_check.proofs.batches.entry_found.Goals as goal

pub check_entry-requires-clause-set : goal.check_entry-requires-clause-set
check_entry-requires-clause-set c = let r = c.requires.range.each c.args.k c.at.result.now c.at.ensures in
    record { truths = r.set.truths; tasks = r.set.tasks }

pub check_entry-requires-clause-cycle : goal.check_entry-requires-clause-cycle
check_entry-requires-clause-cycle c = let r = c.requires.range.each c.args.k c.at.result.now c.at.ensures in r.cycle

pub returns : goal.returns
returns c = record { entry = c.at.result.now; there = c.at.ensures; found = c.check_entry.ensures }
