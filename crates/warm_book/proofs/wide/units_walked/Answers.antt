use Rattle.warm_book.proofs.wide.units_walked.Goals as goal

pub check_entry-requires-clause-set : goal.check_entry-requires-clause-set
check_entry-requires-clause-set c =
    let r = c.requires.range.each c.args.k c.at-entry.result.now c.at-entry.ensures in
    record { truths = r.set.truths; tasks = r.set.tasks }

pub check_entry-requires-clause-cycle : goal.check_entry-requires-clause-cycle
check_entry-requires-clause-cycle c =
    let r = c.requires.range.each c.args.k c.at-entry.result.now c.at-entry.ensures in
    r.cycle

pub returns-in-Right : goal.returns-in-Right
returns-in-Right c = record {
  entry = c.at-entry.result.now;
  there = c.at-entry.ensures;
  walked = record { follows = c.in-Right.ensures.0; counted = c.in-Right.ensures.1 };
}
