use Rattle.command_effic.proofs.print_verdict.push_place.Goals as goal

pub returns-in-Broken : goal.returns-in-Broken
returns-in-Broken c = rw c.in-Broken.is c.push_pair.ensures
