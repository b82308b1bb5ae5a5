use Rattle.mix_files.proofs.balance_file.push_check.Goals as goal

pub returns-in-Broken : goal.returns-in-Broken
returns-in-Broken c = rw c.in-Broken.is c.push_pair.ensures

pub returns-in-Together : goal.returns-in-Together
returns-in-Together c = rw c.in-Together.is c.push_pair-in-Together.ensures
