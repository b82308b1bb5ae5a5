use Rattle.laws_form.proofs.RunFacts.{every_chain}
use Rattle.laws_form.proofs.laws.every_chain_keeps_its_line.Goals as goal

pub returns : goal.returns
returns c = every_chain
