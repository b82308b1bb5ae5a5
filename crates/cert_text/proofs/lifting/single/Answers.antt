use Rattle.cert_text.proofs.LiftFacts.{single_entries, single_trail}
use Rattle.cert_text.proofs.lifting.single.Goals as goal

pub returns-clause-entries : goal.returns-clause-entries
returns-clause-entries c = single_entries c.requires.0 c.args.part c.requires.1

pub returns-clause-trail : goal.returns-clause-trail
returns-clause-trail c = single_trail c.args.part c.trail_at.result c.trail_at.ensures
