use Rattle.sequence_table.proofs.TableFacts.{leads_known}
use Rattle.sequence_table.proofs.table.Table.open.Goals as goal

pub set_next-requires-clause-next : goal.set_next-requires-clause-next
set_next-requires-clause-next c = leads_known c.args.self.now c.args.node c.args.model c.in-Some.next
    c.lead.new.led c.in-Some.ensures.some c.lead.ensures.led
