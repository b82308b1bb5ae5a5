use Rattle.sequence_table.specs.inner.Kept.{nodes_of}
use Rattle.sequence_table.proofs.TableFacts.{like_pushed}
use Rattle.sequence_table.proofs.table.Table.add.Goals as goal

pub invariant_of-self-2 : goal.invariant_of-self-2
invariant_of-self-2 c =
    like_pushed
    (nodes_of c.self.inside.times c.self.inside.interval c.self.inside.reach c.self.inside.starts
    c.self.inside.nexts.items)
    c.args.self.now c.args.node c.args.model c.len-added.result c.args.led.now c.from_vec-starts.result
    c.in_ok-from_slice.field-0.items c.push.new.self c.push_like.new.nexts.items c.reserve.new.self.items
    c.self.view_is c.self.invariant c.requires.node c.requires.model c.requires.led c.requires.within c.requires.none
    c.requires.room c.in_ok-push.ensures.ok c.from_vec-starts.ensures c.in_ok-from_slice.ensures.items
    c.in_ok-reserve.ensures.items c.len-added.ensures c.push_like.ensures

pub returns-clause-table : goal.returns-clause-table
returns-clause-table c =
    like_pushed
    (nodes_of c.self.inside.times c.self.inside.interval c.self.inside.reach c.self.inside.starts
    c.self.inside.nexts.items)
    c.args.self.now c.args.node c.args.model c.len-added.result c.args.led.now c.from_vec-starts.result
    c.in_ok-from_slice.field-0.items c.push.new.self c.push_like.new.nexts.items c.reserve.new.self.items
    c.self.view_is c.self.invariant c.requires.node c.requires.model c.requires.led c.requires.within c.requires.none
    c.requires.room c.in_ok-push.ensures.ok c.from_vec-starts.ensures c.in_ok-from_slice.ensures.items
    c.in_ok-reserve.ensures.items c.len-added.ensures c.push_like.ensures
