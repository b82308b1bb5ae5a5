use Rattle.std.proofs.Common.{rules, arith}
use Rattle.steal_pool.proofs.Ports.{standing_at, may_take, as_many, some_home, none_home, home_at}
use Rattle.steal_pool.proofs.pool.Pool.take_home.Goals as goal

pub take_own-requires-clause-home : goal.take_own-requires-clause-home
take_own-requires-clause-home g c = home_at c.args.self.now c.args.k c.args.home.now.deque c.index.result.now
    c.requires.below c.requires.home (search rules)

pub take_own-requires-clause-port : goal.take_own-requires-clause-port
take_own-requires-clause-port g c =
    may_take c.index_mut-port.result.now c.index.result.now
    (standing_at c.args.ports.now.items c.args.self.now c.args.k c.index_mut-port.result.now c.index.result.now
    c.requires.ports c.requires.below (search rules) (search rules))

pub returns-clause-some : goal.returns-clause-some
returns-clause-some g c =
    let n = as_many c.args.ports.now.items c.args.self.now c.requires.ports in
    some_home c.take_own.result c.args.home.now c.take_own.new.home c.args.ports.now.items c.args.k
    c.index_mut-port.result.now c.take_own.new.port (omega (arith, c.requires.below)) c.index_mut-port.ensures.value
    c.take_own.ensures.some

pub returns-clause-none : goal.returns-clause-none
returns-clause-none g c =
    let n = as_many c.args.ports.now.items c.args.self.now c.requires.ports in
    none_home c.take_own.result c.args.home.now c.take_own.new.home c.args.ports.now.items c.args.k
    c.index_mut-port.result.now c.take_own.new.port (omega (arith, c.requires.below)) c.index_mut-port.ensures.value
    c.take_own.ensures.none
