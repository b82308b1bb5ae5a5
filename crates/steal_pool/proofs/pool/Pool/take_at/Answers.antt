use Rattle.std.proofs.Common.{rules, arith}
use Rattle.steal_pool.proofs.Ports.{standing_at, may_take, as_many, some_at, none_at}
use Rattle.steal_pool.proofs.pool.Pool.take_at.Goals as goal

pub take-requires : goal.take-requires
take-requires g c = record {
  port = may_take c.index_mut-port.result.now c.index.result.now
      (standing_at c.args.ports.now.items c.args.self.now c.args.k c.index_mut-port.result.now c.index.result.now
      c.requires.ports c.requires.below (search rules) (search rules));
}

pub returns-clause-some : goal.returns-clause-some
returns-clause-some g c =
    let n = as_many c.args.ports.now.items c.args.self.now c.requires.ports in
    some_at c.take.result c.args.ports.now.items c.args.k c.index_mut-port.result.now c.take.new.port
    (omega (arith, c.requires.below)) c.index_mut-port.ensures.value c.take.ensures.some

pub returns-clause-none : goal.returns-clause-none
returns-clause-none g c =
    let n = as_many c.args.ports.now.items c.args.self.now c.requires.ports in
    none_at c.take.result c.args.ports.now.items c.args.k c.index_mut-port.result.now c.take.new.port
    (omega (arith, c.requires.below)) c.index_mut-port.ensures.value c.take.ensures.none
