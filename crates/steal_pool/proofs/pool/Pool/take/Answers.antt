use Rattle.std.proofs.Common.{◌+◌, List, length, sym, ap, ◌∙◌, subst, rules, arith}
use Rattle.steal_pool.specs.Hands.{DequeId, HandView, IsHandOf}
use Rattle.steal_pool.specs.Calls.{took_from, found_at}
use Rattle.steal_pool.proofs.Ports.{takes_one, looks_before, looks_next, looks_all, as_many, gets_own, gets_one}
use Rattle.steal_pool.proofs.Ports.{finds_none}
use Rattle.steal_pool.proofs.pool.Pool.take.Goals as goal

pub returns-in-Some-clause-hand : goal.returns-in-Some-clause-hand
returns-in-Some-clause-hand g c = (
  subst (λ (z : HandView). IsHandOf c.args.self.now z) (sym c.in-Some.ensures.some)
      (takes_one c.args.self.now c.args.hand.now c.args.hand.now.name c.in-Some.piece c.requires),
  ap (λ (z : HandView). z.name) c.in-Some.ensures.some,
)

pub returns-in-Some-clause-lists : goal.returns-in-Some-clause-lists
returns-in-Some-clause-lists g c = gets_own c.args.self.now c.args.hand.now c.take_own.new.hand c.in-Some.piece
    c.requires c.in-Some.ensures.some

pub take_from-requires-clause-hand : goal.take_from-requires-clause-hand
take_from-requires-clause-hand g c =
    subst (λ (z : HandView). IsHandOf c.args.self.now z) (sym c.loop-k.invariant)
    (looks_before c.args.self.now c.args.hand.now c.loop-k.k c.requires)

pub returns-in-Some-take_from-clause-hand : goal.returns-in-Some-take_from-clause-hand
returns-in-Some-take_from-clause-hand g c =
    let h = subst (λ (z : HandView). IsHandOf c.args.self.now z) (sym c.loop-k.invariant)
    (looks_before c.args.self.now c.args.hand.now c.loop-k.k c.requires) in (
      subst (λ (z : HandView). IsHandOf c.args.self.now z) (sym c.in-Some-take_from.ensures.some)
          (takes_one c.args.self.now c.loop-k.hand c.loop-k.k c.in-Some-take_from.piece h),
      ap (λ (z : HandView). z.name) c.in-Some-take_from.ensures.some ∙ ap (λ (z : HandView). z.name) c.loop-k.invariant,
    )

pub returns-in-Some-take_from-clause-lists : goal.returns-in-Some-take_from-clause-lists
returns-in-Some-take_from-clause-lists g c =
    gets_one c.args.hand.now c.take_from.new.hand c.loop-k.k c.in-Some-take_from.piece
    (omega (
      arith,
      c.loop-k-test.true,
      c.len-k-end.ensures,
      as_many c.args.hand.now.ports c.args.self.now c.requires.ports,
      ap (λ (l : List DequeId). length l) c.self.view_is,
      c.self.inside.deques.ok.0,
    ))
    (c.in-Some-take_from.ensures.some ∙ ap (λ (z : HandView). took_from c.loop-k.k c.in-Some-take_from.piece z)
    c.loop-k.invariant)

pub loop-k-preserved : goal.loop-k-preserved
loop-k-preserved g c =
    c.in-None.ensures.none ∙ ap (λ (z : HandView). found_at c.loop-k.k z) c.loop-k.invariant
    ∙ looks_next (c.loop-k.k + 1) c.loop-k.k c.args.hand.now (omega arith)

pub returns-clause-hand : goal.returns-clause-hand
returns-clause-hand g c = (
  subst (λ (z : HandView). IsHandOf c.args.self.now z) (sym c.loop-k.invariant)
      (looks_before c.args.self.now c.args.hand.now c.loop-k.k c.requires),
  ap (λ (z : HandView). z.name) c.loop-k.invariant,
)

pub returns-clause-takes : goal.returns-clause-takes
returns-clause-takes g c =
    let n = as_many c.args.hand.now.ports c.args.self.now c.requires.ports in
    c.loop-k.invariant ∙ looks_all c.loop-k.k c.args.hand.now (search rules)

pub returns-clause-lists : goal.returns-clause-lists
returns-clause-lists g c =
    let n = as_many c.args.hand.now.ports c.args.self.now c.requires.ports in
    finds_none c.args.self.now c.args.hand.now c.loop-k.hand c.requires
    (c.loop-k.invariant ∙ looks_all c.loop-k.k c.args.hand.now (search rules))
