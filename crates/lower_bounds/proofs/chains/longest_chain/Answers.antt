use Rattle.std.proofs.Common.{arith}
use Rattle.line_rules.proofs.SumsOverMembers.{all_in_start}
use Rattle.line_rules.proofs.HeadTail.{chain_start, no_chain, few_chained}
use Rattle.lower_bounds.proofs.chains.longest_chain.Goals as goal

pub returns-in-U : goal.returns-in-U
returns-in-U c = omega (arith, no_chain c.args.kind c.in-U.is c.args.inst.now c.args.cycle c.args.set.now)

pub loop-j-init : goal.loop-j-init
loop-j-init c =
    let e = c.into_iter-j-iterator.ensures.into_iter_gives in
    record {
      can_next = tt;
      finite = tt;
      witness = c.tasks-tasks.ensures.line.some;
      members = all_in_start _ _ e;
      so_far = chain_start c.args.kind c.in-Straight.is _ _ _ _ _ c.requires.set e;
    }

pub returns-then-from-enough : goal.returns-then-from-enough
returns-then-from-enough c =
    omega (
      arith,
      few_chained c.args.kind c.args.inst.now c.tasks-tasks.ensures.line c.args.cycle c.requires.some
          c.args.set.now c.requires.set c.args.least c.args.times.total c.args.times.longest c.requires.times.total
          c.requires.times.longest (omega (arith, c.enough.ensures, c.from.ensures, c.if-from-enough.true)),
    )
