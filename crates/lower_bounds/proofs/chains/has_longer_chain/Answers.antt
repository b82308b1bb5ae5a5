use Rattle.std.proofs.Common.{◌∙◌, ap, arith}
use Rattle.line_instance.specs.Truths.{meet, members_of}
use Rattle.line_instance.proofs.Members.{In-meet_parts}
use Rattle.line_rules.proofs.SumsOverMembers.{all_in_start, all_in_turn}
use Rattle.line_rules.proofs.HeadTail.{no_chain, few_chained}
use Rattle.line_rules.proofs.ChainFacts.{chained_start}
use Rattle.lower_bounds.proofs.chains.has_longer_chain.Goals as goal

pub returns-in-U : goal.returns-in-U
returns-in-U c = (
  λ e. absurd (cc),
  λ l. absurd (omega (
    arith,
    l,
    no_chain c.args.kind c.in-U.is c.args.inst.now c.args.cycle c.args.set.now,
  )),
)

pub loop-j-init : goal.loop-j-init
loop-j-init c =
    let e = c.into_iter-j-iterator.ensures.into_iter_gives in
    record {
      can_next = tt;
      finite = tt;
      witness = c.tasks-tasks.ensures.line.some;
      members = all_in_start _ _ (e ∙ ap members_of c.meet-chosen.ensures.value);
      so_far = chained_start c.args.inst.now c.args.cycle c.args.set.now c.requires.set c.args.most c.args.kind
          c.in-Straight.is c.args.asked.now _ c.requires.asked (e ∙ ap members_of c.meet-chosen.ensures.value);
    }

pub returns-then-from-enough : goal.returns-then-from-enough
returns-then-from-enough c = (
  λ e. absurd (cc),
  λ l. absurd (omega (
    arith,
    l,
    few_chained c.args.kind c.args.inst.now c.tasks-tasks.ensures.line c.args.cycle
        c.requires.some c.args.set.now c.requires.set c.args.most c.args.times.total c.args.times.longest
        c.requires.times.total c.requires.times.longest (omega
        (arith, c.enough.ensures, c.from.ensures, c.if-from-enough.true)),
  )),
)

pub around-requires-clause-member : goal.around-requires-clause-member
around-requires-clause-member c = (In-meet_parts c.args.set.now c.args.asked.now c.in-Some.j
    (all_in_turn (meet c.args.set.now c.args.asked.now) c.loop-j.j-iterator c.next.new.self c.in-Some.j
    c.in-Some.ensures.steps c.loop-j.invariant.members).0).0
