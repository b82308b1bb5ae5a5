use Rattle.std.proofs.Common.{◌<◌, Bool, List, sym, subst}
use Rattle.line_instance.specs.Truths.{In}
use Rattle.line_instance.proofs.Members.{members}
use Rattle.line_rules.proofs.MembersInOrder.{all_left, members_less}
use Rattle.pair_rule.proofs.EachTwo.{Faces, two_turn}
use Rattle.pair_rule.proofs.conflicts.each_two_conflict.Goals as goal

pub left-init : goal.left-init
left-init c = all_left (In c.args.two.now)
    (Faces c.args.kind c.args.inst.now c.args.cycle c.args.set.now c.args.two.now) c.args.two.now
    c.capacity-truths.ensures.truths (λ j. (λ m. m, λ m. m))

pub left-smaller : goal.left-smaller
left-smaller c = (let P : List Bool → Type 0 = λ s. members s < members c.left.left in
    subst P (sym c.remove.ensures.value) (members_less c.left.left c.in-Some.j c.in-Some.ensures.some.member))

pub left-preserved : goal.left-preserved
left-preserved c = two_turn c.args.kind c.args.inst.now c.args.cycle c.args.set.now c.args.two.now
    c.left.left c.in-Some.j c.remove.new.self c.left.invariant c.in-Some.ensures.some.member
    c.remove.ensures.value c.tasks-tasks.ensures.line (c.each_conflicts.ensures.0 c.if-not-each_conflicts.false)
