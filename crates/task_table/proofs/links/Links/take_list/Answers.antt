use Rattle.std.proofs.Common.{◌≡◌, ◌∙◌, sym, subst, arith, rules, false, nat_eq, Some, None, Err, Result, take}
use Rattle.std.specs.Prelude.{position}
use Rattle.std.specs.List.{list_all}
use Rattle.std.proofs.lemmas.Grind.{common_steps}
use Rattle.task_table.specs.Lists.{unblanked, members_of}
use Rattle.task_table.specs.inner.Reading.{Said, LinksSaid, Makes, links_said}
use Rattle.task_table.specs.declared.stop.Stop.{Stop}
use Rattle.task_table.proofs.MemberFacts.{last_member, stopped_member, next_member}
use Rattle.task_table.proofs.links.Links.take_list.Goals as goal

pub returns-in_default : goal.returns-in_default
returns-in_default c =
    let some : list_all (λ b. nat_eq b 32) c.args.list.now ≡ false = sym c.is_blank.ensures ∙ c.if-is_blank.false in
    let none : position (λ b. nat_eq b 59) c.parts.left.now ≡ None = search rules in
    let P : Said LinksSaid → Type 0 = Makes c.take.result c.take.new.self in
    subst P (last_member c.args.lookup.now c.args.owner c.args.list.now c.parts.left.now c.args.self.now c.parts.self
    c.unblanked.result.now some c.parts.invariant none c.unblanked.ensures) c.take.ensures

pub returns-in_err-take : goal.returns-in_err-take
returns-in_err-take c =
    let some : list_all (λ b. nat_eq b 32) c.args.list.now ≡ false = sym c.is_blank.ensures ∙ c.if-is_blank.false in
    let part : c.unblanked-in-parts.result.now ≡ unblanked (take c.in-Some.end c.parts.left.now) =
    grind (arith, common_steps) in
    let place : position (λ b. nat_eq b 59) c.parts.left.now ≡ Some c.in-Some.end = sym c.in-Some.ensures.place in
    let is : ◌≡◌ {A = Result (Unit {0}) Stop} c.from_residual.result (Err c.in_err-take.field-0.0) = search rules in
    let P : Result (Unit {0}) Stop → Type 0 = λ r. Makes r c.take-in-parts.new.self
    (links_said c.args.lookup.now c.args.owner (members_of c.args.list.now) c.args.self.now) in
    subst P (sym is) (stopped_member c.args.lookup.now c.args.owner c.args.list.now c.parts.left.now c.args.self.now
    c.parts.self c.in-Some.end c.unblanked-in-parts.result.now c.in_err-take.field-0.0 some c.parts.invariant place part
    c.in_err-take.ensures)

pub overflow_add-left : goal.overflow_add-left
overflow_add-left c = omega (arith, c.in-Some.ensures.small)

pub parts-preserved : goal.parts-preserved
parts-preserved c =
    let part : c.unblanked-in-parts.result.now ≡ unblanked (take c.in-Some.end c.parts.left.now) =
    grind (arith, common_steps) in
    let place : position (λ b. nat_eq b 59) c.parts.left.now ≡ Some c.in-Some.end = sym c.in-Some.ensures.place in
    next_member c.args.lookup.now c.args.owner c.args.list.now c.parts.left.now c.args.self.now c.parts.self
    c.take-in-parts.new.self c.in-Some.end c.unblanked-in-parts.result.now c.parts.invariant place part
    c.in_ok-take.ensures
