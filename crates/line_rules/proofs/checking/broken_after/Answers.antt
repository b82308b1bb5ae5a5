use Rattle.std.proofs.Common.{◌∙◌, ◌<◌, ℕ, List, Bool, refl, sym, subst, arith}
use Rattle.std.proofs.lemmas.Bool.{false≢true}
use Rattle.line_instance.proofs.Members.{members}
use Rattle.line_instance.specs.Line.{Before}
use Rattle.line_rules.specs.Balance.{Keeps, seat}
use Rattle.line_rules.proofs.MembersInOrder.{IsLeft, all_left, below_least, one_less, none_left, members_less}
use Rattle.line_rules.proofs.ReadPlaces.{breaks, keeps}
use Rattle.line_rules.proofs.checking.broken_after.Goals as goal

pub later-init : goal.later-init
later-init c = all_left (λ j. Before c.args.inst.now c.args.i j)
    (λ j. Keeps c.args.kind (seat c.args.balance.now.place c.args.i) (seat c.args.balance.now.place j))
    c.after.result.now c.after.ensures.set.truths c.after.ensures.members

pub at-requires : goal.at-requires
at-requires c = omega (
  arith,
  c.requires.each,
  c.after.ensures.set.tasks c.in-Some.j
      ((c.after.ensures.members c.in-Some.j).1 (c.later.invariant.within c.in-Some.j c.in-Some.ensures.some.member)),
)

pub returns-then-not-keeps-clause-some : goal.returns-then-not-keeps-clause-some
returns-then-not-keeps-clause-some c =
    let line = c.args.inst.now in
    let before : Before line c.args.i c.in-Some.j = c.later.invariant.within c.in-Some.j
    c.in-Some.ensures.some.member in
    record {
      passes = breaks c.args.kind line c.args.balance.now c.tasks-tasks.ensures.line.small c.args.i c.in-Some.j
          c.at-earlier.result.now c.at.result.now c.at-earlier.ensures c.at.ensures c.requires.task
          (c.after.ensures.set.tasks c.in-Some.j ((c.after.ensures.members c.in-Some.j).1 before)) before
          (λ k. false≢true (sym c.if-not-keeps.true ∙ c.keeps.ensures.1 k));
      least = λ k l x. x.broken (below_least (λ j. Before line c.args.i j)
          (λ j. Keeps c.args.kind (seat c.args.balance.now.place c.args.i) (seat c.args.balance.now.place j))
          c.later.left c.later.invariant c.in-Some.j c.in-Some.ensures.some k l x.before);
    }

pub later-smaller : goal.later-smaller
later-smaller c = (let P : List Bool → Type 0 = λ s. members s < members c.later.left in
    subst P (sym c.without-left.ensures.value) (members_less c.later.left c.in-Some.j c.in-Some.ensures.some.member))

pub later-preserved : goal.later-preserved
later-preserved c =
    let B : ℕ → Type 0 = λ j. Before c.args.inst.now c.args.i j in
    let K : ℕ → Type 0 = λ j. Keeps c.args.kind (seat c.args.balance.now.place c.args.i)
    (seat c.args.balance.now.place j) in
    subst (IsLeft B K) (sym c.without-left.ensures.value) (one_less B K c.later.left c.later.invariant c.in-Some.j
    (keeps c.args.kind c.args.inst.now c.args.balance.now c.tasks-tasks.ensures.line.small c.args.i c.in-Some.j
    c.at-earlier.result.now c.at.result.now c.at-earlier.ensures c.at.ensures
    (c.keeps.ensures.0 c.if-not-keeps.false)))

pub returns-clause-none : goal.returns-clause-none
returns-clause-none c = λ _ j m b. none_left (λ j. Before c.args.inst.now c.args.i j)
    (λ j. Keeps c.args.kind (seat c.args.balance.now.place c.args.i) (seat c.args.balance.now.place j)) c.later.left
    c.later.invariant (c.in_default.ensures.none.0 refl) j b
