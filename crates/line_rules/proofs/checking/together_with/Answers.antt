use Rattle.std.proofs.Common.{◌∙◌, ◌<◌, ℕ, List, Bool, refl, sym, ap, subst, arith}
use Rattle.line_instance.proofs.Members.{members}
use Rattle.line_instance.specs.Line.{Apart}
use Rattle.line_rules.specs.Checked.{Meets}
use Rattle.line_rules.proofs.All.{In-all}
use Rattle.line_rules.proofs.MembersInOrder.{IsLeft, all_left, below_least, one_less, none_left, members_less}
use Rattle.line_rules.proofs.ReadPlaces.{seat_read}
use Rattle.line_rules.proofs.checking.together_with.Goals as goal
use Rattle.line_rules.proofs.checking.together_with.Goals.{else-i-j-via-then-i-j+else-at-station, else-i-j-via-else-i-j}

pub parted-init : goal.parted-init
parted-init c = all_left (λ j. Apart c.args.inst.now j c.args.i)
    (λ j. Meets c.args.inst.now c.args.balance.now c.args.i j → ⊥) c.apart.result.now c.apart.ensures.set.truths
    c.apart.ensures.members

pub returns-then-at-station-clause-some : goal.returns-then-at-station-clause-some
returns-then-at-station-clause-some c =
    let line = c.args.inst.now in
    let places = c.args.balance.now.place in
    let apart : Apart line c.in-Some.j c.args.i = c.parted.invariant.within c.in-Some.j c.in-Some.ensures.some.member in
    record {
      passes = record {
        second = In-all line c.in-Some.j c.tasks-tasks.ensures.line.small
            (c.apart.ensures.set.tasks c.in-Some.j ((c.apart.ensures.members c.in-Some.j).1 apart));
        rises = c.if-i-j.true;
        apart = c.tasks-tasks.ensures.line.both_ways c.in-Some.j c.args.i apart;
        together = sym (ap (λ p. p.station) (seat_read places c.args.i c.at.result.now c.at.ensures))
            ∙ sym c.if-at-station.true ∙ ap (λ p. p.station)
            (seat_read places c.in-Some.j c.at-then-i-j.result.now c.at-then-i-j.ensures);
      };
      least = λ k l x. below_least (λ j. Apart line j c.args.i) (λ j. Meets line c.args.balance.now c.args.i j → ⊥)
          c.parted.left c.parted.invariant c.in-Some.j c.in-Some.ensures.some k l
          (c.tasks-tasks.ensures.line.both_ways c.args.i k x.apart) x;
    }

pub parted-smaller : goal.parted-smaller
parted-smaller c = (let P : List Bool → Type 0 = λ s. members s < members c.parted.left in
    subst P (sym c.without-left.ensures.value) (members_less c.parted.left c.in-Some.j c.in-Some.ensures.some.member))

pub parted-preserved : goal.parted-preserved
parted-preserved c =
    let B : ℕ → Type 0 = λ j. Apart c.args.inst.now j c.args.i in
    let K : ℕ → Type 0 = λ j. Meets c.args.inst.now c.args.balance.now c.args.i j → ⊥ in
    let places = c.args.balance.now.place in
    let past : K c.in-Some.j = elim c.else-i-j.branch [
      | else-i-j-via-then-i-j+else-at-station w ↦ λ x. w.if-at-station.false
          (ap (λ p. p.station) (seat_read places c.in-Some.j w.at-then-i-j.result.now w.at-then-i-j.ensures)
          ∙ sym x.together ∙ sym (ap (λ p. p.station) (seat_read places c.args.i c.at.result.now c.at.ensures)))
      | else-i-j-via-else-i-j w ↦ λ x. absurd (omega (arith, x.rises, w.if-i-j.false))
    ] in
    subst (IsLeft B K) (sym c.without-left.ensures.value) (one_less B K c.parted.left c.parted.invariant c.in-Some.j
    past)

pub returns-clause-none : goal.returns-clause-none
returns-clause-none c = λ _ j x. none_left (λ k. Apart c.args.inst.now k c.args.i)
    (λ k. Meets c.args.inst.now c.args.balance.now c.args.i k → ⊥) c.parted.left c.parted.invariant
    (c.in_default.ensures.none.0 refl) j (c.tasks-tasks.ensures.line.both_ways c.args.i j x.apart) x
