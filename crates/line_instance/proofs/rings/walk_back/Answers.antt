use Rattle.std.proofs.Common.{ℕ, List, Bool, false, true, set, replicate, sym, subst}
use Rattle.line_instance.proofs.RingFacts.{IsWalking, none_walked, one_walked, one_seen}
use Rattle.line_instance.proofs.rings.walk_back.Goals as goal

pub back-init : goal.back-init
back-init c =
    let P : List Bool → Type 0 = λ s. IsWalking c.args.direct.now c.args.placed.now c.new-path.result.items s
    c.args.start in
    let Q : List ℕ → Type 0 = λ p. IsWalking c.args.direct.now c.args.placed.now p (replicate 1024 false)
    c.args.start in
    subst P (sym c.empty-seen.ensures.value) (subst Q (sym c.new-path.ensures.items)
    (none_walked c.args.direct.now c.args.placed.now c.args.start c.requires.task c.requires.left))

pub back-smaller : goal.back-smaller
back-smaller c = one_seen c.args.direct.now c.args.placed.now c.back.path.items c.back.seen c.back.task c.back.invariant
    c.requires.few (sym c.back-test.ensures) c.with-seen.result c.with-seen.ensures.value

pub back-preserved : goal.back-preserved
back-preserved c =
    let P : List Bool → Type 0 = λ s. IsWalking c.args.direct.now c.args.placed.now c.push.new.self.items s
    c.left_before-task.result in
    let Q : List ℕ → Type 0 = λ p. IsWalking c.args.direct.now c.args.placed.now p (set c.back.seen c.back.task true)
    c.left_before-task.result in
    subst P (sym c.with-seen.ensures.value) (subst Q (sym c.in_ok-push.ensures.items)
    (one_walked c.args.direct.now c.args.placed.now c.back.path.items c.back.seen c.back.task c.back.invariant
    c.requires.few (sym c.back-test.ensures)
    c.left_before-task.result c.left_before-task.ensures.task c.left_before-task.ensures.left
    c.left_before-task.ensures.arc))
