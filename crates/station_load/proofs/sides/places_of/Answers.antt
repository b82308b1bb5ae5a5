use Rattle.std.proofs.Common.{◌≡◌, ◌∙◌, ◌<◌, ◌≢◌, ◌⊎◌, ◌↔◌, ℕ, List, Bool, sym, ap, subst, refl, arith}
use Rattle.line_instance.specs.Truths.{In}
use Rattle.line_instance.proofs.Members.{members, In-empty}
use Rattle.line_instance.specs.Line.{has}
use Rattle.line_rules.proofs.MembersInOrder.{members_less}
use Rattle.line_rules.proofs.SidePlaces.{place_start, place_turn, place_end}
use Rattle.line_rules.proofs.SidePlaces.{set_in, clear_in}
use Rattle.station_load.proofs.sides.places_of.Goals as goal

pub loop-task-init : goal.loop-task-init
loop-task-init c =
    place_start c.args.inst.now c.args.side c.args.part.now c.none-places.result
    (λ p m. In-empty 1024 p (ap (λ b. has b p) (sym c.none-places.ensures.value) ∙ m))

pub loop-task-smaller : goal.loop-task-smaller
loop-task-smaller c =
    let P : List Bool → Type 0 = λ b. members b < members c.loop-task.left in
    subst P (sym c.remove.ensures.value) (members_less c.loop-task.left c.in-Some.task c.in-Some.ensures.some)

pub loop-task-preserved : goal.loop-task-preserved
loop-task-preserved c =
    let inL : (j : ℕ) → In c.remove.new.self j ↔ In c.loop-task.left j × (j ≢ c.in-Some.task) =
    clear_in c.loop-task.left c.remove.new.self c.in-Some.task c.remove.ensures.value in
    let inP : (j : ℕ) → In c.mark.new.self j ↔ In c.loop-task.places j ⊎ (j ≡ c.place_of.result) =
    set_in c.loop-task.places c.mark.new.self c.place_of.result c.mark.ensures.value c.mark.ensures.truths
    (omega (arith, c.place_of.ensures.within, c.tasks-tasks.ensures.line.small)) in
    place_turn c.args.inst.now c.tasks-tasks.ensures.ranked c.args.side c.args.part.now c.loop-task.left
    c.loop-task.places c.loop-task.invariant c.remove.new.self c.mark.new.self c.place_of.result c.in-Some.task
    c.place_of.ensures.within c.place_of.ensures.task c.in-Some.ensures.some inL inP

pub returns : goal.returns
returns c = place_end c.args.inst.now c.args.side c.args.part.now c.loop-task.left c.loop-task.places
    c.loop-task.invariant (c.in_default.ensures.none refl)
