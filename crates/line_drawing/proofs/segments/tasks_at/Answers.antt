use Rattle.std.proofs.Common.{◌≡◌, ◌∙◌, ◌<◌, ℕ, List, ap, sym, subst, arith}
use Rattle.std.specs.Prelude.{All}
use Rattle.line_instance.specs.Line.{tasks}
use Rattle.line_rules.specs.Balance.{seat}
use Rattle.line_rules.proofs.ReadPlaces.{seat_read}
use Rattle.line_drawing.specs.Segments.{stands, tasks_at}
use Rattle.line_drawing.proofs.ListedTasks.{all_found, filter_turn, tasks_within}
use Rattle.line_drawing.proofs.segments.tasks_at.Goals as goal

pub loop-rank-preserved : goal.loop-rank-preserved
loop-rank-preserved c =
    let line = c.args.inst.now in
    let places = c.args.places.now in
    filter_turn (λ i. stands c.args.side c.args.station (seat places i)) line.order c.loop-rank.rank
    c.at_rank-task.result c.loop-rank.found.items c.keep.new.found.items
    (tasks_at line places c.args.side c.args.station) c.stands-wanted.result
    (omega (arith, c.loop-rank-test.true, c.tasks-rank-end.ensures.tasks, c.tasks-rank-end.ensures.ranked.many))
    c.at_rank-task.ensures.task
    (c.stands-wanted.ensures ∙ ap (stands c.args.side c.args.station)
    (seat_read places c.at_rank-task.result c.at.result.now c.at.ensures))
    c.in_ok-keep.ensures c.loop-rank.invariant

pub returns-clause-within : goal.returns-clause-within
returns-clause-within c =
    let line = c.args.inst.now in
    let P : List ℕ → Type 0 = λ is. All (λ i. i < tasks line) is in
    let all : c.loop-rank.found.items ≡ tasks_at line c.args.places.now c.args.side c.args.station =
    all_found (λ i. stands c.args.side c.args.station (seat c.args.places.now i)) line.order c.loop-rank.rank
    c.loop-rank.found.items (tasks_at line c.args.places.now c.args.side c.args.station)
    (omega (arith, c.loop-rank-test.false, c.tasks-rank-end.ensures.tasks, c.tasks-rank-end.ensures.ranked.many))
    c.loop-rank.invariant in
    subst P (sym all) (tasks_within line c.tasks-rank-end.ensures.line c.tasks-rank-end.ensures.ranked c.args.places.now
    c.args.side c.args.station)
