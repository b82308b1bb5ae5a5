use Rattle.std.proofs.Common.{◌≡◌, ℕ, ◌<◌, ◌≤◌, List, length, sym, ap, subst, arith}
use Rattle.line_instance.specs.Line.{Line, tasks}
use Rattle.line_rules.specs.declared.types.LineKind.{LineKind}
use Rattle.line_rules.specs.declared.types.Load.{Load}
use Rattle.station_search.specs.Parts.{AreParts, IsPlaceOf}
use Rattle.line_rules.specs.Balance.{seat}
use Rattle.line_rules.specs.Seats.{IsPlacement}
use Rattle.line_rules.specs.declared.types.Seatplace.{Seatplace}
use Rattle.station_search.proofs.TaskPlaces.{placement, right_of}
use Rattle.station_search.proofs.placing.balance_of.Goals as goal

placed : (kind : LineKind) (line : Line) (loads : List Load) (ps items : List Seatplace) (n t : ℕ) → ps ≡ items
    → t ≡ tasks line → t ≤ n → AreParts line loads → ((i : ℕ) → i < n → IsPlaceOf kind loads i (seat items i))
    → IsPlacement kind loads (seat ps)
placed kind line loads ps items n t e u l parts h = let P : List Seatplace
    → Type 0 = λ z. IsPlacement kind loads (seat z) in subst P (sym e)
    (placement kind line loads items n (omega (arith, u, l)) parts h)

pub returns-clause-placed : goal.returns-clause-placed
returns-clause-placed c =
    placed c.args.kind c.args.inst.now c.args.loads.now c.from_vec.result c.loop-task.place.items c.loop-task.task
    c.tasks-tasks.result c.from_vec.ensures c.tasks-tasks.ensures.tasks c.loop-task-test.false c.requires.parts
    c.loop-task.invariant.placed

pub returns-clause-right : goal.returns-clause-right
returns-clause-right c = λ cycle seated.
    right_of c.args.kind c.args.inst.now cycle c.args.loads.now
    (record { stations = c.args.stations; place = c.from_vec.result })
    (omega (
      arith,
      ap (λ (z : List Seatplace). length z) c.from_vec.ensures,
      c.loop-task.invariant.many,
      c.loop-task.auto.task-end,
      c.loop-task-test.false,
      c.tasks-tasks.ensures.tasks,
    )) c.requires.loads
    (placed c.args.kind c.args.inst.now c.args.loads.now c.from_vec.result c.loop-task.place.items c.loop-task.task
    c.tasks-tasks.result c.from_vec.ensures c.tasks-tasks.ensures.tasks c.loop-task-test.false c.requires.parts
    c.loop-task.invariant.placed)
    seated
