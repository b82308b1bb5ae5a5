use Rattle.std.proofs.Common.{◌<◌, ◌≤◌, ℕ, refl, subst, arith}
use Rattle.line_rules.specs.Balance.{IsSide, seat}
use Rattle.line_rules.specs.Checked.{IsLeastWhere, HasStations, HasSides, HasRoom}
use Rattle.line_rules.proofs.TestAnswers.{stations_all, sides_all, least_off, room_all, least_over, right}
use Rattle.line_rules.proofs.checking.check_balance.Goals as goal

pub returns-in-Some : goal.returns-in-Some
returns-in-Some c =
    let line = c.args.inst.now in
    let b = c.args.balance.now in
    let P : ℕ → Type 0 = λ n. IsLeastWhere (λ j. (j < n) × ((1 ≤ (seat b.place j).station)
    × ((seat b.place j).station ≤ b.stations) → ⊥)) c.in-Some.i in (
      omega arith,
      least_off line b c.tasks-tasks.ensures.line
          (λ j. (1 ≤ (seat b.place j).station) × ((seat b.place j).station ≤ b.stations) → ⊥) c.in-Some.i
          (subst P c.tasks-tasks.ensures.tasks c.in-Some.ensures.some),
    )

pub returns-in-Some-wrong_side : goal.returns-in-Some-wrong_side
returns-in-Some-wrong_side c =
    let line = c.args.inst.now in
    let b = c.args.balance.now in
    let stations : HasStations line b = stations_all line b c.tasks-tasks.ensures.line
    (λ i l. c.in_default.ensures.none refl i (omega arith)) in
    let P : ℕ → Type 0 = λ n. IsLeastWhere (λ j. (j < n) × (IsSide c.args.kind (seat b.place j).side → ⊥))
    c.in-Some-wrong_side.i in (
      omega arith,
      stations,
      least_off line b c.tasks-tasks.ensures.line
          (λ j. IsSide c.args.kind (seat b.place j).side → ⊥) c.in-Some-wrong_side.i
          (subst P c.tasks-tasks.ensures.tasks c.in-Some-wrong_side.ensures.some),
    )

pub returns-in-Some-overfull : goal.returns-in-Some-overfull
returns-in-Some-overfull c =
    let line = c.args.inst.now in
    let b = c.args.balance.now in
    let s = c.in-Some-overfull.s in
    let stations : HasStations line b = stations_all line b c.tasks-tasks.ensures.line
    (λ i l. c.in_default.ensures.none refl i (omega arith)) in
    let sides : HasSides c.args.kind line b = sides_all line b c.tasks-tasks.ensures.line c.args.kind
    (λ i l. c.in_default-wrong_side.ensures.none refl i (omega arith)) in
    let within : s < 1025 = omega (
      arith,
      c.in-Some-overfull.ensures.some.passes.0,
      c.station_times-times.ensures.long,
    ) in (
      omega arith,
      stations,
      sides,
      c.station_times-times.ensures.times s within,
      least_over line b c.tasks-tasks.ensures.line c.station_times-times.result c.args.cycle s
          c.station_times-times.ensures.long c.station_times-times.ensures.times c.in-Some-overfull.ensures.some,
    )

pub returns-in-Some-first_broken : goal.returns-in-Some-first_broken
returns-in-Some-first_broken c =
    let line = c.args.inst.now in
    let b = c.args.balance.now in
    let stations : HasStations line b = stations_all line b c.tasks-tasks.ensures.line
    (λ i l. c.in_default.ensures.none refl i (omega arith)) in
    let sides : HasSides c.args.kind line b = sides_all line b c.tasks-tasks.ensures.line c.args.kind
    (λ i l. c.in_default-wrong_side.ensures.none refl i (omega arith)) in
    let room : HasRoom line c.args.cycle b = room_all line b c.tasks-tasks.ensures.line c.args.cycle c.requires.stations
    stations (λ s l. omega (
      arith,
      c.station_times-times.ensures.times s l,
      c.in_default-overfull.ensures.none refl s (omega (arith, c.station_times-times.ensures.long)),
    )) in
    (omega arith, stations, sides, room, c.in-Some-first_broken.ensures.some)

pub returns-in-Some-first_together : goal.returns-in-Some-first_together
returns-in-Some-first_together c =
    let line = c.args.inst.now in
    let b = c.args.balance.now in
    let stations : HasStations line b = stations_all line b c.tasks-tasks.ensures.line
    (λ i l. c.in_default.ensures.none refl i (omega arith)) in
    let sides : HasSides c.args.kind line b = sides_all line b c.tasks-tasks.ensures.line c.args.kind
    (λ i l. c.in_default-wrong_side.ensures.none refl i (omega arith)) in
    let room : HasRoom line c.args.cycle b = room_all line b c.tasks-tasks.ensures.line c.args.cycle c.requires.stations
    stations (λ s l. omega (
      arith,
      c.station_times-times.ensures.times s l,
      c.in_default-overfull.ensures.none refl s (omega (arith, c.station_times-times.ensures.long)),
    )) in (
      omega arith,
      stations,
      sides,
      room,
      c.in_default-first_broken.ensures.none refl,
      c.in-Some-first_together.ensures.some,
    )

pub returns : goal.returns
returns c =
    let line = c.args.inst.now in
    let b = c.args.balance.now in
    let stations : HasStations line b = stations_all line b c.tasks-tasks.ensures.line
    (λ i l. c.in_default.ensures.none refl i (omega arith)) in
    let sides : HasSides c.args.kind line b = sides_all line b c.tasks-tasks.ensures.line c.args.kind
    (λ i l. c.in_default-wrong_side.ensures.none refl i (omega arith)) in
    let room : HasRoom line c.args.cycle b = room_all line b c.tasks-tasks.ensures.line c.args.cycle c.requires.stations
    stations (λ s l. omega (
      arith,
      c.station_times-times.ensures.times s l,
      c.in_default-overfull.ensures.none refl s (omega (arith, c.station_times-times.ensures.long)),
    )) in
    right line b c.tasks-tasks.ensures.line c.args.kind c.args.cycle (omega arith) stations sides room
    (c.in_default-first_broken.ensures.none refl) (c.in_default-first_together.ensures.none refl)
