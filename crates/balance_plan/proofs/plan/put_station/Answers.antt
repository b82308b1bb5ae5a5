use Rattle.std.proofs.Common.{◌≡◌, ◌+◌, ◌-◌, arith}
use Rattle.std.proofs.lemmas.Result.{on_ok_weaker}
use Rattle.line_rules.specs.declared.types.Side.TheVariants.{Front, Back}
use Rattle.line_drawing.specs.Segments.{tasks_at, times_of}
use Rattle.balance_plan.proofs.SideFacts.{station_put}
use Rattle.balance_plan.proofs.plan.put_station.Goals as goal

pub returns : goal.returns
returns c =
    let line = c.args.inst.now in
    let places = c.args.places.now in
    let fs = tasks_at line places Front c.args.station in
    let bs = tasks_at line places Back c.args.station in
    let room : c.args.cycle - c.time_of.result + times_of line bs ≡ c.args.cycle =
    omega (arith, c.time_of.ensures, c.requires.fits) in
    on_ok_weaker c.put_side-2.result
    (λ put. station_put line c.args.names.now c.args.cycle c.args.station (c.args.cycle - c.time_of.result) fs bs
    c.args.sheet.now c.put_side.new.sheet c.put_side-2.new.sheet room c.in_ok-put_side.ensures put)
    c.put_side-2.ensures
