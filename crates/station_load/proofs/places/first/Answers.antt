use Rattle.std.proofs.Common.{sym, subst, None}
use Rattle.line_rules.specs.Order.{IsNext, IsFollowing}
use Rattle.line_rules.specs.declared.types.Load.{Load}
use Rattle.line_rules.proofs.ScanFacts.{IsBase, base_none, follows, none_follows}
use Rattle.line_rules.proofs.NextLoad.{map_some}
use Rattle.station_load.proofs.places.first.Goals as goal

base : (c : goal.After-above) → IsBase c.args.inst.now c.args.cycle c.args.mode c.args.set.now None c.nothing.result
base c =
    let P : Load → Type 0 = λ b. IsBase c.args.inst.now c.args.cycle c.args.mode c.args.set.now None b in
    subst P (sym c.nothing.ensures) (base_none c.args.inst.now c.args.cycle c.args.mode c.args.set.now)

pub above-requires : goal.above-requires
above-requires c =
    let P : Load → Type 0 = λ b. IsBase c.args.inst.now c.args.cycle c.args.mode c.args.set.now None b in
    let b : IsBase c.args.inst.now c.args.cycle c.args.mode c.args.set.now None c.nothing.result =
    subst P (sym c.nothing.ensures) (base_none c.args.inst.now c.args.cycle c.args.mode c.args.set.now) in
    b.is_part

pub returns-clause-none : goal.returns-clause-none
returns-clause-none c = λ n l load. none_follows c.args.inst.now c.args.cycle c.args.mode c.args.set.now
    c.tasks-tasks.ensures.ranked c.nothing.result None (base c) (c.above.ensures.none n) l load tt

pub returns-clause-first : goal.returns-clause-first
returns-clause-first c =
    map_some {P = IsNext c.args.inst.now c.args.cycle c.args.mode c.args.set.now c.nothing.result}
    {Q = IsFollowing c.args.inst.now c.args.cycle c.args.mode c.args.set.now None} c.above.result
    (follows c.args.inst.now c.args.cycle c.args.mode c.args.set.now c.tasks-tasks.ensures.ranked c.nothing.result None
    (base c)) c.above.ensures.next
