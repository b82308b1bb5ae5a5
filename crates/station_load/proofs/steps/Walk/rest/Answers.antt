use Rattle.std.proofs.Common.{◌≡◌, IfSome, sym, subst}
use Rattle.line_rules.specs.Loads.{rest}
use Rattle.line_rules.specs.declared.types.Load.{Load}
use Rattle.station_load.specs.Walking.{Walking, IsWalk}
use Rattle.station_load.specs.contracts.steps.Walk.{the_view}
use Rattle.station_load.proofs.Walks.{left_rest, left_set, less_within, of_some}
use Rattle.station_load.proofs.steps.Walk.rest.Goals as goal

pub take_out-requires : goal.take_out-requires
take_out-requires c =
    let W : Walking → Type 0 = λ w. IsWalk c.args.inst.now w in
    let is : IsWalk c.args.inst.now (the_view c.self.inside) = subst W (sym c.self.view_is) c.requires.walk in
    is.set.tasks

pub take_out-requires-2 : goal.take_out-requires-2
take_out-requires-2 c =
    let W : Walking → Type 0 = λ w. IsWalk c.args.inst.now w in
    let is : IsWalk c.args.inst.now (the_view c.self.inside) = subst W (sym c.self.view_is) c.requires.walk in
    λ i m. is.set.tasks i (less_within c.args.inst.now c.tasks-tasks.ensures.line c.tasks-tasks.ensures.ranked
    (the_view c.self.inside) is c.take_out.ensures.value i m)

pub returns-clause-rest : goal.returns-clause-rest
returns-clause-rest c =
    let W : Walking → Type 0 = λ w. IsWalk c.args.inst.now w in
    let is : IsWalk c.args.inst.now (the_view c.self.inside) = subst W (sym c.self.view_is) c.requires.walk in
    let Q : Walking → Type 0 = λ w. IfSome w.last (λ l. c.take_out-2.new.set ≡ rest w.set l) in
    let P : Load → Type 0 = λ l. c.take_out-2.new.set ≡ rest c.self.inside.set l in
    subst Q c.self.view_is (of_some {P = P} (the_view c.self.inside).last
    (left_rest c.args.inst.now c.tasks-tasks.ensures.line c.tasks-tasks.ensures.ranked (the_view c.self.inside) is
    c.take_out.ensures.value c.take_out-2.ensures.value))

pub returns-clause-set : goal.returns-clause-set
returns-clause-set c =
    let W : Walking → Type 0 = λ w. IsWalk c.args.inst.now w in
    let is : IsWalk c.args.inst.now (the_view c.self.inside) = subst W (sym c.self.view_is) c.requires.walk in
    left_set c.args.inst.now c.tasks-tasks.ensures.line c.tasks-tasks.ensures.ranked (the_view c.self.inside) is
    c.take_out.ensures.value c.take_out-2.ensures.value c.take_out-2.ensures.truths
