use Rattle.std.proofs.Common.{sym, subst, refl}
use Rattle.line_rules.specs.Loads.{IsLoad}
use Rattle.line_rules.specs.Order.{IsFollowing, After}
use Rattle.line_rules.specs.declared.types.Load.{Load}
use Rattle.station_load.specs.Walking.{Walking, IsWalk}
use Rattle.station_load.specs.contracts.steps.Walk.{the_view}
use Rattle.station_load.specs.inner.Steps.{pair}
use Rattle.station_load.proofs.Walks.{before, ends_kept, next_given, none_after, walk_on, walk_over}
use Rattle.station_load.proofs.steps.Walk.go_on.Goals as goal

pub goes_on-requires-clause-scan : goal.goes_on-requires-clause-scan
goes_on-requires-clause-scan c =
    let W : Walking → Type 0 = λ w. IsWalk c.args.inst.now w in
    let is : IsWalk c.args.inst.now (the_view c.self.inside) = subst W (sym c.self.view_is) c.requires in
    before c.args.inst.now c.tasks-tasks.ensures.line c.tasks-tasks.ensures.ranked (the_view c.self.inside) is

pub goes_on-requires-clause-ends : goal.goes_on-requires-clause-ends
goes_on-requires-clause-ends c =
    let W : Walking → Type 0 = λ w. IsWalk c.args.inst.now w in
    let is : IsWalk c.args.inst.now (the_view c.self.inside) = subst W (sym c.self.view_is) c.requires in
    ends_kept c.args.inst.now c.tasks-tasks.ensures.line c.tasks-tasks.ensures.ranked (the_view c.self.inside) is
    c.if-self.false

pub returns-then-goes_on-clause-next : goal.returns-then-goes_on-clause-next
returns-then-goes_on-clause-next c = λ e.
    let W : Walking → Type 0 = λ w. IsWalk c.args.inst.now w in
    let is : IsWalk c.args.inst.now (the_view c.self.inside) = subst W (sym c.self.view_is) c.requires in
    let Q : Walking → Type 0 = λ w. IsFollowing c.args.inst.now w.cycle w.mode w.set w.last
    (pair c.goes_on.new.front c.goes_on.new.back) in
    subst Q c.self.view_is (next_given c.args.inst.now c.tasks-tasks.ensures.line c.tasks-tasks.ensures.ranked
    (the_view c.self.inside) is (pair c.goes_on.new.front c.goes_on.new.back) (c.if-goes_on.ensures.next refl))

pub returns-then-goes_on-clause-walk : goal.returns-then-goes_on-clause-walk
returns-then-goes_on-clause-walk c =
    let W : Walking → Type 0 = λ w. IsWalk c.args.inst.now w in
    let is : IsWalk c.args.inst.now (the_view c.self.inside) = subst W (sym c.self.view_is) c.requires in
    walk_on c.args.inst.now c.tasks-tasks.ensures.line c.tasks-tasks.ensures.ranked (the_view c.self.inside) is
    c.goes_on.new.front c.goes_on.new.back c.goes_on.new.sum c.if-self.false
    (c.if-goes_on.ensures.next refl) (c.if-goes_on.ensures.ends refl)

pub returns-clause-none : goal.returns-clause-none
returns-clause-none c = λ e.
    let W : Walking → Type 0 = λ w. IsWalk c.args.inst.now w in
    let is : IsWalk c.args.inst.now (the_view c.self.inside) = subst W (sym c.self.view_is) c.requires in
    let Q : Walking → Type 0 = λ w. (l : Load) → IsLoad c.args.inst.now w.cycle w.mode w.set l
    → After c.args.inst.now w.last l → ⊥ in
    subst Q c.self.view_is (none_after c.args.inst.now c.tasks-tasks.ensures.line c.tasks-tasks.ensures.ranked
    (the_view c.self.inside) is c.goes_on.new.front c.goes_on.new.back (c.if-goes_on.ensures.over refl))

pub returns-clause-walk : goal.returns-clause-walk
returns-clause-walk c =
    let W : Walking → Type 0 = λ w. IsWalk c.args.inst.now w in
    let is : IsWalk c.args.inst.now (the_view c.self.inside) = subst W (sym c.self.view_is) c.requires in
    walk_over c.args.inst.now c.tasks-tasks.ensures.line c.tasks-tasks.ensures.ranked (the_view c.self.inside) is
    c.goes_on.new.front c.goes_on.new.back (c.if-goes_on.ensures.over refl) c.self.inside.given refl
