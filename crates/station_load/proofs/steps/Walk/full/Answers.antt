use Rattle.std.proofs.Common.{◌≡◌, ◌↔◌, ℕ, true, false, IsTrue, IfSome, sym, subst, refl}
use Rattle.line_rules.specs.Loads.{IsFull}
use Rattle.line_rules.specs.Sides.{MayJoin, fills}
use Rattle.line_rules.specs.declared.types.Side.{Side}
use Rattle.line_rules.specs.declared.types.Side.TheVariants.{Front, Back}
use Rattle.line_rules.specs.declared.types.Load.{Load}
use Rattle.line_rules.proofs.SideFacts.{each_side}
use Rattle.std.proofs.lemmas.Bool.{false≢true}
use Rattle.station_load.specs.Walking.{Walking, IsWalk}
use Rattle.station_load.specs.contracts.steps.Walk.{the_view}
use Rattle.station_load.proofs.Walks.{stand, full_yes, full_no, of_some}
use Rattle.station_load.proofs.steps.Walk.full.Goals as goal

pub returns-then-grows : goal.returns-then-grows
returns-then-grows c =
    let W : Walking → Type 0 = λ w. IsWalk c.args.inst.now w in
    let is : IsWalk c.args.inst.now (the_view c.self.inside) = subst W (sym c.self.view_is) c.requires.walk in
    let Q : Walking → Type 0 = λ w. IfSome w.last (λ l. IsTrue false ↔ IsFull c.args.inst.now w.cycle w.mode w.set l) in
    let P : Load → Type 0 = λ l. IsTrue false ↔ IsFull c.args.inst.now c.self.inside.cycle c.self.inside.mode
    c.self.inside.set l in
    let r : (i : ℕ) × (fills c.self.inside.mode Front ≡ true)
    × MayJoin c.args.inst.now c.self.inside.cycle c.self.inside.set Front (stand (the_view c.self.inside)) i =
    c.if-grows.ensures.some refl in
    subst Q c.self.view_is (of_some {P = P} (the_view c.self.inside).last
    (λ l e. (
      λ x. absurd (false≢true x),
      λ full. absurd
          (full_no c.args.inst.now c.tasks-tasks.ensures.line c.tasks-tasks.ensures.ranked (the_view c.self.inside) is
          Front r.0 r.1 r.2 l e full),
    )))

pub returns-then-grows-2 : goal.returns-then-grows-2
returns-then-grows-2 c =
    let W : Walking → Type 0 = λ w. IsWalk c.args.inst.now w in
    let is : IsWalk c.args.inst.now (the_view c.self.inside) = subst W (sym c.self.view_is) c.requires.walk in
    let Q : Walking → Type 0 = λ w. IfSome w.last (λ l. IsTrue false ↔ IsFull c.args.inst.now w.cycle w.mode w.set l) in
    let P : Load → Type 0 = λ l. IsTrue false ↔ IsFull c.args.inst.now c.self.inside.cycle c.self.inside.mode
    c.self.inside.set l in
    let r : (i : ℕ) × (fills c.self.inside.mode Back ≡ true)
    × MayJoin c.args.inst.now c.self.inside.cycle c.self.inside.set Back (stand (the_view c.self.inside)) i =
    c.if-grows-2.ensures.some refl in
    subst Q c.self.view_is (of_some {P = P} (the_view c.self.inside).last
    (λ l e. (
      λ x. absurd (false≢true x),
      λ full. absurd
          (full_no c.args.inst.now c.tasks-tasks.ensures.line c.tasks-tasks.ensures.ranked (the_view c.self.inside) is
          Back r.0 r.1 r.2 l e full),
    )))

pub returns : goal.returns
returns c =
    let W : Walking → Type 0 = λ w. IsWalk c.args.inst.now w in
    let is : IsWalk c.args.inst.now (the_view c.self.inside) = subst W (sym c.self.view_is) c.requires.walk in
    let Q : Walking → Type 0 = λ w. IfSome w.last (λ l. IsTrue true ↔ IsFull c.args.inst.now w.cycle w.mode w.set l) in
    let P : Load → Type 0 = λ l. IsTrue true ↔ IsFull c.args.inst.now c.self.inside.cycle c.self.inside.mode
    c.self.inside.set l in
    subst Q c.self.view_is (of_some {P = P} (the_view c.self.inside).last (λ l e. (
      λ x. full_yes c.args.inst.now c.tasks-tasks.ensures.line c.tasks-tasks.ensures.ranked (the_view c.self.inside) is
          (each_side (λ (s : Side). (i : ℕ) → fills c.self.inside.mode s ≡ true
          → MayJoin c.args.inst.now c.self.inside.cycle c.self.inside.set s (stand (the_view c.self.inside)) i → ⊥)
          (c.if-grows.ensures.none refl) (c.if-grows-2.ensures.none refl)) l e,
      λ full. refl,
    )))
