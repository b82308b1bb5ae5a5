use Rattle.std.proofs.Common.{◌≡◌, ℕ, ◌-◌, List, Bool, Option, IfSome, subst}
use Rattle.line_instance.specs.Line.{Line}
use Rattle.line_rules.specs.Bounds.{IsChained}
use Rattle.line_rules.specs.declared.types.LineKind.{LineKind}
use Rattle.line_rules.specs.declared.types.LineKind.TheVariants.{Straight, U}
use Rattle.line_check.specs.inner.Steps.{AreChained}
use Rattle.line_check.proofs.walks.chained_for.Goals as goal

none_there : (kind : LineKind) → kind ≡ U → (line : Line) (c : ℕ) (R : List Bool) (m j : ℕ)
    → IsChained kind line c R m j → ⊥
unfolding IsChained
none_there Straight e line c R m j h = absurd (cc)
none_there U e line c R m j h = h

pub returns-in-U-clause-all : goal.returns-in-U-clause-all
returns-in-U-clause-all c = λ j h. absurd (none_there c.args.q.now.kind c.in-U.is c.args.inst.now c.args.q.now.cycle
    c.args.q.now.set (c.args.q.now.most - 1) j h)

pub returns-in-Some-clause-all : goal.returns-in-Some-clause-all
returns-in-Some-clause-all c = λ j h.
    let K : LineKind → Type 0 = λ z. IsChained z c.args.inst.now c.args.q.now.cycle c.args.q.now.set
    (c.args.q.now.most - 1) j in
    let L : Option (List Bool) → Type 0 = λ z. IfSome z (AreChained c.args.inst.now c.args.q.now) in
    (subst L c.in-Some.is c.requires.chained j).1 (subst K c.in-Straight.is h)

pub returns-clause-all : goal.returns-clause-all
returns-clause-all c = λ j h.
    let K : LineKind → Type 0 = λ z. IsChained z c.args.inst.now c.args.q.now.cycle c.args.q.now.set
    (c.args.q.now.most - 1) j in
    (c.chained_tasks-found.ensures j).1 (subst K c.in-Straight.is h)
