use Rattle.std.proofs.Common.{◌≡◌, ◌↔◌, ℕ, ◌-◌, List, Bool, Option, IfSome, subst}
use Rattle.line_instance.specs.Truths.{In}
use Rattle.line_instance.specs.Line.{Line, IsTaskSet}
use Rattle.line_rules.specs.Bounds.{IsChained}
use Rattle.line_rules.specs.declared.types.LineKind.{LineKind}
use Rattle.line_rules.specs.declared.types.LineKind.TheVariants.{Straight, U}
use Rattle.station_search.proofs.listings.chained_for.Goals as goal

none_there : (kind : LineKind) → kind ≡ U → (line : Line) (c : ℕ) (R : List Bool) (m j : ℕ)
    → IsChained kind line c R m j → ⊥
unfolding IsChained
none_there Straight e line c R m j h = absurd (cc)
none_there U e line c R m j h = h

pub returns-in-U-clause-all : goal.returns-in-U-clause-all
returns-in-U-clause-all c = λ j h. absurd (none_there c.args.kind c.in-U.is c.args.inst.now c.args.cycle
    c.args.frame.now.set (c.args.frame.now.most - 1) j h)

pub returns-in-Some-clause-all : goal.returns-in-Some-clause-all
returns-in-Some-clause-all c = λ j h.
    let K : LineKind → Type 0 = λ z. IsChained z c.args.inst.now c.args.cycle c.args.frame.now.set
    (c.args.frame.now.most - 1) j in
    let L : Option (List Bool) → Type 0 = λ z. IfSome z (λ t. (i : ℕ) → In t i ↔ IsChained Straight
    c.args.inst.now c.args.cycle c.args.frame.now.set (c.args.frame.now.most - 1) i) in
    (subst L c.in-Some.is c.requires.beside.chained j).1 (subst K c.in-Straight.is h)

pub chained_tasks-chained-requires-clause-set : goal.chained_tasks-chained-requires-clause-set
chained_tasks-chained-requires-clause-set c =
    let P : List Bool → Type 0 = λ z. IsTaskSet c.args.inst.now z in
    subst P c.requires.beside.same_set c.requires.beside.walk.set

pub returns-clause-all : goal.returns-clause-all
returns-clause-all c = λ j h.
    let K : LineKind → Type 0 = λ z. IsChained z c.args.inst.now c.args.cycle c.args.frame.now.set
    (c.args.frame.now.most - 1) j in
    (c.chained_tasks-chained.ensures.members j).1 (subst K c.in-Straight.is h)

pub returns-clause-beside : goal.returns-clause-beside
returns-clause-beside c =
    let b = c.requires.beside in
    record {
      walk = b.walk;
      same_cycle = b.same_cycle;
      same_mode = b.same_mode;
      same_set = b.same_set;
      same_last = b.same_last;
      times = b.times;
      chained = c.chained_tasks-chained.ensures.members;
    }
