use Rattle.std.proofs.Common.{Bool, List, ◌≡◌, ◌∙◌, ap, sym, subst}
use Rattle.line_instance.specs.Truths.{minus}
use Rattle.line_instance.specs.Line.{IsTaskSet}
use Rattle.line_rules.specs.Loads.{rest}
use Rattle.station_search.proofs.States.{rest_tasks}
use Rattle.round_helpers.proofs.job_list.rest_at.Goals as goal

pub exceeds-requires-clause-set : goal.exceeds-requires-clause-set
exceeds-requires-clause-set c =
    let P : List Bool → Type 0 = λ z. IsTaskSet c.args.inst.now z in
    let e : c.minus-rest.result ≡ rest c.args.set.now c.args.load.now =
    c.minus-rest.ensures.value ∙ ap (λ (z : List Bool). minus c.args.set.now z) c.union.ensures.value in
    subst P (sym e) (rest_tasks c.args.inst.now c.args.set.now c.args.load.now
    (subst P c.requires.same_set c.requires.walk.set))
