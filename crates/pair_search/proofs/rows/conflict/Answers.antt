use Rattle.std.proofs.Common.{Bool, List, refl, subst}
use Rattle.line_instance.specs.Truths.{In}
use Rattle.line_instance.proofs.Members.{In-meet_parts}
use Rattle.pair_search.proofs.RowFacts.{crowded}
use Rattle.pair_search.proofs.rows.conflict.Goals as goal

pub returns-in-Some : goal.returns-in-Some
returns-in-Some c =
    let P : List Bool → Type 0 = λ s. In s c.in-Some.field-0 in
    let k : In c.between-between.result c.in-Some.field-0 × In c.args.long.now c.in-Some.field-0 =
    In-meet_parts c.between-between.result c.args.long.now c.in-Some.field-0
    (subst P c.meet.ensures.value c.in-Some.ensures.some.member) in (
      λ t. crowded c.args.kind c.args.i c.args.j c.between-between.result c.in-Some.field-0 c.requires.long
          c.requires.first c.requires.second k.1 k.0 c.between-between.ensures.time,
      λ x. refl,
    )
