use Rattle.std.proofs.Common.{List, ℕ, subst, sym}
use Rattle.std.specs.Prelude.{IsUtf8}
use Rattle.combined_graph.specs.Mixes.{model_at}
use Rattle.timeline_drawing.proofs.NameFacts.{name_text}
use Rattle.timeline_drawing.proofs.drawing.name_of.Goals as goal

pub returns-in-Err : goal.returns-in-Err
returns-in-Err c =
    let models = c.args.mix.now.models in
    let P : List ℕ → Type 0 = λ bs. IsUtf8 bs in
    absurd (c.in-Err.ensures.cases.0 (subst P (sym c.name.ensures)
    (name_text (model_at models c.args.model).name
    (c.tasks-tasks.ensures.mix.draft.each c.args.model _ c.requires).name)))
