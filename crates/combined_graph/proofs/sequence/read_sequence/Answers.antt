use Rattle.std.proofs.Common.{◌∙◌, ap, subst, List}
use Rattle.combined_graph.specs.Mixes.{LineModel}
use Rattle.combined_graph.specs.Sequences.{IsSequenceRead}
use Rattle.combined_graph.proofs.sequence.read_sequence.Goals as goal

pub returns-clause-read : goal.returns-clause-read
returns-clause-read c =
    let P : List LineModel → Type 0 = λ models. IsSequenceRead models c.args.bytes.now c.read_units.result in
    subst P (c.deref.ensures.value ∙ ap (λ m. m.models) c.mix.view_is) c.read_units.ensures.read
