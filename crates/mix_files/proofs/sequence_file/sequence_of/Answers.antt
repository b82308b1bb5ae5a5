use Rattle.std.proofs.Common.{◌∙◌, ◌≤◌, ◌⊎◌, Some, length, inr, sym, ap, subst, ℕ, List}
use Rattle.command_outcome.specs.Outcome.{Stops, outside, told}
use Rattle.command_outcome.specs.declared.status.Status.TheVariants as ends
use Rattle.input_files.specs.InputFile.{max_file}
use Rattle.input_files.proofs.InputFacts.{reads}
use Rattle.mix_files.specs.SequenceFile.{IsNoSequence, IsUnknownUnit, AreManyUnits}
use Rattle.mix_files.proofs.sequence_file.sequence_of.Goals as goal

pub returns-in-TooManyUnits-clause-said : goal.returns-in-TooManyUnits-clause-said
returns-in-TooManyUnits-clause-said g c = λ t.
    let name : List ℕ = c.args.file.now in
    let models = c.args.mix.now.models in
    let out = told ends.Input c.in_ok-text-in-TooManyUnits.text.items in
    let W : List ℕ → Type 0 = λ bytes. length bytes ≤ max_file in
    subst (λ s. Stops (IsNoSequence (outside (g.S.Shelf.file c.args.shelf.now) (g.S.Shelf.blames c.fetch.new.shelf))
    name models) s) (sym c.refuse-in-TooManyUnits.ensures)
    (inr (reads max_file (g.S.Shelf.file c.args.shelf.now name) c.deref.result.now
    (λ bytes. IsUnknownUnit name models bytes out ⊎ AreManyUnits name models bytes out)
    ((c.in_ok-bytes.ensures.source t).0 ∙ ap Some (sym c.deref.ensures.value))
    (subst W (sym c.deref.ensures.value) (c.in_ok-bytes.ensures.source t).1)
    (inr (record {
      many = c.in-TooManyUnits.ensures.read.0;
      known = c.in-TooManyUnits.ensures.read.1;
      shown = ap (told ends.Input) c.in_ok-text-in-TooManyUnits.ensures;
    }))))
