use Rattle.std.proofs.Common.{◌∙◌, ◌≤◌, Some, length, inr, refl, sym, ap, subst, ℕ, List}
use Rattle.command_outcome.specs.Outcome.{Stops, outside, told}
use Rattle.command_outcome.specs.declared.status.Status.TheVariants as ends
use Rattle.input_files.specs.InputFile.{max_file}
use Rattle.input_files.specs.Instance.{IsNoPairs, IsFaultyApart}
use Rattle.input_files.proofs.InputFacts.{reads}
use Rattle.input_files.proofs.apart_pairs.pairs_of.Goals as goal

pub returns-in-Fault-clause-said : goal.returns-in-Fault-clause-said
returns-in-Fault-clause-said g c = λ t.
    let W : List ℕ → Type 0 = λ bytes. length bytes ≤ max_file in
    subst (λ s. Stops (IsNoPairs (outside (g.S.Shelf.file c.args.shelf.now) (g.S.Shelf.blames c.fetch.new.shelf))
    c.args.file.now c.args.tasks) s) (sym c.refuse.ensures)
    (inr (reads max_file (g.S.Shelf.file c.args.shelf.now c.args.file.now) c.deref.result.now
    (λ bytes. IsFaultyApart c.args.file.now c.args.tasks bytes (told ends.Input c.in_ok-text-in-Fault.text.items))
    ((c.in_ok-bytes.ensures.source t).0 ∙ ap Some (sym c.deref.ensures.value))
    (subst W (sym c.deref.ensures.value) (c.in_ok-bytes.ensures.source t).1)
    (record {
      fault = c.in-Fault.fault;
      first = c.in-Fault.ensures.read;
      unread = c.in-Fault.ensures.none c.in-Fault.fault refl;
      shown = ap (told ends.Input) c.in_ok-text-in-Fault.ensures;
    })))
