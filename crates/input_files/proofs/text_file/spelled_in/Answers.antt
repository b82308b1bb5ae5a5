use Rattle.std.proofs.Common.{◌∙◌, ◌≤◌, Some, length, inr, refl, sym, ap, subst, ℕ, List}
use Rattle.text_grammar.specs.Texts.{spelled}
use Rattle.command_outcome.specs.Outcome.{Stops, outside, told}
use Rattle.command_outcome.specs.declared.status.Status.TheVariants as ends
use Rattle.input_files.proofs.InputFacts.{reads}
use Rattle.input_files.specs.TextFile.{SpellsNone, IsFaultyText}
use Rattle.input_files.proofs.text_file.spelled_in.Goals as goal

pub returns-in-Fault-clause-said : goal.returns-in-Fault-clause-said
returns-in-Fault-clause-said g c = λ t.
    let text = spelled g.T.Text.rows g.T.Text.may_say in
    let W : List ℕ → Type 0 = λ bytes. length bytes ≤ 4294967296 in
    subst (λ s. Stops (SpellsNone text (outside (g.S.Shelf.file c.args.shelf.now)
    (g.S.Shelf.blames c.fetch_within.new.shelf)) c.args.file.now) s) (sym c.refuse.ensures)
    (inr (reads 4294967296 (g.S.Shelf.file c.args.shelf.now c.args.file.now) c.deref.result.now
    (λ bytes. IsFaultyText text bytes (told ends.Refused c.in_ok-line-in-Fault.line.items))
    ((c.in_ok-bytes.ensures.source t).0 ∙ ap Some (sym c.deref.ensures.value))
    (subst W (sym c.deref.ensures.value) (c.in_ok-bytes.ensures.source t).1)
    (record {
      fault = c.in-Fault.fault;
      first = c.in-Fault.ensures.read;
      unread = λ v s. c.in-Fault.ensures.none c.in-Fault.fault refl v s.0 s.1;
      shown = ap (told ends.Refused) c.in_ok-line-in-Fault.ensures;
    })))
