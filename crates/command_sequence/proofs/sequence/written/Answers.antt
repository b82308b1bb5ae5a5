use Rattle.std.proofs.Common.{◌≡◌, ◌∙◌, option_map, ap, refl, List, ℕ, Option}
use Rattle.sequence_cert.specs.SequenceText.{sequence_text}
use Rattle.command_outcome.specs.Found.{page_of}
use Rattle.command_outcome.specs.Outcome.{outcome_of}
use Rattle.command_outcome.proofs.WrittenFacts.{comes, cut}
use Rattle.command_sequence.proofs.WrittenFacts.{same_page}
use Rattle.command_sequence.proofs.sequence.written.Goals as goal

pub returns-in-Done-clause-ends : goal.returns-in-Done-clause-ends
returns-in-Done-clause-ends g c = λ t files same cert kept.
    let r = c.args.report in
    let given : Option (List ℕ) = option_map (λ n. n.now) c.args.name in
    let name = c.in-Some.name.now in
    let mine = c.in-Sequence.cert in
    comes (λ out. out ≡ outcome_of r (page_of given (sequence_text cert))) r name (sequence_text mine)
    c.deref.result.now files (g.S.Shelf.file c.args.shelf.now) (g.S.Shelf.file c.write_whole.new.shelf)
    (g.S.Shelf.blames c.write_whole.new.shelf)
    (same_page given name r mine cert (ap (option_map (λ n. n.now)) c.in-Some.is) c.in-Sequence.is kept)
    (c.deref.ensures.value ∙ c.in_ok-text.ensures) same (c.in-Done.ensures.done t refl) (c.in-Done.ensures.others t)

pub returns-in-WriteFault-clause-ends : goal.returns-in-WriteFault-clause-ends
returns-in-WriteFault-clause-ends g c = λ t files same cert kept.
    let r = c.args.report in
    let given : Option (List ℕ) = option_map (λ n. n.now) c.args.name in
    let name = c.in-Some.name.now in
    let mine = c.in-Sequence.cert in
    cut (λ out. out ≡ outcome_of r (page_of given (sequence_text cert))) r name (sequence_text mine)
    c.deref.result.now files (g.S.Shelf.file c.args.shelf.now) (g.S.Shelf.file c.write_whole.new.shelf)
    (g.S.Shelf.blames c.write_whole.new.shelf)
    (same_page given name r mine cert (ap (option_map (λ n. n.now)) c.in-Some.is) c.in-Sequence.is kept)
    (c.deref.ensures.value ∙ c.in_ok-text.ensures) same (c.in-WriteFault.ensures.blame t refl)
    (c.in-WriteFault.ensures.prefix t) (c.in-WriteFault.ensures.others t)

pub returns-in-WriteFault-clause-unwritten : goal.returns-in-WriteFault-clause-unwritten
returns-in-WriteFault-clause-unwritten g c = λ e. (c.in-Some.name.now, ap (option_map (λ n. n.now)) c.in-Some.is)
