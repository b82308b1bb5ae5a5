use Rattle.std.proofs.Common.{◌≡◌, option_map, subst, inl, inr, List, ℕ, Option}
use Rattle.std.proofs.lemmas.Result.{IfOk-weaker}
use Rattle.sequence_rules.specs.Ranges.{IsInRange}
use Rattle.sequence_values.specs.declared.types.SeqCert.{SeqCert}
use Rattle.command_outcome.specs.Found.{Search, IsFiled}
use Rattle.command_outcome.specs.Outcome.{Files, Outside, Outcome, outside}
use Rattle.command_outcome.specs.declared.report.Report.{Report}
use Rattle.command_outcome.proofs.FoundFacts.{filed, handed_status, reported}
use Rattle.command_outcome.proofs.OutcomeFacts.{early}
use Rattle.command_sequence.specs.TimedMix.{IsUntimed}
use Rattle.command_sequence.specs.Ordered.{IsSequenceOutcome, IsSequencePromised, least_work}
use Rattle.command_sequence.proofs.sequence.sequence_report.Goals as goal

pub returns-in_err-timed-clause-ends : goal.returns-in_err-timed-clause-ends
returns-in_err-timed-clause-ends g c = λ t.
    let a = c.args in
    let name : Option (List ℕ) = option_map (λ n. n.now) a.name in
    let after : Files = g.S.Shelf.file c.timed_of.new.shelf in
    let o : Outside = outside (g.S.Shelf.file a.shelf.now) (g.S.Shelf.blames c.timed_of.new.shelf) in
    let P : Outcome → Type 0 = IsSequenceOutcome o a.mix.now a.cert.now a.interval a.reach a.units a.seek name in
    early o P (IsUntimed o a.mix.now a.cert.now a.interval) after c.in_err-timed.field-0.0 c.from_residual.result
    (λ out x. inr x) (c.in_err-timed.ensures.files t) (c.in_err-timed.ensures.said t) c.from_residual.ensures.1

pub written-requires : goal.written-requires
written-requires g c =
    let found = c.in_ok-report.ensures.answer in
    let range : IsInRange found.certificate =
    elim found.answer [ inl a ↦ a.1.solved.certified.range | inr a ↦ a.1.stopped.certified.range ] in
    record {
      range = λ cert kept. let same : ◌≡◌ {A = SeqCert} found.certificate cert = cc (found.keeps, kept) in
          subst IsInRange same range;
    }

pub returns-clause-ends : goal.returns-clause-ends
returns-clause-ends g c = λ t.
    let a = c.args in
    let files : Files = g.S.Shelf.file a.shelf.now in
    let o : Outside = outside files (g.S.Shelf.blames c.written.new.shelf) in
    let timed = c.in_ok-timed.timed in
    let name : Option (List ℕ) = option_map (λ n. n.now) a.name in
    let found = c.in_ok-report.ensures.answer in
    let sought : Search = least_work timed.mix timed.times a.interval a.reach a.units a.seek in
    reported sought name c.in_ok-report.report found (g.S.Shelf.file c.written.new.shelf) c.written.result o
    (IsSequenceOutcome o a.mix.now a.cert.now a.interval a.reach a.units a.seek name)
    (λ out is. inl (record {
      mix = timed.mix;
      times = timed.times;
      timed = c.in_ok-timed.ensures.said t;
      answer = inl is;
    }))
    (c.written.ensures.ends t files (c.in_ok-timed.ensures.files t) found.certificate found.keeps)

pub returns-clause-good : goal.returns-clause-good
returns-clause-good g c =
    let a = c.args in
    let timed = c.in_ok-timed.timed in
    handed_status (least_work timed.mix timed.times a.interval a.reach a.units a.seek) (option_map (λ n. n.now) a.name)
    c.in_ok-report.report c.in_ok-report.ensures.answer (g.S.Shelf.file c.written.new.shelf) c.written.result
    c.written.ensures.same

pub returns-clause-promise : goal.returns-clause-promise
returns-clause-promise g c = λ t.
    let a = c.args in
    let after : Files = g.S.Shelf.file c.written.new.shelf in
    let timed = c.in_ok-timed.timed in
    let name : Option (List ℕ) = option_map (λ n. n.now) a.name in
    let sought : Search = least_work timed.mix timed.times a.interval a.reach a.units a.seek in
    let F : Report → Type 0 = λ x. IsFiled sought name after x.status x.text.items x.kept in
    let P : Report → Type 0 = λ x. IsSequencePromised (g.S.Shelf.file a.shelf.now) after a.mix.now a.cert.now a.interval
    a.reach a.units a.seek name x.status x.text.items x.kept in
    IfOk-weaker c.written.result F P
    (λ x is. record { mix = timed.mix; times = timed.times; timed = c.in_ok-timed.ensures.said t; filed = is })
    (filed sought name c.in_ok-report.report c.in_ok-report.ensures.answer after c.written.result c.written.ensures.same
    (c.written.ensures.certificate t))
