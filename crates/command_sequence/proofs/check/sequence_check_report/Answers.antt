use Rattle.std.proofs.Common.{◌∙◌, subst, inl, inr}
use Rattle.command_outcome.specs.Outcome.{Files, Outside, Outcome, outside}
use Rattle.command_outcome.proofs.OutcomeFacts.{early}
use Rattle.mix_files.proofs.BalancedFacts.{same_files}
use Rattle.command_sequence.specs.TimedMix.{IsUntimed}
use Rattle.command_sequence.specs.CertificateFile.{IsNoSeqCert}
use Rattle.command_sequence.specs.SequenceCheck.{IsSequenceCheckOutcome}
use Rattle.command_sequence.proofs.check.sequence_check_report.Goals as goal

pub returns-in_err-timed-clause-ends : goal.returns-in_err-timed-clause-ends
returns-in_err-timed-clause-ends g c = λ t.
    let a = c.args in
    let after : Files = g.S.Shelf.file c.timed_of.new.shelf in
    let o : Outside = outside (g.S.Shelf.file a.shelf.now) (g.S.Shelf.blames c.timed_of.new.shelf) in
    let P : Outcome → Type 0 = IsSequenceCheckOutcome o a.mix.now a.cert.now a.seq.now a.interval a.reach a.steps in
    early o P (IsUntimed o a.mix.now a.cert.now a.interval) after c.in_err-timed.field-0.0 c.from_residual.result
    (λ out x. inr (inl x)) (c.in_err-timed.ensures.files t) (c.in_err-timed.ensures.said t) c.from_residual.ensures.1

pub returns-in_err-proof-clause-ends : goal.returns-in_err-proof-clause-ends
returns-in_err-proof-clause-ends g c = λ t.
    let a = c.args in
    let files : Files = g.S.Shelf.file a.shelf.now in
    let mid : Files = g.S.Shelf.file c.timed_of.new.shelf in
    let after : Files = g.S.Shelf.file c.spelled_in.new.shelf in
    let blames = g.S.Shelf.blames c.spelled_in.new.shelf in
    let o : Outside = outside files blames in
    let P : Outcome → Type 0 = IsSequenceCheckOutcome o a.mix.now a.cert.now a.seq.now a.interval a.reach a.steps in
    let timed = c.in_ok-timed.timed in
    let same = same_files mid files (c.in_ok-timed.ensures.files t) in
    early o P (IsNoSeqCert (outside mid blames) a.seq.now) after c.in_err-proof.field-0.0
    c.from_residual-in_err-proof.result
    (λ out x.
    let F : Files → Type 0 = λ f. IsNoSeqCert (outside f blames) a.seq.now out in
    inr (inr (record {
      mix = timed.mix;
      times = timed.times;
      timed = c.in_ok-timed.ensures.said t;
      unread = subst F same x;
    })))
    (λ n. c.in_err-proof.ensures.files t n ∙ c.in_ok-timed.ensures.files t n) (c.in_err-proof.ensures.said t)
    c.from_residual-in_err-proof.ensures.1
