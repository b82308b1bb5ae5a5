-- What `sequence-check` comes to, and what it promises.
use Rattle.std.specs.Prelude.{◌≡◌, ◌⊎◌, ℕ, List}
use Rattle.combined_graph.specs.Mixes.{MixedLine}
use Rattle.sequence_values.specs.declared.types.Times.{Times}
use Rattle.sequence_values.specs.declared.types.SeqCert.{SeqCert}
use Rattle.sequence_check.specs.Verdicts.{IsVerdict, IsTrueOf, IsRejectedSo}
use Rattle.sequence_check.specs.declared.types.SeqVerified.{SeqVerified}
use Rattle.command_outcome.specs.Outcome.{Files, Outside, Outcome, told}
use Rattle.command_outcome.specs.declared.status.Status.TheVariants as ends
use Rattle.mix_files.specs.Launch.{Names}
use Rattle.command_sequence.specs.TimedMix.{IsTimed, IsUntimed}
use Rattle.command_sequence.specs.CertificateFile.{IsSeqCertOf, IsNoSeqCert}
use Rattle.command_sequence.specs.VerdictText.{verdict_text, verdict_status}

-- The certificate that the third file says is checked for the mix and the balance that the other files say: the verdict
-- is exact, what is accepted is true, and the outcome tells the verdict.
pub record IsChecked (files : Files) (names : Names) (interval reach steps : ℕ) (out : Outcome) : Type 0 where
  pub mix : MixedLine
  pub times : Times
  pub cert : SeqCert
  pub found : SeqVerified
  pub timed : IsTimed files names.mix names.cert interval mix times
  pub read : IsSeqCertOf files names.seq cert
  pub verdict : IsVerdict times interval reach cert steps found
  pub rejected : IsRejectedSo times interval reach cert steps found
  pub true_bounds : IsTrueOf times interval reach cert found
  pub shown : out ≡ told (verdict_status found) (verdict_text found)

-- the first two files say a mix and its table, and the third one no certificate
pub record IsUnproved (o : Outside) (names : Names) (interval : ℕ) (out : Outcome) : Type 0 where
  pub mix : MixedLine
  pub times : Times
  pub timed : IsTimed o.files names.mix names.cert interval mix times
  pub unread : IsNoSeqCert o names.seq out

-- What `sequence-check` comes to: a verdict, or why the files say no table, or no certificate. A later file is named
-- only where the earlier ones were read.
abbrev pub IsSequenceCheckOutcome : Outside → List ℕ → List ℕ → List ℕ → ℕ → ℕ → ℕ → Outcome → Type 0
IsSequenceCheckOutcome o mix cert seq interval reach steps out =
    let names : Names = record { mix = mix; cert = cert; seq = seq } in
    IsChecked o.files names interval reach steps out ⊎ IsUntimed o mix cert interval out
    ⊎ IsUnproved o names interval out

-- The promise of `sequence-check` with status 0: the certificate of the third file is accepted for the mix and the
-- balance that the other files say, and what it claims is true: its sequence has each model as often as it is wanted,
-- its utility work is the upper bound, and no such sequence has less than the lower bound.
pub record IsProvedSequence (files : Files) (mix_name cert_name seq_name : List ℕ) (interval reach steps : ℕ)
    : Type 0 where
  pub mix : MixedLine
  pub times : Times
  pub cert : SeqCert
  pub found : SeqVerified
  pub timed : IsTimed files mix_name cert_name interval mix times
  pub read : IsSeqCertOf files seq_name cert
  pub yes : verdict_status found ≡ ends.Done
  pub verdict : IsVerdict times interval reach cert steps found
  pub holds : IsTrueOf times interval reach cert found
