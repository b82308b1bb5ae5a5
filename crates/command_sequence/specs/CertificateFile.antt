-- What a file says of a certificate of a sequence, and why it says none.
use Rattle.std.specs.Prelude.{ℕ, List}
use Rattle.sequence_values.specs.declared.types.SeqCert.{SeqCert}
use Rattle.sequence_cert.specs.Faults.{sequences}
use Rattle.command_outcome.specs.Outcome.{Files, Outside, Outcome}
use Rattle.mix_files.specs.inputs.TextFile.{IsSpelledIn, SpellsNone}

-- the file says the certificate
abbrev pub IsSeqCertOf : Files → List ℕ → SeqCert → Type 0
IsSeqCertOf = IsSpelledIn sequences

-- the file says no certificate: it isn't taken in, or is no certificate's text
abbrev pub IsNoSeqCert : Outside → List ℕ → Outcome → Type 0
IsNoSeqCert = SpellsNone sequences
