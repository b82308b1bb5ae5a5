-- A law of the check of certificates.
use Rattle.std.specs.Prelude.{◌≡◌, ℕ, List}
use Rattle.sequence_values.specs.declared.types.Times.{Times}
use Rattle.sequence_values.specs.declared.types.SeqEntry.{SeqEntry}
use Rattle.sequence_values.specs.declared.types.SeqCert.{SeqCert}
use Rattle.sequence_check.specs.Faults.{IsChecked}
use Rattle.sequence_check.specs.Verdicts.{IsVerdict}
use Rattle.sequence_check.specs.declared.types.SeqEntryChecked.{SeqEntryChecked}
use Rattle.sequence_check.specs.declared.types.SeqVerified.{SeqVerified}

-- what is found with so many steps is one answer: of a certificate, and of one entry after others
pub record VerdictIsOne : Type 0 where
  pub certificate : (t : Times) (interval reach : ℕ) (cert : SeqCert) (steps : ℕ) (v w : SeqVerified)
      → IsVerdict t interval reach cert steps v → IsVerdict t interval reach cert steps w → v ≡ w
  pub entry : (t : Times) (interval reach : ℕ) (charges : List ℕ) (earlier : List SeqEntry) (e : SeqEntry) (steps : ℕ)
      (v w : SeqEntryChecked)
      → IsChecked t interval reach charges earlier e steps v → IsChecked t interval reach charges earlier e steps w
      → v ≡ w
