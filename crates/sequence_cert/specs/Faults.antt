-- What reading the text of a certificate of a sequence answers.
use Rattle.std.specs.Prelude.{ℕ, List}
use Rattle.cert_lines.specs.Faults.{Grammar}
use Rattle.cert_lines.specs.declared.fault.CertFault.{CertFault}
use Rattle.sequence_rules.specs.Ranges.{IsInRange}
use Rattle.sequence_values.specs.declared.types.SeqCert.{SeqCert}
use Rattle.text_grammar.specs.Texts.{IsTextFault, IsTextRead}
use Rattle.text_grammar.specs.declared.text.TextRead.{TextRead}
use Rattle.sequence_cert.specs.SequenceText.{sequence_rows}

-- the texts of certificates within their ranges
abbrev pub sequences : Grammar SeqCert
sequences = record { rows = sequence_rows; ranged = IsInRange }

-- the fault of a text: its first line that no certificate's text passes, or its end, or a byte behind the last line
abbrev pub IsSequenceFault : List ℕ → CertFault → Type 0
IsSequenceFault = IsTextFault sequences

-- Each answer with its cause: the certificate within its ranges whose one text the bytes are, or the text's first
-- fault.
abbrev pub IsSeqRead : List ℕ → TextRead SeqCert → Type 0
IsSeqRead = IsTextRead sequences
