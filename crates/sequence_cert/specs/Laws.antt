-- Laws of the texts of certificates of sequences.
use Rattle.text_grammar.specs.Texts.{NoneBegins}
use Rattle.sequence_cert.specs.Faults.{sequences}

-- no text of a certificate begins that of another
abbrev pub NoSequenceTextBeginsAnother : Type 0
NoSequenceTextBeginsAnother = NoneBegins sequences
