-- What reading the text of a certificate of a product answers.
use Rattle.std.specs.Prelude.{ℕ, List}
use Rattle.cert_lines.specs.Faults.{Grammar}
use Rattle.cert_lines.specs.declared.fault.CertFault.{CertFault}
use Rattle.cert_text.specs.Parts.{MayHave}
use Rattle.text_grammar.specs.Texts.{IsTextFault, IsTextRead}
use Rattle.text_grammar.specs.declared.text.TextRead.{TextRead}
use Rattle.line_rules.specs.Products.{IsSayable}
use Rattle.effic_cert.specs.Product.{rows_in, may_have_pairs}
use Rattle.effic_cert.specs.declared.version.VersionedCert.{VersionedCert}

-- a certificate within its ranges that a text of the version can say: one of version 1 has no entry by pairs
abbrev pub IsVersioned : VersionedCert → Type 0
IsVersioned x = IsSayable x.cert × MayHave (may_have_pairs x.version) x.cert.entries

-- the texts of certificates within their ranges, of both versions
abbrev pub products : Grammar VersionedCert
products = record { rows = λ x. rows_in x.version x.cert; ranged = IsVersioned }

-- the fault of a text: its first line that no certificate's text passes, of either version, or its end, or a byte
-- behind the last line
abbrev pub IsProductFault : List ℕ → CertFault → Type 0
IsProductFault = IsTextFault products

-- Each answer with its cause: the certificate within its ranges whose one text of that version the bytes are, or the
-- text's first fault.
abbrev pub IsEfficRead : List ℕ → TextRead VersionedCert → Type 0
IsEfficRead = IsTextRead products
