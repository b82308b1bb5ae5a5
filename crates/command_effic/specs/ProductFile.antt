-- What a file says of a certificate of a product, and why it says none.
use Rattle.std.specs.Prelude.{◌≡◌, ℕ, List}
use Rattle.command_outcome.specs.Outcome.{Files, Outside, Outcome}
use Rattle.input_files.specs.TextFile.{IsSpelledIn, SpellsNone}
use Rattle.effic_cert.specs.Faults.{products}
use Rattle.effic_cert.specs.declared.version.VersionedCert.{VersionedCert}
use Rattle.line_rules.specs.declared.products.EfficCert.{EfficCert}

-- the file says the certificate, in a version of its text
abbrev pub IsProductOf : Files → List ℕ → EfficCert → Type 0
IsProductOf files name cert = (x : VersionedCert) × (x.cert ≡ cert) × IsSpelledIn products files name x

-- the file says no certificate: it isn't taken in, or is no certificate's text
abbrev pub IsNoProduct : Outside → List ℕ → Outcome → Type 0
IsNoProduct = SpellsNone products
