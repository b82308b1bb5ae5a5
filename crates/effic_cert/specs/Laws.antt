-- Laws of the texts of certificates of products.
use Rattle.text_grammar.specs.Texts.{NoneBegins}
use Rattle.effic_cert.specs.Faults.{products}

-- no text of a certificate, of either version, begins that of another
abbrev pub NoProductTextBeginsAnother : Type 0
NoProductTextBeginsAnother = NoneBegins products
