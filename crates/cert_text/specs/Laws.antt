-- Laws of certificates' texts.
use Rattle.std.specs.Prelude.{◌≡◌, ℕ, List, [], ◌++◌}
use Rattle.cert_text.specs.Versions.{AnyCertificate, IsAnyInRange, any_text}

-- no text of a certificate, of any version, begins that of another
abbrev pub NoTextBeginsAnother : Type 0
NoTextBeginsAnother = (c d : AnyCertificate) (rest : List ℕ) → IsAnyInRange c → IsAnyInRange d
    → any_text c ++ rest ≡ any_text d → (c ≡ d) × (rest ≡ [])
