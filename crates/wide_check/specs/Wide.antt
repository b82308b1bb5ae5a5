-- What the check of a certificate in threads answers.
use Rattle.std.specs.Prelude.{◌≡◌, ℕ}
use Rattle.line_instance.specs.Line.{Line}
use Rattle.line_rules.specs.declared.types.Certificate.{Certificate}
use Rattle.line_check.specs.Certificates.{IsVerdict, IsAcceptedSo, IsRejectedSo, IsTrueOf}
use Rattle.line_check.specs.declared.types.Verified.{Verified}
use Rattle.wide_check.specs.declared.wide.Wide.{Wide}
use Rattle.wide_check.specs.declared.wide.Wide.TheVariants.{Done, NoMemory}

-- the verdict on the certificate, as the check in order finds it
abbrev pub IsWideVerdict : Line → Certificate → ℕ → Wide → Type 0
IsWideVerdict line cert steps (Done v) = IsVerdict line cert steps v
IsWideVerdict line cert steps NoMemory = Unit {0}

-- it is the one verdict on the certificate, so the check in order answers the same
abbrev pub IsInOrder : Line → Certificate → ℕ → Wide → Type 0
IsInOrder line cert steps (Done v) = (w : Verified) → IsVerdict line cert steps w → v ≡ w
IsInOrder line cert steps NoMemory = Unit {0}

-- accepted and too long say that the certificate is accepted so
abbrev pub IsWideAccepted : Line → Certificate → ℕ → Wide → Type 0
IsWideAccepted line cert steps (Done v) = IsAcceptedSo line cert steps v
IsWideAccepted line cert steps NoMemory = Unit {0}

-- a refusal rules out that it is accepted, and steps that ended that it is with so few units
abbrev pub IsWideRejected : Line → Certificate → ℕ → Wide → Type 0
IsWideRejected line cert steps (Done v) = IsRejectedSo line cert steps v
IsWideRejected line cert steps NoMemory = Unit {0}

-- what is accepted is true
abbrev pub IsWideTrue : Line → Certificate → Wide → Type 0
IsWideTrue line cert (Done v) = IsTrueOf line cert v
IsWideTrue line cert NoMemory = Unit {0}
