-- What the text of a file says, and why it says nothing.
use Rattle.std.specs.Prelude.{◌≡◌, ◌⊎◌, ℕ, List}
use Rattle.cert_lines.specs.Faults.{Grammar}
use Rattle.cert_lines.specs.declared.fault.CertFault.{CertFault}
use Rattle.text_grammar.specs.Texts.{Says, IsTextFault}
use Rattle.command_outcome.specs.Outcome.{Files, Outside, Outcome, told}
use Rattle.command_outcome.specs.declared.status.Status.TheVariants as ends
use Rattle.input_files.specs.Certificate.{cert_fault_line}
use Rattle.input_files.specs.InputFile.{Reads, IsUntaken, max_certificate}

-- the bytes are the text of no value, and the outcome names the first fault
pub record IsFaultyText {V : Type 0} (g : Grammar V) (bytes : List ℕ) (out : Outcome) : Type 0 where
  pub fault : CertFault
  pub first : IsTextFault g bytes fault
  pub unread : (v : V) → Says g bytes v → ⊥
  pub shown : out ≡ told ends.Refused (cert_fault_line fault)

-- the file says the value: its bytes are the value's text
abbrev pub IsSpelledIn : {V : Type 0} → Grammar V → Files → List ℕ → V → Type 0
IsSpelledIn g files name v = Reads max_certificate (files name) (λ bytes. Says g bytes v)

-- the file says no value: it isn't taken in, or is no value's text
abbrev pub SpellsNone : {V : Type 0} → Grammar V → Outside → List ℕ → Outcome → Type 0
SpellsNone g o name out =
    IsUntaken o max_certificate name out
    ⊎ Reads max_certificate (o.files name) (λ bytes. IsFaultyText g bytes out)
