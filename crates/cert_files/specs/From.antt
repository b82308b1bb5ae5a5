-- What reading a certificate from a file answers.
use Rattle.std.specs.Prelude.{◌≡◌, ◌⊎◌, ℕ, suc, ◌<◌, ◌≤◌, List, length, Option, Some}
use Rattle.line_rules.specs.Ranges.{IsInRange}
use Rattle.cert_text.specs.WholeText.{IsCertRead}
use Rattle.cert_text.specs.declared.whole_text.CertRead.{CertRead}
use Rattle.cert_text.specs.declared.whole_text.CertRead.TheVariants as reads
use Rattle.line_rules.specs.declared.types.Certificate.{Certificate}
use Rattle.cert_lines.specs.declared.fault.CertFault.{CertFault}
use Rattle.cert_lines.specs.declared.fault.CertKind.TheVariants.{Trailing}
use Rattle.cert_files.specs.declared.stop.Stop.{Stop}
use Rattle.cert_files.specs.declared.stop.Stop.TheVariants as stops
use Rattle.cert_files.specs.declared.stop.Rest.{Rest}
use Rattle.cert_files.specs.declared.stop.Rest.TheVariants as rests
use Rattle.cert_files.specs.declared.fetching.CertFrom.{CertFrom}
use Rattle.cert_files.specs.declared.fetching.CertFrom.TheVariants.{Good, Fault, TooLong, ReadFault, NoMemory}

-- the bytes of the file are within the limit, and reading them as a text answers this
pub record IsReadWithin (file : Option (List ℕ)) (limit : ℕ) (answer : CertRead) : Type 0 where
  pub bytes : List ℕ
  pub there : file ≡ Some bytes
  pub within : length bytes ≤ limit
  pub read : IsCertRead bytes answer

-- the file has more bytes than the limit
pub record IsLonger (file : Option (List ℕ)) (limit : ℕ) : Type 0 where
  pub bytes : List ℕ
  pub there : file ≡ Some bytes
  pub longer : limit < length bytes

-- Of a file that is told: a certificate or a fault is that of its bytes, which are within the limit; TooLong comes
-- where it has more.
abbrev pub IsCertFrom : Option (List ℕ) → ℕ → CertFrom → Type 0
IsCertFrom file limit (Good cert) = IsReadWithin file limit (reads.Good cert)
IsCertFrom file limit (Fault fault) = IsReadWithin file limit (reads.Fault fault)
IsCertFrom file limit TooLong = IsLonger file limit
IsCertFrom file limit ReadFault = Unit {0}
IsCertFrom file limit NoMemory = Unit {0}

-- a certificate that was read is within its ranges
abbrev pub IsGoodInRange : CertFrom → Type 0
IsGoodInRange (Good cert) = IsInRange cert
IsGoodInRange (Fault fault) = Unit {0}
IsGoodInRange TooLong = Unit {0}
IsGoodInRange ReadFault = Unit {0}
IsGoodInRange NoMemory = Unit {0}

-- the answer where the lines couldn't go on
abbrev pub stopped_from : Stop → CertFrom
stopped_from stops.Going = NoMemory
stopped_from stops.Failed = ReadFault
stopped_from stops.TooLong = TooLong
stopped_from stops.Memory = NoMemory

-- the answer where the text has a fault, by what stands behind it
abbrev pub fault_from : Rest → CertFault → CertFrom
fault_from rests.Nothing f = Fault f
fault_from rests.More f = Fault f
fault_from rests.TooLong f = TooLong
fault_from rests.Failed f = ReadFault

-- the answer where a certificate of so many lines was read, by what stands behind it
abbrev pub IsGoodFrom : Rest → Certificate → ℕ → CertFrom → Type 0
IsGoodFrom rests.Nothing cert lines answer = answer ≡ Good cert
IsGoodFrom rests.More cert lines answer = (answer ≡ Fault (record { line = suc lines; kind = Trailing }))
    ⊎ (answer ≡ NoMemory)
IsGoodFrom rests.TooLong cert lines answer = answer ≡ TooLong
IsGoodFrom rests.Failed cert lines answer = answer ≡ ReadFault
