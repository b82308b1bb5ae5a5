-- What is known of a file that a command reads.
use Rattle.std.specs.Prelude.{◌≡◌, ◌⊎◌, ℕ, ◌<◌, ◌≤◌, true, List, ◌++◌, Option, Some, None, length, codes}
use Rattle.command_outcome.specs.Outcome.{Files, Outside, Outcome, told}
use Rattle.command_outcome.specs.Print.{printed}
use Rattle.command_outcome.specs.declared.status.Status.TheVariants as ends

-- the most bytes of an instance file and of a file of pairs, and of a certificate
abbrev pub max_file : ℕ
max_file = 16777216

abbrev pub max_certificate : ℕ
max_certificate = 4294967296

-- the file is there, and its bytes pass
abbrev pub Has : Option (List ℕ) → (List ℕ → Type 0) → Type 0
Has None P = ⊥
Has (Some bytes) P = P bytes

-- the file is there, with at most so many bytes, and they pass
abbrev pub Reads : ℕ → Option (List ℕ) → (List ℕ → Type 0) → Type 0
Reads limit file P = Has file (λ bytes. (length bytes ≤ limit) × P bytes)

-- the line about a file that can't be read
abbrev pub read_fault_line : List ℕ → List ℕ
read_fault_line name = codes "read fault: " ++ printed name ++ codes "\n"

-- the file can't be read: the last call that failed was on it
abbrev pub IsUnreadable : Outside → List ℕ → Outcome → Type 0
IsUnreadable o name out = (o.blames name ≡ true) × (out ≡ told ends.ReadFault (read_fault_line name))

-- the line about a file that is too long
abbrev pub too_long_line : List ℕ → List ℕ
too_long_line name = codes "input: " ++ printed name ++ codes " too long\n"

-- the file has more bytes than its limit
abbrev pub IsTooLong : Files → ℕ → List ℕ → Outcome → Type 0
IsTooLong files limit name out = Has (files name) (λ bytes. (limit < length bytes)
    × (out ≡ told ends.Input (too_long_line name)))

-- the file isn't taken in: it can't be read, or it has more bytes than its limit
abbrev pub IsUntaken : Outside → ℕ → List ℕ → Outcome → Type 0
IsUntaken o limit name out = IsUnreadable o name out ⊎ IsTooLong o.files limit name out

-- the line about the first fault of a file
abbrev pub fault_line : List ℕ → List ℕ → List ℕ
fault_line name fault = codes "input: " ++ printed name ++ codes " " ++ fault ++ codes "\n"
