-- What reading a line, and reading a part of a text, answer.
use Rattle.std.specs.Prelude.{◌≡◌, ◌≢◌, ℕ, ◌+◌, List, [], ◌∷◌, ◌++◌, length, map, slice_get, Some, Result, Ok, Err}
use Rattle.cert_lines.specs.Rows.{Row, form_of, row_text, rows_text}
use Rattle.cert_lines.specs.Faults.{Grammar, IsFault}
use Rattle.cert_lines.specs.declared.fault.LineError.{LineError}
use Rattle.cert_lines.specs.declared.fault.LineError.TheVariants as lines
use Rattle.cert_lines.specs.declared.fault.ReadError.{ReadError}
use Rattle.cert_lines.specs.declared.fault.ReadError.TheVariants as errors

-- a line has the form of that of some value that may be said
abbrev pub HasFormOf : {V : Type 0} → (V → Row) → (V → Type 0) → List ℕ → Type 0
HasFormOf {V} row ranged line = (v : V) × ranged v × (r : Row) × (form_of r ≡ form_of (row v)) × (row_text r ≡ line)

-- a line is that of a value, or hasn't the form, or has it and is that of no value that may be said
abbrev pub IsJudged : {V : Type 0} → (V → Row) → (V → Type 0) → List ℕ → Result V LineError → Type 0
IsJudged row ranged line (Ok v) = ranged v × (row_text (row v) ≡ line)
IsJudged row ranged line (Err lines.Form) = ¬ HasFormOf row ranged line
IsJudged {V} row ranged line (Err lines.Range) = HasFormOf row ranged line
    × ((v : V) → ranged v → row_text (row v) ≢ line)
IsJudged row ranged line (Err lines.Memory) = Unit {0}

-- one line for a value
abbrev pub one : {V : Type 0} → (V → Row) → (V → Type 0) → Grammar V
one row ranged = record { rows = λ v. row v ∷ []; ranged = ranged }

-- so many values that may be said
pub record AreSaid {V : Type 0} (ranged : V → Type 0) (count : ℕ) (vs : List V) : Type 0 where
  pub many : length vs ≡ count
  pub each : (k : ℕ) (v : V) → slice_get vs k ≡ Some v → ranged v

-- a line for each of so many values
abbrev pub each : {V : Type 0} → (V → Row) → (V → Type 0) → ℕ → Grammar (List V)
each row ranged count = record { rows = map row; ranged = AreSaid ranged count }

-- A part of a text is read: its lines are those of a value that may be said; or it has a fault.
abbrev pub IsRead : {V : Type 0} → Grammar V → ℕ → List ℕ → List ℕ → ℕ → Result V ReadError → Type 0
IsRead g passed text rest after (Ok v) = g.ranged v × (text ≡ rows_text (g.rows v) ++ rest)
    × (after ≡ passed + length (g.rows v))
IsRead g passed text rest after (Err (errors.Fault f)) = IsFault g passed text f
IsRead g passed text rest after (Err errors.Stopped) = Unit {0}

-- one value behind the other, of which the second may depend on the first
abbrev pub then_ : {A B : Type 0} → Grammar A → (A → Grammar B) → Grammar (A × B)
then_ g h = record { rows = λ v. g.rows v.0 ++ (h v.0).rows v.1; ranged = λ v. g.ranged v.0 × (h v.0).ranged v.1 }
