-- Texts of values, and what reading one answers.
use Rattle.std.specs.Prelude.{◌≡◌, ◌⊎◌, ℕ, suc, ◌<◌, true, List, [], ◌++◌, length}
use Rattle.cert_lines.specs.Rows.{Row, row_text, rows_text}
use Rattle.cert_lines.specs.Faults.{Grammar, IsFault}
use Rattle.cert_lines.specs.declared.fault.CertFault.{CertFault}
use Rattle.cert_lines.specs.declared.fault.CertKind.TheVariants.{Trailing}
use Rattle.cert_lines.specs.Telling.{lacks, AllLack, texts, Unique}
use Rattle.text_grammar.specs.declared.text.TextRead.{TextRead}
use Rattle.text_grammar.specs.declared.text.TextRead.TheVariants.{Good, Fault, NoMemory}

-- the lines of each value, and which values may be said
abbrev pub spelled : {V : Type 0} → (V → List Row) → (V → Type 0) → Grammar V
spelled rows ranged = record { rows = rows; ranged = ranged }

-- What texts need to be told apart: lines begin with those of one value at most, some value may be said, and no line
-- has an LF in it.
pub record Tells {V : Type 0} (g : Grammar V) : Type 0 where
  pub unique : Unique g
  pub some : (v : V) × g.ranged v
  pub plain : (v : V) → AllLack (texts (g.rows v))

-- the same of one line for each value
pub record TellsLine {V : Type 0} (row : V → Row) (ranged : V → Type 0) : Type 0 where
  pub one : (v w : V) → ranged v → ranged w → row_text (row v) ≡ row_text (row w) → v ≡ w
  pub some : (v : V) × ranged v
  pub plain : (v : V) → lacks 10 (row_text (row v)) ≡ true

-- the text of a value
abbrev pub text_of : {V : Type 0} → Grammar V → V → List ℕ
text_of g v = rows_text (g.rows v)

-- the bytes say the value: it may be said, and they are its text
abbrev pub Says : {V : Type 0} → Grammar V → List ℕ → V → Type 0
Says g bytes v = g.ranged v × (bytes ≡ text_of g v)

-- a whole text, and a byte behind it: the fault is of that byte's line
pub record IsTrailing {V : Type 0} (g : Grammar V) (bytes : List ℕ) (f : CertFault) : Type 0 where
  pub whole : V
  pub ranged : g.ranged whole
  pub rest : List ℕ
  pub some : 0 < length rest
  pub all : bytes ≡ text_of g whole ++ rest
  pub line : f.line ≡ suc (length (g.rows whole))
  pub kind : f.kind ≡ Trailing

-- the fault of a text: its first line that no value's text passes, or its end, or a byte behind the last line
abbrev pub IsTextFault : {V : Type 0} → Grammar V → List ℕ → CertFault → Type 0
IsTextFault g bytes f = IsFault g 0 bytes f ⊎ IsTrailing g bytes f

-- Each answer with its cause: the value whose one text the bytes are, or the text's first fault.
abbrev pub IsTextRead : {V : Type 0} → Grammar V → List ℕ → TextRead V → Type 0
IsTextRead g bytes (Good v) = Says g bytes v
IsTextRead g bytes (Fault f) = IsTextFault g bytes f
IsTextRead g bytes NoMemory = Unit {0}

-- what stands behind a value that was read decides the answer
abbrev pub IsEnded : {V : Type 0} → V → List ℕ → ℕ → TextRead V → Type 0
IsEnded value left number (Good v) = (v ≡ value) × (left ≡ [])
IsEnded value left number (Fault f) = (0 < length left) × (f ≡ record { line = suc number; kind = Trailing })
IsEnded value left number NoMemory = Unit {0}

-- no text of a value begins that of another
abbrev pub NoneBegins : {V : Type 0} → Grammar V → Type 0
NoneBegins {V} g = (c d : V) (rest : List ℕ) → g.ranged c → g.ranged d → text_of g c ++ rest ≡ text_of g d
    → (c ≡ d) × (rest ≡ [])
