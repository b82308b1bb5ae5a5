-- What is read by lines: texts of values, and the first line at which a text is no such text.
use Rattle.std.specs.Prelude.{◌≡◌, ◌≢◌, ℕ, suc, ◌+◌, List, ◌∷◌, ◌++◌, length, map, All, ◌⊎◌}
use Rattle.cert_lines.specs.Rows.{Row, form_of, row_text, lines_text}
use Rattle.cert_lines.specs.declared.fault.CertKind.{CertKind}
use Rattle.cert_lines.specs.declared.fault.CertKind.TheVariants.{Ended, Form as NoForm, Range, Trailing}
use Rattle.cert_lines.specs.declared.fault.CertFault.{CertFault}

-- a line: no byte of it is an LF
abbrev pub IsLine : List ℕ → Type 0
IsLine line = All (λ b. b ≢ 10) line

-- lines that stand for values: the lines of each value, and which values may be said
pub record Grammar (V : Type 0) : Type 1 where
  pub rows : V → List Row
  pub ranged : V → Type 0

-- behind these lines some value that may be said goes on with r
pub record Next {V : Type 0} (g : Grammar V) (before : List (List ℕ)) (r : Row) : Type 0 where
  pub value : V
  pub ranged : g.ranged value
  pub passed : List Row
  pub more : List Row
  pub rows : g.rows value ≡ passed ++ r ∷ more
  pub same : map row_text passed ≡ before

-- a line has a form that may stand behind these lines, whatever its numbers are
abbrev pub HasForm : {V : Type 0} → Grammar V → List (List ℕ) → List ℕ → Type 0
HasForm g before line = (r : Row) × Next g before r × (other : Row) × (form_of other ≡ form_of r)
    × (row_text other ≡ line)

-- what is wrong with a line behind these lines: it hasn't the form of what may stand there, or it has, and a number is
-- out of its range
abbrev pub IsWrong : {V : Type 0} → Grammar V → List (List ℕ) → List ℕ → CertKind → Type 0
IsWrong g before line NoForm = ¬ HasForm g before line
IsWrong g before line Range = HasForm g before line
IsWrong g before line Ended = ⊥
IsWrong g before line Trailing = ⊥

-- The fault is of the first line that no value passes: some value's text begins with the lines before it, and with it
-- none does.
pub record IsLineFault {V : Type 0} (g : Grammar V) (passed : ℕ) (text : List ℕ) (f : CertFault) : Type 0 where
  pub before : List (List ℕ)
  pub at : List ℕ
  pub after : List ℕ
  pub all : text ≡ lines_text before ++ (at ++ 10 ∷ after)
  pub is_line : IsLine at
  pub line : f.line ≡ suc (passed + length before)
  pub some : (r : Row) × Next g before r
  pub stops : (r : Row) → Next g before r → row_text r ≢ at
  pub kind : IsWrong g before at f.kind

-- The fault is of the text's end: some value's text begins with the lines of the text and goes on, and the next line
-- has no LF.
pub record IsEndFault {V : Type 0} (g : Grammar V) (passed : ℕ) (text : List ℕ) (f : CertFault) : Type 0 where
  pub before : List (List ℕ)
  pub rest : List ℕ
  pub all : text ≡ lines_text before ++ rest
  pub is_line : IsLine rest
  pub line : f.line ≡ suc (passed + length before)
  pub some : (r : Row) × Next g before r
  pub kind : f.kind ≡ Ended

-- a fault of a text whose first line comes behind so many lines
abbrev pub IsFault : {V : Type 0} → Grammar V → ℕ → List ℕ → CertFault → Type 0
IsFault g passed text f = IsLineFault g passed text f ⊎ IsEndFault g passed text f
