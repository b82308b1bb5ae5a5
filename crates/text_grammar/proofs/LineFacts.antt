-- Parts that can be read: the lines that several texts have, and parts one behind the other.
use Rattle.std.proofs.Common.{◌≡◌, ℕ, ◌<◌, ◌≤◌, true, [], ◌∷◌, refl, ap, arith}
use Rattle.std.specs.Prelude.{codes}
use Rattle.line_rules.specs.declared.types.LineKind.TheVariants.{Straight}
use Rattle.cert_lines.specs.Rows.{Row, fixed, keyed, row_text}
use Rattle.cert_lines.specs.ValueRows.{kind_row}
use Rattle.cert_lines.specs.Words.{greatest}
use Rattle.cert_lines.specs.Faults.{Grammar}
use Rattle.cert_lines.specs.Pattern.{one, then_}
use Rattle.cert_lines.specs.LineForms.{key_text}
use Rattle.cert_lines.specs.declared.line_forms.Key.{Key}
use Rattle.cert_lines.specs.declared.line_forms.Key.TheVariants as keys
use Rattle.cert_lines.proofs.NumberWords.{lacks}
use Rattle.cert_lines.proofs.JudgedLine.{key_lacks}
use Rattle.cert_text.proofs.PartSequences.{Unique}
use Rattle.cert_text.proofs.LineTexts.{row_lacks, kind_lacks}
use Rattle.cert_text.proofs.CertificateParts.{within, numbers, kinds, unique_number, unique_kind}
use Rattle.cert_text.proofs.Claims.{end_grammar}
use Rattle.text_grammar.specs.Texts.{Tells, TellsLine}
use Rattle.text_grammar.proofs.TextFacts.{one_tells, then_tells}

-- one line of each value says one value at most
one_line : {V : Type 0} (row : V → Row) (ranged : V → Type 0) → Unique (one row ranged) → (v w : V) → ranged v
    → ranged w → row_text (row v) ≡ row_text (row w) → v ≡ w
one_line row ranged u v w a b e = (u v w a b [] [] (ap (λ z. z ∷ []) e)).0

pub kind_tells : TellsLine kind_row (λ k. Unit {0})
kind_tells = record {
  one = one_line kind_row (λ k. Unit {0}) unique_kind;
  some = (Straight, tt);
  plain = kind_lacks;
}

pub end_tells : TellsLine {V = Unit {0}} (λ u. fixed (codes "end")) (λ u. Unit {0})
end_tells = record {
  one = λ v w a b e. refl;
  some = (tt, tt);
  plain = λ v. row_lacks (fixed (codes "end")) refl;
}

pub key_plain : (k : Key) → lacks 10 (key_text k) ≡ true
key_plain keys.Tasks = refl
key_plain keys.Cycle = refl
key_plain keys.Stations = refl
key_plain keys.Infeasible = refl
key_plain keys.Lower = refl
key_plain keys.Upper = refl
key_plain keys.Balance = refl
key_plain keys.Entries = refl
key_plain keys.Parts = refl
key_plain keys.Part = refl
key_plain keys.Trail = refl
key_plain keys.Models = refl
key_plain keys.Units = refl

pub number_tells : (key : Key) (low high : ℕ) → low ≤ high → high < greatest
    → TellsLine (keyed (key_text key)) (within low high)
number_tells key low high l h = record {
  one = one_line (keyed (key_text key)) (within low high) (unique_number (key_text key) low high (key_lacks key) h);
  some = (low, (omega arith, l));
  plain = λ v. row_lacks (keyed (key_text key) v) (key_plain key);
}

-- a part that can be read: what its reader asks for, and that its values are told apart
pub record Ready {V : Type 0} (g : Grammar V) : Type 1 where
  pub can : Type 0
  pub is : can
  pub tells : Tells g

abbrev pub line_ready : {V : Type 0} (row : V → Row) (ranged : V → Type 0) (can : Type 0) → can → TellsLine row ranged
    → Ready (one row ranged)
line_ready row ranged can is t = record { can = can; is = is; tells = one_tells row ranged t }

abbrev pub kind_ready : Ready kinds
kind_ready = line_ready kind_row (λ k. Unit {0}) (Unit {0}) tt kind_tells

abbrev pub end_ready : Ready end_grammar
end_ready = line_ready (λ u. fixed (codes "end")) (λ u. Unit {0}) (Unit {0}) tt end_tells

abbrev pub number_ready : (key : Key) (low high : ℕ) → low ≤ high → high < greatest
    → Ready (numbers (key_text key) low high)
number_ready key low high l h = line_ready (keyed (key_text key)) (within low high)
    ((low ≤ high) × (high < greatest)) (l, h) (number_tells key low high l h)

abbrev pub both_ready : {A B : Type 0} (g : Grammar A) (h : Grammar B) → Ready g → Ready h → Ready (then_ g (λ a. h))
both_ready g h r s = record {
  can = (r.can × Tells g) × (s.can × Tells h);
  is = ((r.is, r.tells), (s.is, s.tells));
  tells = then_tells g h r.tells s.tells;
}
