-- By its first bytes a canonical text is taken for the form that it was written in.
use Rattle.std.proofs.Common.{◌≡◌, ◌∙◌, ℕ, ◌<◌, ◌≤◌, ◌&&◌, ◌||◌, true, false, cond, nat_eq, nat_le, List, []}
use Rattle.std.proofs.Common.{◌∷◌, ◌++◌, length, take, drop, Option, None, refl, sym, ap, arith, append_assoc}
use Rattle.std.specs.Prelude.{bytes_eq, codes, decimal}
use Rattle.std.specs.Char.{to_ascii_lowercase}
use Rattle.std.specs.List.{flat_map}
use Rattle.std.proofs.lemmas.Bool.{and_parts, leb-true, ne_eqb}
use Rattle.std.proofs.lemmas.Str.Ascii.{lowercase_is}
use Rattle.csv.specs.Reading.{strip_bom}
use Rattle.line_io.specs.Lines.{is_digit, all_digits}
use Rattle.line_instance.specs.declared.arcs.Prec.{Prec}
use Rattle.line_instance.specs.Line.{Line}
use Rattle.in2_reader.specs.Written.{in2_text, number_line, pair_line}
use Rattle.in2_reader.proofs.Digits.{content_read, decimal_spells, digits_solid}
use Rattle.alb_reader.specs.Sections.{begins_heading}
use Rattle.alb_reader.specs.Written.{alb_text}
use Rattle.task_table.specs.Marks.{either_mark, first_mark, has_bom, lowered, mark_behind, past_ends, table_mark}
use Rattle.task_table.proofs.MarkFacts.{no_bom}
use Rattle.input_files.specs.Instance.{begins_alb, is_alb}

-- a text doesn't begin with a word whose first letter it hasn't
other_letter : (c w : ℕ) (more word text : List ℕ) → nat_eq c w ≡ false
    → cond (bytes_eq (c ∷ more) (w ∷ word)) (first_mark text) None ≡ None
other_letter c w more word text e = ap (λ t. cond (t && bytes_eq more word) (first_mark text) None) e

-- a text that begins with a digit is no table
digit_is_no_mark : (b : ℕ) (rest : List ℕ) → 48 ≤ b → b ≤ 57 → table_mark (b ∷ rest) ≡ None
digit_is_no_mark b rest low high =
    let none : has_bom (b ∷ rest) ≡ false =
    ap (λ t. t && bytes_eq (take 2 rest) (187 ∷ 191 ∷ [])) (ne_eqb b 239 (λ e. omega (arith, high, e))) in
    let ends : past_ends (b ∷ rest) ≡ b ∷ rest =
    ap (λ t. cond (t || nat_eq b 10) (past_ends rest) (b ∷ rest)) (ne_eqb b 13 (λ e. omega (arith, low, e)))
    ∙ ap (λ t. cond t (past_ends rest) (b ∷ rest)) (ne_eqb b 10 (λ e. omega (arith, low, e))) in
    let text : past_ends (strip_bom (b ∷ rest)) ≡ b ∷ rest = ap past_ends (sym (no_bom (b ∷ rest) none)) ∙ ends in
    let lower : to_ascii_lowercase b ≡ b = (lowercase_is b).1 (omega (arith, high)) in
    let letter : nat_eq (to_ascii_lowercase b) 116 ≡ false =
    ap (λ c. nat_eq c 116) lower ∙ ne_eqb b 116 (λ e. omega (arith, high, e)) in
    let quote : nat_eq (to_ascii_lowercase b) 34 ≡ false =
    ap (λ c. nat_eq c 34) lower ∙ ne_eqb b 34 (λ e. omega (arith, low, e)) in
    let word : mark_behind (codes "task") (b ∷ rest) ≡ None =
    other_letter (to_ascii_lowercase b) 116 (lowered (take 3 rest)) (codes "ask") (drop 3 rest) letter in
    let quoted : mark_behind (codes "\"task\"") (b ∷ rest) ≡ None =
    other_letter (to_ascii_lowercase b) 34 (lowered (take 5 rest)) (codes "task\"") (drop 5 rest) quote in
    ap (λ t. either_mark (mark_behind (codes "task") t) (mark_behind (codes "\"task\"") t)) text
    ∙ ap (λ m. either_mark m (mark_behind (codes "\"task\"") (b ∷ rest))) word
    ∙ quoted

digit_between : (b : ℕ) (ds : List ℕ) → all_digits (b ∷ ds) ≡ true → (48 ≤ b) × (b ≤ 57)
digit_between b ds e =
    let p = and_parts (is_digit b) (all_digits ds) e in
    let q = and_parts (nat_le 48 b) (nat_le b 57) p.0 in
    (leb-true 48 b q.0, leb-true b 57 q.1)

pub number_is_no_mark : (ds rest : List ℕ) → all_digits ds ≡ true → 0 < length ds → table_mark (ds ++ rest) ≡ None
number_is_no_mark [] rest e some = absurd (omega (arith, some))
number_is_no_mark (b ∷ ds) rest e some =
    let p = digit_between b ds e in
    digit_is_no_mark b (ds ++ rest) p.0 p.1

-- nor is it an ALB text
number_is_no_heading : (ds : List ℕ) → all_digits ds ≡ true → begins_heading ds ≡ false
number_is_no_heading [] e = refl
number_is_no_heading (b ∷ ds) e =
    let p = digit_between b ds e in
    ne_eqb b 60 (λ same. omega (arith, p.1, same))

pub number_is_no_alb : (ds rest : List ℕ) → all_digits ds ≡ true → 0 < length ds → is_alb (ds ++ 10 ∷ rest) ≡ false
number_is_no_alb ds rest e some =
    ap begins_alb (content_read 1 ds rest (digits_solid ds e) some) ∙ number_is_no_heading ds e

-- the canonical IN2 text
in2_begins : (times : List ℕ) (ps : List Prec)
    → in2_text times ps ≡ decimal (length times)
    ++ 10 ∷ (flat_map number_line times ++ (flat_map pair_line ps ++ codes "-1,-1\n"))
in2_begins times ps =
    let head : List ℕ = number_line (length times) in
    let mid : List ℕ = flat_map number_line times in
    let pairs : List ℕ = flat_map pair_line ps in
    append_assoc (head ++ mid) pairs (codes "-1,-1\n")
    ∙ append_assoc head mid (pairs ++ codes "-1,-1\n")
    ∙ append_assoc (decimal (length times)) (codes "\n") (mid ++ (pairs ++ codes "-1,-1\n"))

pub in2_marks : (times : List ℕ) (ps : List Prec) → length times ≤ 1024
    → (table_mark (in2_text times ps) ≡ None) × (is_alb (in2_text times ps) ≡ false)
in2_marks times ps few =
    let s = decimal_spells (length times) (omega (arith, few)) in
    let rest : List ℕ = flat_map number_line times ++ (flat_map pair_line ps ++ codes "-1,-1\n") in (
      ap table_mark (in2_begins times ps)
          ∙ number_is_no_mark (decimal (length times)) (10 ∷ rest) s.digits s.some,
      ap is_alb (in2_begins times ps)
          ∙ number_is_no_alb (decimal (length times)) rest s.digits s.some,
    )

-- the canonical ALB text
pub alb_marks : (line : Line) (ps : List Prec) (cycle : Option ℕ)
    → (table_mark (alb_text line ps cycle) ≡ None) × (is_alb (alb_text line ps cycle) ≡ true)
unfolding strip_bom
alb_marks line ps cycle = (refl, refl)
