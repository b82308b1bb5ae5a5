-- What an entry or a frame within its ranges, or out of them, says of its line.
use Rattle.std.proofs.Common.{◌≡◌, ℕ, ◌≤◌, Bool, List, Some, Option, Ok, Err, Result, subst, sym}
use Rattle.std.specs.Prelude.{MatchResult}
use Rattle.line_rules.specs.declared.types.Entry.{Entry}
use Rattle.line_rules.specs.declared.types.OpenFrame.{OpenFrame}
use Rattle.line_rules.specs.Ranges.{IsFrame}
use Rattle.cert_lines.specs.Rows.{row_text}
use Rattle.cert_lines.specs.ValueRows.{frame_row}
use Rattle.cert_lines.specs.inner.LineReading.{entry_in, frame_in}
use Rattle.cert_lines.specs.Pattern.{IsJudged}
use Rattle.cert_lines.specs.LineForms.{IsWithin, entry_of, IsFrameWithin, frame_of, IsSaid, given_row, IsGivenCycle}
use Rattle.cert_lines.specs.declared.draft.Draft.{Draft}
use Rattle.cert_lines.specs.declared.draft.FrameDraft.{FrameDraft}
use Rattle.cert_lines.specs.declared.fault.LineError.{LineError}
use Rattle.cert_lines.specs.declared.fault.LineError.TheVariants as lines
use Rattle.cert_lines.proofs.JudgedLine.{out_of_range}
use Rattle.cert_lines.proofs.JudgedEntry.{entry_range, entry_said, frame_range, frame_said}

pub entry_judged : (n count : ℕ) (g : Option ℕ) (p : Bool) (line : List ℕ) (d : Draft) (r : Result Entry LineError)
    → n ≤ 1024 → count ≤ 20000000 → IsGivenCycle g → entry_in n g p line ≡ Some d
    → MatchResult r (λ e. (e ≡ entry_of d) × IsWithin n count d) (λ e. (e ≡ lines.Range) × (IsWithin n count d → ⊥))
    → IsJudged (given_row n g) (IsSaid n count g p) line r
entry_judged n count g p line d (Ok e) a b h i m = let P : Entry
    → Type 0 = λ z. IsSaid n count g p z × (row_text (given_row n g z) ≡ line) in
    subst P (sym m.0) (entry_said n count g p line d a b i m.1)
entry_judged n count g p line d (Err x) a b h i m = let f = entry_range n count g p line d a b h i m.1 in
    out_of_range (given_row n g) (IsSaid n count g p) line x m.0 f.0 f.1

pub frame_judged : (n count : ℕ) (line : List ℕ) (d : FrameDraft) (r : Result OpenFrame LineError) → n ≤ 1024
    → count ≤ 20000000 → frame_in n line ≡ Some d
    → MatchResult r (λ f. (f ≡ frame_of d) × IsFrameWithin count d)
    (λ e. (e ≡ lines.Range) × (IsFrameWithin count d → ⊥)) → IsJudged (frame_row n) (IsFrame n count) line r
frame_judged n count line d (Ok e) a b i m = let P : OpenFrame
    → Type 0 = λ z. IsFrame n count z × (row_text (frame_row n z) ≡ line) in
    subst P (sym m.0) (frame_said n count line d a b i m.1)
frame_judged n count line d (Err x) a b i m = let f = frame_range n count line d a b i m.1 in
    out_of_range (frame_row n) (IsFrame n count) line x m.0 f.0 f.1
