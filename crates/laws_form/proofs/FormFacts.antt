-- A canonical text in a form is read in that form, and says its line.
use Rattle.std.proofs.Common.{◌≡◌, ◌∙◌, ℕ, ◌<◌, true, false, List, length, Option, Some, None, sym, ap, subst, inl}
use Rattle.std.proofs.Common.{inr, arith}
use Rattle.std.specs.Prelude.{◌↔◌}
use Rattle.std.proofs.lemmas.Option.{same_Some}
use Rattle.line_instance.specs.Line.{Line, IsLine, IsRanked, Before, tasks}
use Rattle.in2_reader.specs.Instance.{IsReading}
use Rattle.in2_reader.specs.Written.{IsIn2Text}
use Rattle.in2_reader.specs.declared.instance.In2Read.TheVariants.{Good, Fault}
use Rattle.in2_reader.proofs.CollectedPairs.{last_task}
use Rattle.in2_reader.proofs.Reread.{read_back}
use Rattle.alb_reader.specs.Instance.{IsAlbReading}
use Rattle.alb_reader.specs.Written.{IsAlbText, IsGivenCycle}
use Rattle.alb_reader.specs.declared.instance.AlbRead.TheVariants.{Good as Read, Fault as Wrong}
use Rattle.alb_reader.proofs.ReadBack.{read_back as alb_back}
use Rattle.task_table.specs.Faults.{IsFirstFault}
use Rattle.task_table.specs.Marks.{table_mark}
use Rattle.task_table.specs.Records.{Fields, table_records}
use Rattle.task_table.specs.Tables.{IsSheetOf}
use Rattle.table_text.specs.TableText.{table_text}
use Rattle.table_text.proofs.Again.{marked, no_fault, same_before, same_records, same_times}
use Rattle.laws_form.specs.Laws.{AreNamesOf, EveryFormKeepsItsLine, IsCanonical, IsSameLine}
use Rattle.line_words.specs.declared.job.FormWord.{FormWord}
use Rattle.line_words.specs.declared.job.FormWord.TheVariants.{Alb, Cert, Csv, In2}
use Rattle.command_outcome.specs.Outcome.{Outcome}
use Rattle.input_files.specs.Instance.{is_alb, IsFaulty, IsTableFaulty, IsTableSaid, Says}
use Rattle.laws_form.proofs.FirstBytes.{alb_marks, in2_marks}
use Rattle.laws_form.proofs.OneLine.{not_both, not_either}

-- the same tasks are before others, where that is known of those before tasks
same_lines : (line other : Line) → IsLine line → IsLine other → other.times ≡ line.times
    → ((i j : ℕ) → j < tasks line → Before other i j ↔ Before line i j) → IsSameLine line other
same_lines line other ok right times before = record {
  times = times;
  before = λ i j. (
    λ b.
        let l = last_task other i j right b in
        (before i j (omega (arith, l, ap length times))).0 b,
    λ b. (before i j (last_task line i j ok b)).1 b,
  );
}

-- IN2
module _ (line : Line) (bytes : List ℕ) (ok : IsLine line) (ranked : IsRanked line) (text : IsIn2Text line bytes) where
  in2_mark : table_mark bytes ≡ None
  in2_mark = ap table_mark text.text ∙ (in2_marks line.times text.ps ok.small).0

  in2_form : is_alb bytes ≡ false
  in2_form = ap is_alb text.text ∙ (in2_marks line.times text.ps ok.small).1

  in2_reading : (other : Line) → IsReading bytes other → IsSameLine line other
  in2_reading other reading =
      let back = read_back line bytes (Good other) ok ranked text reading in
      same_lines line other ok reading.is.line_is back.0 back.1

  in2_same : (other : Line) (given : Option ℕ) → Says bytes other given → IsSameLine line other
  in2_same other given (inl a) = absurd (not_either (is_alb bytes) a.1 in2_form)
  in2_same other given (inr (inl i)) = in2_reading other i.2
  in2_same other given (inr (inr t)) = absurd (not_both (table_mark bytes) t.mark in2_mark t.marked)

  in2_right : (name : List ℕ) (out : Outcome) → IsFaulty name bytes out → ⊥
  in2_right name out (inl a) = not_either (is_alb bytes) a.alb in2_form
  in2_right name out (inr (inl i)) = read_back line bytes (Fault i.fault) ok ranked text i.first
  in2_right name out (inr (inr t)) = not_both (table_mark bytes) t.mark in2_mark t.marked

-- ALB
module _ (line : Line) (cycle : Option ℕ) (bytes : List ℕ) (ok : IsLine line) (ranked : IsRanked line)
    (limit : IsGivenCycle cycle) (text : IsAlbText line cycle bytes) where
  alb_mark : table_mark bytes ≡ None
  alb_mark = ap table_mark text.text ∙ (alb_marks line text.ps cycle).0

  alb_form : is_alb bytes ≡ true
  alb_form = ap is_alb text.text ∙ (alb_marks line text.ps cycle).1

  alb_reading : (other : Line) (given : Option ℕ) → IsAlbReading bytes other given
      → IsSameLine line other × (given ≡ cycle)
  alb_reading other given reading =
      let back = alb_back line cycle bytes (Read other given) ok ranked limit text reading in
      (same_lines line other ok reading.is.line_is back.0 back.1, back.2)

  alb_same : (other : Line) (given : Option ℕ) → Says bytes other given → IsSameLine line other × (given ≡ cycle)
  alb_same other given (inl a) = alb_reading other given a.2
  alb_same other given (inr (inl i)) = absurd (not_either (is_alb bytes) alb_form i.1)
  alb_same other given (inr (inr t)) = absurd (not_both (table_mark bytes) t.mark alb_mark t.marked)

  alb_right : (name : List ℕ) (out : Outcome) → IsFaulty name bytes out → ⊥
  alb_right name out (inl a) = alb_back line cycle bytes (Wrong a.fault) ok ranked limit text a.first
  alb_right name out (inr (inl i)) = not_either (is_alb bytes) alb_form i.in2
  alb_right name out (inr (inr t)) = not_both (table_mark bytes) t.mark alb_mark t.marked

-- tables
module _ (line : Line) (names : List (List ℕ)) (bytes : List ℕ) (ok : IsLine line) (ranked : IsRanked line)
    (called : AreNamesOf (tasks line) names) (text : bytes ≡ table_text line names) where
  table_is_marked : table_mark bytes ≡ Some 44
  table_is_marked = ap table_mark text ∙ marked line names

  records_are : (mark : ℕ) → table_mark bytes ≡ Some mark
      → table_records mark bytes ≡ table_records 44 (table_text line names)
  records_are mark is =
      ap (λ m. table_records m bytes) (same_Some mark 44 (sym is ∙ table_is_marked)) ∙ ap (table_records 44) text

  table_said : (other : Line) (given : Option ℕ) → IsTableSaid bytes other given → IsSameLine line other
  table_said other given t =
      let P : List Fields → Type 0 = λ rs. IsSheetOf rs other in
      let sheet = subst P (records_are t.mark t.marked ∙ same_records line names) t.sheet in record {
        times = same_times line names ok ranked called.many called.named called.distinct other sheet;
        before = same_before line names ok ranked called.many called.named called.distinct other sheet;
      }

  table_faulty : (name : List ℕ) (out : Outcome) → IsTableFaulty name bytes out → ⊥
  table_faulty name out t =
      let P : List Fields → Type 0 = λ rs. IsFirstFault rs t.fault in
      no_fault line names ok ranked called.many called.named called.distinct t.fault
      (subst P (records_are t.mark t.marked ∙ same_records line names) t.first)

  table_same : (other : Line) (given : Option ℕ) → Says bytes other given → IsSameLine line other
  table_same other given (inl a) = absurd (not_both (table_mark bytes) 44 a.0 table_is_marked)
  table_same other given (inr (inl i)) = absurd (not_both (table_mark bytes) 44 i.0 table_is_marked)
  table_same other given (inr (inr t)) = table_said other given t

  table_right : (name : List ℕ) (out : Outcome) → IsFaulty name bytes out → ⊥
  table_right name out (inl a) = not_both (table_mark bytes) 44 a.no_table table_is_marked
  table_right name out (inr (inl i)) = not_both (table_mark bytes) 44 i.no_table table_is_marked
  table_right name out (inr (inr t)) = table_faulty name out t

-- every form
pub form_same : (to : FormWord) (line other : Line) (cycle given : Option ℕ) (bytes : List ℕ)
    → IsCanonical to line cycle bytes → Says bytes other given → IsSameLine line other
form_same In2 line other cycle given bytes c s = in2_same line bytes c.line_is c.ranked c.text other given s
form_same Alb line other cycle given bytes c s =
    (alb_same line cycle bytes c.line_is c.ranked c.limit c.text other given s).0
form_same Csv line other cycle given bytes c s =
    table_same line c.names bytes c.line_is c.ranked c.called c.text other given s
form_same Cert line other cycle given bytes c s = absurd c.text

pub form_right : (to : FormWord) (line : Line) (cycle : Option ℕ) (bytes name : List ℕ) (out : Outcome)
    → IsCanonical to line cycle bytes → IsFaulty name bytes out → ⊥
form_right In2 line cycle bytes name out c f = in2_right line bytes c.line_is c.ranked c.text name out f
form_right Alb line cycle bytes name out c f =
    alb_right line cycle bytes c.line_is c.ranked c.limit c.text name out f
form_right Csv line cycle bytes name out c f =
    table_right line c.names bytes c.line_is c.ranked c.called c.text name out f
form_right Cert line cycle bytes name out c f = c.text

alb_timed : (line other : Line) (cycle given : Option ℕ) (bytes : List ℕ) → IsCanonical Alb line cycle bytes
    → Says bytes other given → given ≡ cycle
alb_timed line other cycle given bytes c s =
    (alb_same line cycle bytes c.line_is c.ranked c.limit c.text other given s).1

pub every_form : EveryFormKeepsItsLine
every_form = record { right = form_right; same = form_same; timed = alb_timed }
