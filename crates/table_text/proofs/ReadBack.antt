-- Whatever reading a canonical table answers is the same tasks again.
use Rattle.std.proofs.Common.{◌≡◌, ℕ, List, length, ap, ◌∙◌, subst}
use Rattle.line_instance.specs.Line.{Line, IsLine, IsRanked, tasks}
use Rattle.task_names.specs.TaskNames.{AreDistinct, AreNames}
use Rattle.task_table.specs.Faults.{IsFirstFault}
use Rattle.task_table.specs.Records.{Fields, behind, names_in}
use Rattle.task_table.specs.Tables.{IsSheetOf, IsTableRead}
use Rattle.task_table.specs.declared.table.TableRead.{TableRead}
use Rattle.task_table.specs.declared.table.TableRead.TheVariants.{Good, Fault, NoMemory}
use Rattle.table_text.specs.Laws.{IsReadBack}
use Rattle.table_text.specs.TableText.{table_text}
use Rattle.table_text.proofs.Again.{names_all, no_fault, same_apart, same_before, same_records, same_times}
use Rattle.table_text.proofs.SameText.{same_text}

pub read_back : (line : Line) (names : List (List ℕ)) (answer : TableRead) → IsLine line → IsRanked line
    → length names ≡ tasks line → AreNames names → AreDistinct names
    → IsTableRead 44 (table_text line names) answer → IsReadBack line names answer
read_back line names NoMemory ok ranked many named distinct a = tt
read_back line names (Fault f) ok ranked many named distinct a =
    let P : List Fields → Type 0 = λ rs. IsFirstFault rs f in
    no_fault line names ok ranked many named distinct f (subst P (same_records line names) a)
read_back line names (Good t) ok ranked many named distinct a =
    let P : List Fields → Type 0 = λ rs. IsSheetOf rs t.inst in
    let sheet = subst P (same_records line names) a.sheet in
    let times = same_times line names ok ranked many named distinct t.inst sheet in
    let before = same_before line names ok ranked many named distinct t.inst sheet in
    let apart = same_apart line names ok ranked many named distinct t.inst sheet in
    let said : t.names ≡ names =
    a.names ∙ ap (λ rs. names_in (behind rs)) (same_records line names)
    ∙ names_all line names ok ranked many named distinct in
    record {
      names = said;
      times = times;
      before = before;
      apart = apart;
      bytes = same_text t.inst line t.names names times before apart said;
    }
