-- A text says one line, with names for its tasks, and a cycle time within its limits.
use Rattle.std.proofs.Common.{◌≡◌, ◌∙◌, ℕ, zero, suc, ◌+◌, ◌≤◌, Bool, true, false, List, [], length, get_or}
use Rattle.std.proofs.Common.{Option, Some, None, sym, ap, subst, inl, inr, arith}
use Rattle.std.specs.Prelude.{◌↔◌, option_map}
use Rattle.std.proofs.lemmas.Option.{same_Some}
use Rattle.line_instance.specs.Line.{Line, Before, tasks}
use Rattle.line_instance.specs.Made.{IsInstanceOf}
use Rattle.line_instance.proofs.Unique.{one_instance}
use Rattle.in2_reader.specs.Contents.{Lines, contents_from}
use Rattle.in2_reader.specs.Grammar.{In2}
use Rattle.in2_reader.specs.Instance.{IsReading}
use Rattle.in2_reader.proofs.Acyclic.{one_reading}
use Rattle.alb_reader.specs.Instance.{IsAlbReading, arcs_said, times_said}
use Rattle.alb_reader.specs.Sections.{before_end}
use Rattle.alb_reader.specs.Written.{IsGivenCycle}
use Rattle.task_names.specs.TaskNames.{AreNames, numbers, numbers_from}
use Rattle.task_names.specs.Naming.{names_for, naming_by}
use Rattle.task_names.proofs.NumberNames.{many, number_is_name, numbers_distinct}
use Rattle.task_table.specs.Marks.{table_mark}
use Rattle.task_table.specs.Records.{behind, names_in, table_records}
use Rattle.task_table.specs.Tables.{IsSheetOf}
use Rattle.task_table.proofs.RightTasks.{all_right, same_many}
use Rattle.laws_form.specs.Laws.{AreNamesOf, IsSameLine}
use Rattle.input_files.specs.Instance.{cycle_of, is_alb, IsTableSaid, naming_in, Says}
use Rattle.laws_form.proofs.CycleSaid.{cycle_within}
use Rattle.laws_form.proofs.SoundLines.{says_near}

-- lines that are the same
pub same_of : (a b : Line) → b.times ≡ a.times → b.before ≡ a.before → IsSameLine a b
same_of a b times before =
    let P : List (List Bool) → Type 0 = λ rows. (i j : ℕ) → get_or (get_or rows j []) i false ≡ true ↔ Before a i j in
    record { times = times; before = subst P (sym before) (λ i j. (λ b. b, λ b. b)) }

pub same_on : (a b c : Line) → IsSameLine a b → IsSameLine b c → IsSameLine a c
same_on a b c s t = record {
  times = t.times ∙ s.times;
  before = λ i j. (λ x. (s.before i j).0 ((t.before i j).0 x), λ x. (t.before i j).1 ((s.before i j).1 x));
}

pub same_equal : (a b : Line) → a ≡ b → IsSameLine a b
same_equal a b e = same_of a b (ap (λ l. l.times) (sym e)) (ap (λ l. l.before) (sym e))

-- a text is of one form
pub not_both : {X : Type 0} (o : Option X) (x : X) → o ≡ None → o ≡ Some x → ⊥
not_both o x e f = absurd (cc (sym e ∙ f))

pub not_either : (b : Bool) → b ≡ true → b ≡ false → ⊥
not_either b e f = absurd (cc (sym e ∙ f))

one_in2 : (bytes : List ℕ) (a b : Line) → IsReading bytes a → IsReading bytes b → IsSameLine a b
one_in2 bytes a b x y =
    let P : In2 → Type 0 = λ z. IsInstanceOf z.times z.arcs a in
    let same : x.x ≡ y.x = one_reading (contents_from 1 bytes) x.x y.x x.reads y.reads in
    same_equal a b (one_instance y.x.times y.x.arcs a b (subst P same x.is) y.is)

one_alb : (bytes : List ℕ) (a b : Line) (g h : Option ℕ) → IsAlbReading bytes a g → IsAlbReading bytes b h
    → IsSameLine a b
one_alb bytes a b g h x y =
    let head : Lines = before_end (contents_from 1 bytes) in
    let P : ℕ → Type 0 = λ n. IsInstanceOf (times_said n head) (arcs_said head) a in
    let same : x.n ≡ y.n = same_Some x.n y.n (sym x.formed.tasks ∙ y.formed.tasks) in
    same_equal a b (one_instance (times_said y.n head) (arcs_said head) a b (subst P same x.is) y.is)

one_table : (bytes : List ℕ) (a b : Line) (g h : Option ℕ) → IsTableSaid bytes a g → IsTableSaid bytes b h
    → IsSameLine a b
one_table bytes a b g h x y =
    let P : ℕ → Type 0 = λ m. IsSheetOf (table_records m bytes) a in
    let same : x.mark ≡ y.mark = same_Some x.mark y.mark (sym x.marked ∙ y.marked) in
    let s : IsSheetOf (table_records y.mark bytes) a = subst P same x.sheet in
    let wholes : s.whole ≡ y.sheet.whole = one_instance _ _ s.whole y.sheet.whole s.made y.sheet.made in
    same_of a b (y.sheet.times ∙ ap (λ l. l.times) (sym wholes) ∙ sym s.times)
    (y.sheet.before ∙ ap (λ l. l.before) (sym wholes) ∙ sym s.before)

pub says_one : (bytes : List ℕ) (a b : Line) (g h : Option ℕ) → Says bytes a g → Says bytes b h → IsSameLine a b
says_one bytes a b g h (inl x) (inl y) = one_alb bytes a b g h x.2 y.2
says_one bytes a b g h (inl x) (inr (inl y)) = absurd (not_either (is_alb bytes) x.1 y.1)
says_one bytes a b g h (inl x) (inr (inr y)) = absurd (not_both (table_mark bytes) y.mark x.0 y.marked)
says_one bytes a b g h (inr (inl x)) (inl y) = absurd (not_either (is_alb bytes) y.1 x.1)
says_one bytes a b g h (inr (inl x)) (inr (inl y)) = one_in2 bytes a b x.2 y.2
says_one bytes a b g h (inr (inl x)) (inr (inr y)) = absurd (not_both (table_mark bytes) y.mark x.0 y.marked)
says_one bytes a b g h (inr (inr x)) (inl y) = absurd (not_both (table_mark bytes) x.mark y.0 x.marked)
says_one bytes a b g h (inr (inr x)) (inr (inl y)) = absurd (not_both (table_mark bytes) x.mark y.0 x.marked)
says_one bytes a b g h (inr (inr x)) (inr (inr y)) = one_table bytes a b g h x y

-- its cycle time
pub says_cycle : (bytes : List ℕ) (line : Line) (given : Option ℕ) → Says bytes line given → IsGivenCycle given
says_cycle bytes line given (inl a) = cycle_within bytes line given a.2
says_cycle bytes line given (inr (inl i)) = subst IsGivenCycle (sym i.3) tt
says_cycle bytes line given (inr (inr t)) = subst IsGivenCycle (sym t.none) tt

pub cycle_given : (word given : Option ℕ) → IsGivenCycle word → IsGivenCycle given → IsGivenCycle (cycle_of word given)
cycle_given None given w g = g
cycle_given (Some c) given w g = w

-- its names
numbers_are_names : (k n : ℕ) → k + n ≤ 1025 → AreNames (numbers_from k n)
numbers_are_names k zero few i d h = absurd (omega (arith, h))
numbers_are_names k (suc n) few zero d h = number_is_name k (omega (arith, few))
numbers_are_names k (suc n) few (suc i) d h = numbers_are_names (suc k) n (omega (arith, few)) i d (omega (arith, h))

numbers_called : (n : ℕ) → n ≤ 1024 → AreNamesOf n (numbers n)
numbers_called n few = record {
  many = many 1 n;
  named = numbers_are_names 1 n (omega (arith, few));
  distinct = numbers_distinct n few;
}

few_tasks : (bytes : List ℕ) (line : Line) (given : Option ℕ) → Says bytes line given → tasks line ≤ 1024
few_tasks bytes line given s =
    let near = says_near bytes line given s in
    let small = near.line_is.small in
    omega (arith, small, ap length near.times)

plain_called : (bytes : List ℕ) (n : ℕ) → table_mark bytes ≡ None → n ≤ 1024
    → AreNamesOf n (names_for (naming_in (Some bytes)) n)
plain_called bytes n none few =
    let P : Option ℕ → Type 0 = λ o.
    AreNamesOf n (names_for (naming_by (option_map (λ mark. names_in (behind (table_records mark bytes))) o)) n) in
    subst P (sym none) (numbers_called n few)

table_called : (bytes : List ℕ) (line : Line) (given : Option ℕ) → IsTableSaid bytes line given
    → AreNamesOf (tasks line) (names_for (naming_in (Some bytes)) (tasks line))
table_called bytes line given t =
    let n : ℕ = tasks line in
    let rest = behind (table_records t.mark bytes) in
    let right = all_right t.sheet.tasks.columns rest t.sheet.tasks.sound in
    let times : length line.times ≡ length (names_in rest) =
    ap length (t.sheet.times ∙ t.sheet.made.times) ∙ same_many rest in
    let named : AreNamesOf n (names_in rest) =
    record { many = sym times; named = right.each; distinct = right.distinct } in
    let P : Option ℕ → Type 0 = λ o.
    AreNamesOf n (names_for (naming_by (option_map (λ mark. names_in (behind (table_records mark bytes))) o)) n) in
    subst P (sym t.marked) named

pub says_names : (bytes : List ℕ) (line : Line) (given : Option ℕ) → Says bytes line given
    → AreNamesOf (tasks line) (names_for (naming_in (Some bytes)) (tasks line))
says_names bytes line given (inl a) =
    plain_called bytes (tasks line) a.0 (few_tasks bytes line given (inl a))
says_names bytes line given (inr (inl i)) =
    plain_called bytes (tasks line) i.0 (few_tasks bytes line given (inr (inl i)))
says_names bytes line given (inr (inr t)) = table_called bytes line given t
