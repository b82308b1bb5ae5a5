-- What the reading makes of the records of a table: the tasks that they say, or their first fault.
use Rattle.std.proofs.Common.{◌≡◌, ◌<◌, ◌+◌, ℕ, Bool, true, false, cond, nat_lt}
use Rattle.std.proofs.Common.{List, [], ◌∷◌, ◌++◌, length, map, take, Option, Some, None, Ok, Err}
use Rattle.std.proofs.Common.{refl, sym, ◌∙◌, ap, subst, arith, append_assoc, length-append, inl, inr}
use Rattle.std.specs.Prelude.{◌⊎◌, filter}
use Rattle.std.proofs.lemmas.Bool.{ltb-true, ltb-false, cases_lt}
use Rattle.std.proofs.lemmas.List.{append-nil, map-append, take-append-le, nil_from_length}
use Rattle.std.proofs.lemmas.List.Elements.{filter-append}
use Rattle.std.proofs.Math.ListN.{get_or-append}
use Rattle.std.proofs.Math.Seq.{get_or-append_seam, take-append_seam}
use Rattle.line_io.specs.Lines.{value_of}
use Rattle.task_table.specs.Records.{Fields, field, says, record_at, behind, names_in, columns_of}
use Rattle.task_table.specs.Rows.{task_fault, IsSound, AreSound}
use Rattle.task_table.specs.Faults.{AreTasks, IsFirstFault}
use Rattle.task_table.specs.Tables.{times_in}
use Rattle.task_table.specs.inner.Reading.{Said, next, unless, kind_or, ListsSaid, lists_of, TasksSaid, no_tasks}
use Rattle.task_table.specs.inner.Reading.{with_task}
use Rattle.task_table.specs.inner.Reading.{record_said, ended_said, rest_said, headed_said, tasks_said}
use Rattle.task_table.specs.declared.fault.TableFault.{TableFault}
use Rattle.task_table.specs.declared.fault.TableFault.TheVariants.{Record, Cycle}
use Rattle.task_table.specs.declared.fault.TableKind.{TableKind}
use Rattle.task_table.specs.declared.fault.TableKind.TheVariants as fault

-- ---- one record more

-- the lists of the records of tasks, of which the first record has this number
abbrev pub lists_from : ℕ → List Fields → List ListsSaid
lists_from row [] = []
lists_from row (r ∷ rs) = cond (says r) (lists_of row r ∷ lists_from (row + 1) rs) (lists_from (row + 1) rs)

-- what a record of a task adds
abbrev pub added : {A : Type 0} → Bool → A → List A
added true x = x ∷ []
added false x = []

kept_one : {A : Type 0} (f : Fields → A) (r : Fields) → map f (filter says (r ∷ [])) ≡ added (says r) (f r)
kept_one f r = by (says r)
  where
    by : (b : Bool) → map f (cond b (r ∷ []) []) ≡ added b (f r)
    by true = refl
    by false = refl

kept_more : {A : Type 0} (f : Fields → A) (done : List Fields) (r : Fields)
    → map f (filter says (done ++ r ∷ [])) ≡ map f (filter says done) ++ added (says r) (f r)
kept_more f done r = ap (map f) (filter-append says done (r ∷ []))
    ∙ map-append f (filter says done) (filter says (r ∷ []))
    ∙ ap (λ xs. map f (filter says done) ++ xs) (kept_one f r)

pub names_more : (done : List Fields) (r : Fields)
    → names_in (done ++ r ∷ []) ≡ names_in done ++ added (says r) (field r 0)
names_more done r = kept_more (λ r. field r 0) done r

pub times_more : (done : List Fields) (r : Fields)
    → times_in (done ++ r ∷ []) ≡ times_in done ++ added (says r) (value_of (field r 1))
times_more done r = kept_more (λ r. value_of (field r 1)) done r

lists_more : (row : ℕ) (done : List Fields) (r : Fields)
    → lists_from row (done ++ r ∷ []) ≡ lists_from row done ++ added (says r) (lists_of (row + length done) r)
lists_more row [] r = by (says r)
  where
    by : (b : Bool) → cond b (lists_of row r ∷ []) [] ≡ [] ++ added b (lists_of (row + 0) r)
    by true =
        let same : row ≡ row + 0 = omega arith in
        ap (λ k. lists_of k r ∷ []) same
    by false = refl
lists_more row (q ∷ done) r =
    let same : row + 1 + length done ≡ row + length (q ∷ done) = omega arith in
    by (says q) (lists_more (row + 1) done r
    ∙ ap (λ k. lists_from (row + 1) done ++ added (says r) (lists_of k r)) same)
  where
    by : (b : Bool)
        → lists_from (row + 1) (done ++ r ∷ [])
        ≡ lists_from (row + 1) done ++ added (says r) (lists_of (row + length (q ∷ done)) r)
        → cond b (lists_of row q ∷ lists_from (row + 1) (done ++ r ∷ [])) (lists_from (row + 1) (done ++ r ∷ []))
        ≡ cond b (lists_of row q ∷ lists_from (row + 1) done) (lists_from (row + 1) done)
        ++ added (says r) (lists_of (row + length (q ∷ done)) r)
    by true e = ap (λ xs. lists_of row q ∷ xs) e
    by false e = e

-- ---- what is wrong with no record

pub sound_more : (columns : ℕ) (done more : List Fields) (p : ℕ) → p < length done → IsSound columns done p
    → IsSound columns (done ++ more) p
sound_more columns done more p h s =
    let at : record_at (done ++ more) p ≡ record_at done p = get_or-append done more [] p h in
    let above : take p (done ++ more) ≡ take p done = take-append-le p done more (omega arith) in
    let P : Fields → Type 0 = λ r. says r ≡ true → task_fault columns (names_in (take p done)) r ≡ None in
    let Q : List Fields → Type 0 = λ xs. says (record_at (done ++ more) p) ≡ true
    → task_fault columns (names_in xs) (record_at (done ++ more) p) ≡ None in
    subst Q (sym above) (subst P (sym at) s)

-- the record behind others
at_seam : (done : List Fields) (r : Fields) (more : List Fields) → record_at (done ++ r ∷ more) (length done) ≡ r
at_seam done r more = get_or-append_seam done r more []

pub sound_last : (columns : ℕ) (done : List Fields) (r : Fields) (more : List Fields)
    → (says r ≡ true → task_fault columns (names_in done) r ≡ None) → IsSound columns (done ++ r ∷ more) (length done)
sound_last columns done r more s =
    let P : Fields → Type 0 = λ r. says r ≡ true → task_fault columns (names_in done) r ≡ None in
    let Q : List Fields → Type 0 = λ xs. says (record_at (done ++ r ∷ more) (length done)) ≡ true
    → task_fault columns (names_in xs) (record_at (done ++ r ∷ more) (length done)) ≡ None in
    subst Q (sym (take-append_seam done (r ∷ more))) (subst P (sym (at_seam done r more)) s)

pub last_sound : (columns : ℕ) (done : List Fields) (r : Fields) (more : List Fields)
    → IsSound columns (done ++ r ∷ more) (length done) → says r ≡ true → task_fault columns (names_in done) r ≡ None
last_sound columns done r more s =
    let P : Fields → Type 0 = λ r. says r ≡ true → task_fault columns (names_in done) r ≡ None in
    let Q : List Fields → Type 0 = λ xs. says (record_at (done ++ r ∷ more) (length done)) ≡ true
    → task_fault columns (names_in xs) (record_at (done ++ r ∷ more) (length done)) ≡ None in
    subst P (at_seam done r more) (subst Q (take-append_seam done (r ∷ more)) s)

-- ---- what one record makes

pub no_kind : {A : Type 0} (o : Option TableKind) (x y : A) → Ok y ≡ kind_or o x → (o ≡ None) × (y ≡ x)
no_kind None x y h = (refl, cc h)
no_kind (Some kind) x y h = cc h

pub some_kind : {A : Type 0} (o : Option TableKind) (x : A) (kind : TableKind) → Err kind ≡ kind_or o x → o ≡ Some kind
some_kind None x kind h = cc h
some_kind (Some k) x kind h = let same : kind ≡ k = cc h in ap (λ k. Some k) (sym same)

pub one_task : (columns row : ℕ) (r : Fields) (d new : TasksSaid) → says r ≡ true → task_fault columns d.names r ≡ None
    → new ≡ with_task d row r → record_said columns row r d ≡ Ok new
one_task columns row r d new e f n =
    ap (λ b. cond b (unless row (task_fault columns d.names r) (with_task d row r)) (Ok d)) e
    ∙ ap (λ o. unless row o (with_task d row r)) f ∙ ap (λ x. Ok x) (sym n)

pub one_fault : (columns row : ℕ) (r : Fields) (d : TasksSaid) (kind : TableKind) → says r ≡ true
    → task_fault columns d.names r ≡ Some kind → record_said columns row r d ≡ Err (Record row kind)
one_fault columns row r d kind e f =
    ap (λ b. cond b (unless row (task_fault columns d.names r) (with_task d row r)) (Ok d)) e
    ∙ ap (λ o. unless row o (with_task d row r)) f

-- ---- the records so far

-- nothing is wrong with the records so far, and these are their tasks
pub record AreTaken (columns : ℕ) (done : List Fields) (d : TasksSaid) : Type 0 where
  pub sound : AreSound columns done
  pub names : d.names ≡ names_in done
  pub times : d.times ≡ times_in done
  pub lists : d.lists ≡ lists_from 2 done

none_taken : (columns : ℕ) → AreTaken columns [] no_tasks
none_taken columns = record {
  sound = λ p h. absurd (omega (arith, h));
  names = refl;
  times = refl;
  lists = refl;
}

all_sound : (columns : ℕ) (done : List Fields) (r : Fields) → AreSound columns done
    → (says r ≡ true → task_fault columns (names_in done) r ≡ None) → AreSound columns (done ++ r ∷ [])
all_sound columns done r s one p h = elim (cases_lt p (length done)) [
  | inl less ↦ sound_more columns done (r ∷ []) p less (s p less)
  | inr more ↦
      let same : length done ≡ p = omega (arith, more, h, length-append done (r ∷ [])) in
      subst (IsSound columns (done ++ r ∷ [])) same (sound_last columns done r [] one)
]

-- a record that says nothing
passed_over : (columns : ℕ) (done : List Fields) (r : Fields) (d : TasksSaid) → AreTaken columns done d
    → says r ≡ false → AreTaken columns (done ++ r ∷ []) d
passed_over columns done r d t e = record {
  sound = all_sound columns done r t.sound (λ yes. absurd (cc (sym e ∙ yes)));
  names = t.names ∙ sym (append-nil (names_in done)) ∙ ap (λ b. names_in done ++ added b (field r 0)) (sym e)
      ∙ sym (names_more done r);
  times = t.times ∙ sym (append-nil (times_in done)) ∙ ap (λ b. times_in done ++ added b (value_of (field r 1))) (sym e)
      ∙ sym (times_more done r);
  lists = t.lists ∙ sym (append-nil (lists_from 2 done))
      ∙ ap (λ b. lists_from 2 done ++ added b (lists_of (2 + length done) r)) (sym e)
      ∙ sym (lists_more 2 done r);
}

-- a record of a task
taken_up : (columns : ℕ) (done : List Fields) (r : Fields) (d : TasksSaid) → AreTaken columns done d
    → says r ≡ true → task_fault columns d.names r ≡ None
    → AreTaken columns (done ++ r ∷ []) (with_task d (2 + length done) r)
taken_up columns done r d t e f = record {
  sound = all_sound columns done r t.sound (λ yes. ap (λ ns. task_fault columns ns r) (sym t.names) ∙ f);
  names = ap (λ xs. xs ++ field r 0 ∷ []) t.names ∙ ap (λ b. names_in done ++ added b (field r 0)) (sym e)
      ∙ sym (names_more done r);
  times = ap (λ xs. xs ++ value_of (field r 1) ∷ []) t.times
      ∙ ap (λ b. times_in done ++ added b (value_of (field r 1))) (sym e)
      ∙ sym (times_more done r);
  lists = ap (λ xs. xs ++ lists_of (2 + length done) r ∷ []) t.lists
      ∙ ap (λ b. lists_from 2 done ++ added b (lists_of (2 + length done) r)) (sym e)
      ∙ sym (lists_more 2 done r);
}

-- ---- where the reading of the records ends

pub record IsRestFault (columns : ℕ) (rest : List Fields) (row : ℕ) (kind : TableKind) : Type 0 where
  pub place : ℕ
  pub within : place < length rest
  pub row_is : row ≡ place + 2
  pub above : (p : ℕ) → p < place → IsSound columns rest p
  pub task : says (record_at rest place) ≡ true
  pub what : task_fault columns (names_in (take place rest)) (record_at rest place) ≡ Some kind

pub record IsEndFault (columns : ℕ) (rest : List Fields) (row : ℕ) (kind : TableKind) : Type 0 where
  pub sound : AreSound columns rest
  pub none : names_in rest ≡ []
  pub row_is : row ≡ length rest + 2
  pub what : kind ≡ fault.NoTask

abbrev pub IsFaultIn : ℕ → List Fields → TableFault → Type 0
IsFaultIn columns rest (Record row kind) = IsRestFault columns rest row kind ⊎ IsEndFault columns rest row kind
IsFaultIn columns rest (Cycle names) = ⊥

pub record AreAll (columns : ℕ) (rest : List Fields) (d : TasksSaid) : Type 0 where
  pub taken : AreTaken columns rest d
  pub some : 0 < length (names_in rest)

abbrev pub Ends : ℕ → List Fields → Said TasksSaid → Type 0
Ends columns rest (Ok d) = AreAll columns rest d
Ends columns rest (Err f) = IsFaultIn columns rest f

at_end : (columns : ℕ) (done : List Fields) (d : TasksSaid) → AreTaken columns done d
    → Ends columns done (ended_said (2 + length done) d)
at_end columns done d t = by (nat_lt 0 (length d.names)) refl
  where
    by : (b : Bool) → nat_lt 0 (length d.names) ≡ b
        → Ends columns done (cond b (Ok d) (Err (Record (2 + length done) fault.NoTask)))
    by true e = record { taken = t; some = omega (arith, ltb-true 0 (length d.names) e, ap length t.names) }
    by false e = inr (record {
      sound = t.sound;
      none = nil_from_length (names_in done) (omega (arith, ltb-false 0 (length d.names) e, ap length t.names));
      row_is = omega arith;
      what = refl;
    })

at_record : (columns : ℕ) (done : List Fields) (r : Fields) (more : List Fields) (d : TasksSaid) (kind : TableKind)
    → AreTaken columns done d → says r ≡ true → task_fault columns d.names r ≡ Some kind
    → IsFaultIn columns (done ++ r ∷ more) (Record (2 + length done) kind)
at_record columns done r more d kind t e f =
    let all : length (done ++ r ∷ more) ≡ length done + length (r ∷ more) = length-append done (r ∷ more) in
    let P : Fields → Type 0 = λ q. says q ≡ true in
    let Q : Fields → Type 0 = λ q. task_fault columns (names_in done) q ≡ Some kind in
    let R : List Fields → Type 0 = λ xs. task_fault columns (names_in xs) (record_at (done ++ r ∷ more) (length done))
    ≡ Some kind in
    let what : task_fault columns (names_in done) r ≡ Some kind = ap (λ ns. task_fault columns ns r) (sym t.names)
    ∙ f in
    inl (record {
      place = length done;
      within = omega (arith, all);
      row_is = omega arith;
      above = λ p h. sound_more columns done (r ∷ more) p h (t.sound p h);
      task = subst P (sym (at_seam done r more)) e;
      what = subst R (sym (take-append_seam done (r ∷ more))) (subst Q (sym (at_seam done r more)) what);
    })

-- one record more, where the reading of those behind it is known
one_on : (columns : ℕ) (left done : List Fields) (r : Fields) (d : TasksSaid) → AreTaken columns done d
    → ((new : TasksSaid) → AreTaken columns (done ++ r ∷ []) new
    → Ends columns ((done ++ r ∷ []) ++ left) (rest_said columns left (2 + length (done ++ r ∷ [])) new))
    → Ends columns (done ++ r ∷ left) (rest_said columns (r ∷ left) (2 + length done) d)
one_on columns left done r d t go = by (says r) refl
  where
    more : (new : TasksSaid) → AreTaken columns (done ++ r ∷ []) new
        → Ends columns (done ++ r ∷ left) (rest_said columns left (2 + length done + 1) new)
    more new n =
        let rows : 2 + length (done ++ r ∷ []) ≡ 2 + length done + 1 = omega (arith, length-append done (r ∷ [])) in
        let P : ℕ → Type 0 = λ k. Ends columns (done ++ r ∷ left) (rest_said columns left k new) in
        let Q : List Fields → Type 0 = λ xs. Ends columns xs (rest_said columns left (2 + length
        (done ++ r ∷ [])) new) in
        subst P rows (subst Q (append_assoc done (r ∷ []) left) (go new n))

    under : (o : Option TableKind) → says r ≡ true → task_fault columns d.names r ≡ o
        → Ends columns (done ++ r ∷ left) (next (unless (2 + length done) o (with_task d (2 + length done) r))
        (rest_said columns left (2 + length done + 1)))
    under None e f = more (with_task d (2 + length done) r) (taken_up columns done r d t e f)
    under (Some kind) e f = at_record columns done r left d kind t e f

    by : (b : Bool) → says r ≡ b
        → Ends columns (done ++ r ∷ left) (next (cond b (unless (2 + length done) (task_fault columns d.names r)
        (with_task d (2 + length done) r)) (Ok d)) (rest_said columns left (2 + length done + 1)))
    by true e = under (task_fault columns d.names r) e refl
    by false e = more d (passed_over columns done r d t e)

walked : (columns : ℕ) (left done : List Fields) (d : TasksSaid) → AreTaken columns done d
    → Ends columns (done ++ left) (rest_said columns left (2 + length done) d)
walked columns [] done d t =
    let P : List Fields → Type 0 = λ xs. Ends columns xs (ended_said (2 + length done) d) in
    subst P (sym (append-nil done)) (at_end columns done d t)
walked columns (r ∷ left) done d t =
    one_on columns left done r d t (λ new n. walked columns left (done ++ r ∷ []) new n)

-- ---- the whole

-- the tasks of records, and what the reading knows of them
pub record AreTasksOf (records : List Fields) (d : TasksSaid) : Type 0 where
  pub tasks : AreTasks records
  pub names : d.names ≡ names_in (behind records)
  pub times : d.times ≡ times_in (behind records)
  pub lists : d.lists ≡ lists_from 2 (behind records)

abbrev pub Answers : List Fields → Said TasksSaid → Type 0
Answers records (Ok d) = AreTasksOf records d
Answers records (Err f) = IsFirstFault records f

-- behind a heading there is one record less
one_less : (records : List Fields) (columns : ℕ) → columns_of (record_at records 0) ≡ Some columns
    → length (behind records) + 2 ≡ length records + 1
one_less [] columns h = cc h
one_less (r ∷ rs) columns h = omega arith

in_all : (records : List Fields) (columns : ℕ) (said : Said TasksSaid) → columns_of (record_at records 0) ≡ Some columns
    → Ends columns (behind records) said → Answers records said
in_all records columns (Ok d) h a = record {
  tasks = record { columns = columns; heading = h; sound = a.taken.sound; some = a.some };
  names = a.taken.names;
  times = a.taken.times;
  lists = a.taken.lists;
}
in_all records columns (Err (Record row kind)) h (inl f) = inr (inl (record {
  columns = columns;
  heading = h;
  place = f.place;
  within = f.within;
  number_is = f.row_is;
  above = f.above;
  task = f.task;
  what = f.what;
}))
in_all records columns (Err (Record row kind)) h (inr f) = inr (inr (inl (record {
  columns = columns;
  heading = h;
  sound = f.sound;
  none = f.none;
  number_is = f.row_is ∙ one_less records columns h;
  what = f.what;
})))
in_all records columns (Err (Cycle names)) h f = absurd f

answered : (records : List Fields) → Answers records (tasks_said records)
answered records = by (columns_of (record_at records 0)) refl
  where
    by : (o : Option ℕ) → columns_of (record_at records 0) ≡ o → Answers records (headed_said o (behind records))
    by None e = inl (record { heading = e; first = refl; what = refl })
    by (Some columns) e = in_all records columns (rest_said columns (behind records) 2 no_tasks) e
        (walked columns (behind records) [] no_tasks (none_taken columns))

pub tasks_are : (records : List Fields) (d : TasksSaid) → tasks_said records ≡ Ok d → AreTasksOf records d
tasks_are records d e = subst (Answers records) e (answered records)

pub fault_is : (records : List Fields) (f : TableFault) → tasks_said records ≡ Err f → IsFirstFault records f
fault_is records f e = subst (Answers records) e (answered records)
