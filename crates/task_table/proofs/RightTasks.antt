-- What is true of tasks with whose records nothing is wrong: names, each once, at most 1,024 of them, and right times.
use Rattle.std.proofs.Common.{◌≡◌, ◌≤◌, ◌<◌, ◌+◌, ℕ, zero, suc, Bool, true, false, cond, not, nat_lt}
use Rattle.std.proofs.Common.{nat_le, List, [], ◌∷◌, ◌++◌, length, drop, get_or, Option, Some, None}
use Rattle.std.proofs.Common.{refl, sym, ◌∙◌, subst, arith, append_assoc, length-append, inl, inr}
use Rattle.std.specs.Prelude.{bytes_eq, filter}
use Rattle.std.specs.List.{list_any}
use Rattle.std.specs.Str.{is_utf8}
use Rattle.std.proofs.lemmas.Bool.{ltb-true, leb-true, cases_lt, not-false}
use Rattle.std.proofs.lemmas.List.{append-nil, length-map, get_or_push}
use Rattle.std.proofs.lemmas.List.Folds.{list_any_at}
use Rattle.std.proofs.lemmas.Slice.Eq.{bytes_eq-Decides}
use Rattle.std.proofs.Math.ListN.{get_or-append}
use Rattle.line_io.specs.Lines.{value_of, is_number}
use Rattle.line_io.specs.declared.text.Num.TheVariants.{Value, NotANumber, Above}
use Rattle.task_names.specs.TaskNames.{is_task_name, name_at, AreDistinct, AreNames}
use Rattle.task_table.specs.Records.{Fields, field, says, names_in}
use Rattle.task_table.specs.Rows.{task_fault, time_fault, AreSound}
use Rattle.task_table.specs.Tables.{times_in}
use Rattle.task_table.specs.declared.fault.TableKind.{TableKind}
use Rattle.task_table.specs.declared.fault.TableKind.TheVariants as fault
use Rattle.task_table.proofs.TaskFacts.{added, names_more, times_more, last_sound}

-- ---- a record with which nothing is wrong

pub record IsRightTask (names : List (List ℕ)) (r : Fields) : Type 0 where
  pub name : is_task_name (field r 0) ≡ true
  pub limit : value_of (field r 1) ≤ 200000000000000
  pub fresh : list_any (λ n. bytes_eq n (field r 0)) names ≡ false
  pub few : length names < 1024

-- a test that is wrong where it is true
passes : (b : Bool) (kind : TableKind) (next : Option TableKind) → cond b (Some kind) next ≡ None
    → (b ≡ false) × (next ≡ None)
passes true kind next h = cc h
passes false kind next h = (refl, h)

few_enough : (b : Bool) (kind : TableKind) → cond b None (Some kind) ≡ None → b ≡ true
few_enough true kind h = refl
few_enough false kind h = cc h

within : (number small : Bool) (v most : ℕ) (next : Option TableKind) → nat_le v most ≡ small
    → time_fault (cond number (cond small (Value v) Above) NotANumber) next ≡ None → (v ≤ most) × (next ≡ None)
within false small v most next e h = cc h
within true false v most next e h = cc h
within true true v most next e h = (leb-true v most e, h)

pub right_task : (columns : ℕ) (names : List (List ℕ)) (r : Fields) → task_fault columns names r ≡ None
    → IsRightTask names r
right_task columns names r h =
    let a = passes (says (drop columns r)) fault.Form _ h in
    let b = passes (not (is_utf8 (field r 0))) fault.NotUtf8 _ a.1 in
    let c = passes (not (is_task_name (field r 0))) fault.BadName _ b.1 in
    let t = within (is_number (field r 1)) (nat_le (value_of (field r 1)) 200000000000000) (value_of (field r 1))
    200000000000000 _ refl c.1 in
    let d = passes (list_any (λ n. bytes_eq n (field r 0)) names) fault.RepeatedTask _ t.1 in
    record {
      name = not-false (is_task_name (field r 0)) c.0;
      limit = t.0;
      fresh = d.0;
      few = ltb-true (length names) 1024 (few_enough (nat_lt (length names) 1024) fault.TooManyTasks d.1);
    }

-- ---- the tasks so far

pub record AreRight (names : List (List ℕ)) (times : List ℕ) : Type 0 where
  pub few : length names ≤ 1024
  pub each : AreNames names
  pub distinct : AreDistinct names
  pub limit : (i : ℕ) → get_or times i 0 ≤ 200000000000000

-- one name more that no task has so far
more_distinct : (names : List (List ℕ)) (name : List ℕ) → AreDistinct names
    → list_any (λ n. bytes_eq n name) names ≡ false → AreDistinct (names ++ name ∷ [])
more_distinct names name d fresh i j h g e = elim (cases_lt i (length names)) [
  | inl low ↦ elim (cases_lt j (length names)) [
    | inl high ↦ d i j low high (sym (old i low) ∙ e ∙ old j high)
    | inr last ↦ absurd (new i low (sym (old i low) ∙ e ∙ at_last j g last))
  ]
  | inr last ↦ elim (cases_lt j (length names)) [
    | inl high ↦ absurd (new j high (sym (old j high) ∙ sym e ∙ at_last i h last))
    | inr end ↦ omega (arith, h, g, last, end, length-append names (name ∷ []))
  ]
]
  where
    old : (k : ℕ) → k < length names → name_at (names ++ name ∷ []) k ≡ name_at names k
    old k l = get_or-append names (name ∷ []) [] k l

    at_last : (k : ℕ) → k < length (names ++ name ∷ []) → length names ≤ k → name_at (names ++ name ∷ []) k ≡ name
    at_last k l m = get_or_push names name [] k (omega (arith, l, m, length-append names (name ∷ [])))

    new : (k : ℕ) → k < length names → name_at names k ≡ name → ⊥
    new k l same =
        let yes : list_any (λ n. bytes_eq n name) names ≡ true =
        list_any_at (λ n. bytes_eq n name) names k [] l ((bytes_eq-Decides (name_at names k) name).1 same) in
        cc (sym yes ∙ fresh)

more_names : (names : List (List ℕ)) (name : List ℕ) → AreNames names → is_task_name name ≡ true
    → AreNames (names ++ name ∷ [])
more_names [] name a is zero d h = is
more_names [] name a is (suc k) d h = absurd (omega (arith, h))
more_names (n ∷ ns) name a is zero d h = a zero d (omega arith)
more_names (n ∷ ns) name a is (suc k) d h =
    more_names ns name (λ j e l. a (suc j) e (omega (arith, l))) is k d (omega (arith, h))

more_limit : (times : List ℕ) (time : ℕ) → ((i : ℕ) → get_or times i 0 ≤ 200000000000000) → time ≤ 200000000000000
    → (i : ℕ) → get_or (times ++ time ∷ []) i 0 ≤ 200000000000000
more_limit [] time h l zero = l
more_limit [] time h l (suc i) = omega arith
more_limit (t ∷ times) time h l zero = h zero
more_limit (t ∷ times) time h l (suc i) = more_limit times time (λ k. h (suc k)) l i

abbrev RightIn : List Fields → Type 0
RightIn done = AreRight (names_in done) (times_in done)

right_more : (columns : ℕ) (done : List Fields) (r : Fields) → RightIn done
    → (says r ≡ true → task_fault columns (names_in done) r ≡ None) → RightIn (done ++ r ∷ [])
right_more columns done r right sound = by (says r) refl (names_more done r) (times_more done r)
  where
    by : (b : Bool) → says r ≡ b
        → names_in (done ++ r ∷ []) ≡ names_in done ++ added b (field r 0)
        → times_in (done ++ r ∷ []) ≡ times_in done ++ added b (value_of (field r 1))
        → RightIn (done ++ r ∷ [])
    by false e n t =
        let P : List (List ℕ) → Type 0 = λ ns. AreRight ns (times_in (done ++ r ∷ [])) in
        let Q : List ℕ → Type 0 = λ ts. AreRight (names_in done) ts in
        subst P (sym (n ∙ append-nil (names_in done))) (subst Q (sym (t ∙ append-nil (times_in done))) right)
    by true e n t =
        let is = right_task columns (names_in done) r (sound e) in
        let P : List (List ℕ) → Type 0 = λ ns. AreRight ns (times_in (done ++ r ∷ [])) in
        let Q : List ℕ → Type 0 = λ ts. AreRight (names_in done ++ field r 0 ∷ []) ts in
        let all : AreRight (names_in done ++ field r 0 ∷ []) (times_in done ++ value_of (field r 1) ∷ []) = record {
          few = omega (arith, is.few, length-append (names_in done) (field r 0 ∷ []));
          each = more_names (names_in done) (field r 0) right.each is.name;
          distinct = more_distinct (names_in done) (field r 0) right.distinct is.fresh;
          limit = more_limit (times_in done) (value_of (field r 1)) right.limit is.limit;
        } in
        subst P (sym n) (subst Q (sym t) all)

right_from : (columns : ℕ) (left done : List Fields) → AreSound columns (done ++ left) → RightIn done
    → RightIn (done ++ left)
right_from columns [] done s right = subst RightIn (sym (append-nil done)) right
right_from columns (r ∷ left) done s right =
    let all : length (done ++ r ∷ left) ≡ length done + length (r ∷ left) = length-append done (r ∷ left) in
    let one = last_sound columns done r left (s (length done) (omega (arith, all))) in
    let same = append_assoc done (r ∷ []) left in
    subst RightIn same (right_from columns left (done ++ r ∷ []) (subst (AreSound columns) (sym same) s)
    (right_more columns done r right one))

pub all_right : (columns : ℕ) (rest : List Fields) → AreSound columns rest → AreRight (names_in rest) (times_in rest)
all_right columns rest s = right_from columns rest [] s (record {
  few = omega arith;
  each = λ k d h. absurd (omega (arith, h));
  distinct = λ i j h g e. absurd (omega (arith, h));
  limit = λ i. omega arith;
})

-- as many times as names
pub same_many : (rest : List Fields) → length (times_in rest) ≡ length (names_in rest)
same_many rest = length-map (filter says rest) (λ r. value_of (field r 1))
    ∙ sym (length-map (filter says rest) (λ r. field r 0))
