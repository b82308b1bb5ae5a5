-- The fault that the reading finds is of the first record that no reading passes.
use Rattle.std.proofs.Common.{◌≡◌, ◌+◌, ℕ, List, [], ◌∷◌, ◌++◌, length, Result, Ok, Err, refl, sym, ◌∙◌, ap, subst}
use Rattle.std.proofs.Common.{arith, append_assoc, inl, inr}
use Rattle.std.specs.Prelude.{◌⊎◌, codes, cond, nat_lt, Bool, true, false}
use Rattle.std.proofs.lemmas.Bool.Decides.{nat_tests}
use Rattle.combined_graph.specs.Mixes.{LineModel, MixedLine}
use Rattle.combined_graph.specs.Records.{Fields, mix_records}
use Rattle.combined_graph.specs.MixText.{IsMixRead}
use Rattle.combined_graph.specs.declared.mix_text.MixRead.{MixRead}
use Rattle.combined_graph.specs.declared.mix_text.MixRead.TheVariants.{Fault}
use Rattle.combined_graph.specs.MixRecords.{Said, at_record, record_said, first_said, rest_said, records_said}
use Rattle.combined_graph.specs.Faults.{AreBeginning, IsFirstFault}
use Rattle.combined_graph.specs.declared.fault.MixFault.{MixFault}
use Rattle.combined_graph.specs.declared.fault.MixKind.{MixKind}
use Rattle.combined_graph.specs.declared.fault.MixKind.TheVariants.{Form, NoModel}

-- these records, one after the other, make a mix of another one
abbrev pub Passes : List Fields → MixedLine → MixedLine → Type 0
Passes [] mix new = mix ≡ new
Passes (r ∷ rs) mix new = (m : MixedLine) × (record_said mix r ≡ Ok m) × Passes rs m new

-- behind them the reading goes on from what they made
passed : (rs more : List Fields) (k : ℕ) (mix new : MixedLine) → Passes rs mix new
    → rest_said (rs ++ more) k mix ≡ rest_said more (k + length rs) new
passed [] more k mix new p =
    let none : k ≡ k + 0 = omega arith in
    ap (λ m. rest_said more k m) p ∙ ap (λ j. rest_said more j new) none
passed (r ∷ rs) more k mix new p =
    let one : (k + 1) + length rs ≡ k + length (r ∷ rs) = omega arith in
    ap (λ s. at_record k s (rest_said (rs ++ more) (k + 1))) p.1 ∙ passed rs more (k + 1) p.0 new p.2
    ∙ ap (λ j. rest_said more j new) one

-- where the reading stops: at a record, or at the end
pub record StopsAt (rs : List Fields) (k : ℕ) (mix : MixedLine) (f : MixFault) : Type 0 where
  pub before : List Fields
  pub at : Fields
  pub after : List Fields
  pub all : rs ≡ before ++ at ∷ after
  pub row : f.row ≡ k + length before
  pub new : MixedLine
  pub passes : Passes before mix new
  pub wrong : record_said new at ≡ Err f.kind

pub record StopsBehind (rs : List Fields) (k : ℕ) (mix : MixedLine) (f : MixFault) : Type 0 where
  pub row : f.row ≡ k + length rs
  pub new : MixedLine
  pub passes : Passes rs mix new

one_before : (r : Fields) (rs : List Fields) (k : ℕ) (mix m : MixedLine) (f : MixFault) → record_said mix r ≡ Ok m
    → StopsAt rs (k + 1) m f ⊎ StopsBehind rs (k + 1) m f
    → StopsAt (r ∷ rs) k mix f ⊎ StopsBehind (r ∷ rs) k mix f
one_before r rs k mix m f e (inl s) = inl (record {
  before = r ∷ s.before;
  at = s.at;
  after = s.after;
  all = ap (λ xs. r ∷ xs) s.all;
  row = omega (arith, s.row);
  new = s.new;
  passes = (m, e, s.passes);
  wrong = s.wrong;
})
one_before r rs k mix m f e (inr s) = inr (record {
  row = omega (arith, s.row);
  new = s.new;
  passes = (m, e, s.passes);
})

stops : (rs : List Fields) (k : ℕ) (mix : MixedLine) (f : MixFault) → rest_said rs k mix ≡ Err f
    → StopsAt rs k mix f ⊎ StopsBehind rs k mix f
stops [] k mix f h = by (nat_lt 0 (length mix.models)) h
  where
    by : (b : Bool) → ◌≡◌ {A = Result MixedLine MixFault} (cond b (Ok mix) (Err (record { row = k; kind = NoModel })))
        (Err f) → StopsAt [] k mix f ⊎ StopsBehind [] k mix f
    by true e = cc e
    by false e = let same : record { row = k; kind = NoModel } ≡ f = cc e in
        let row : k ≡ f.row = ap (λ g. g.row) same in
        inr (record { row = omega (arith, row); new = mix; passes = refl })
stops (r ∷ rs) k mix f h = by (record_said mix r) refl h (λ m. stops rs (k + 1) m f)
  where
    by : (s : Said MixedLine) → record_said mix r ≡ s → at_record k s (rest_said rs (k + 1)) ≡ Err f
        → ((m : MixedLine) → rest_said rs (k + 1) m ≡ Err f → StopsAt rs (k + 1) m f ⊎ StopsBehind rs (k + 1) m f)
        → StopsAt (r ∷ rs) k mix f ⊎ StopsBehind (r ∷ rs) k mix f
    by (Err kind) e h more =
        let same : record { row = k; kind = kind } ≡ f = cc h in
        let row : k ≡ f.row = ap (λ g. g.row) same in
        inl (record {
          before = [];
          at = r;
          after = rs;
          all = refl;
          row = omega (arith, row);
          new = mix;
          passes = refl;
          wrong = e ∙ ap (λ g. Err g.kind) same;
        })
    by (Ok m) e h more = one_before r rs k mix m f e (more m h)

-- each mix that is being read can be ended: it has a model, or one more record gives it one
can_end : (mix : MixedLine) (k : ℕ) → (more : List Fields) × (new : MixedLine) × (rest_said more k mix ≡ Ok new)
can_end mix k = by mix.tasks mix.models
  where
    by : (tasks : ℕ) (models : List LineModel) → (more : List Fields) × (new : MixedLine)
        × (rest_said more k (record { tasks = tasks; models = models }) ≡ Ok new)
    by tasks [] = ((codes "model" ∷ codes "A" ∷ codes "1" ∷ [] ∷ []) ∷ [], _, refl)
    by tasks (m ∷ ms) =
        let some : nat_lt 0 (length (m ∷ ms)) ≡ true = grind (arith, nat_tests) in
        let mix : MixedLine = record { tasks = tasks; models = m ∷ ms } in
        let P : Bool → Type 0 = λ b. ◌≡◌ {A = Result MixedLine MixFault}
        (cond b (Ok mix) (Err (record { row = k; kind = NoModel }))) (Ok mix) in
        ([], mix, subst P (sym some) refl)

ended : (r : Fields) (before : List Fields) (mix new : MixedLine) → first_said r ≡ Ok mix → Passes before mix new
    → AreBeginning (r ∷ before)
ended r before mix new e p =
    let end = can_end new (2 + length before) in (
      end.0,
      (
        end.1,
        ap (λ s. at_record 1 s (rest_said (before ++ end.0) 2)) e ∙ passed before end.0 2 mix new p
            ∙ end.2,
      ),
    )

not_both : {A : Type 0} (r : Result MixedLine MixFault) (f : MixFault) (m : MixedLine) → r ≡ Err f → r ≡ Ok m → A
not_both r f m e o = cc (sym e ∙ o)

-- no records begin with records of which the last is wrong
wrong_last : (r at : Fields) (before : List Fields) (mix new : MixedLine) (kind : MixKind) → first_said r ≡ Ok mix
    → Passes before mix new → record_said new at ≡ Err kind
    → AreBeginning ((r ∷ before) ++ at ∷ []) → ⊥
wrong_last r at before mix new kind e p wrong q =
    let all : (before ++ at ∷ []) ++ q.0 ≡ before ++ at ∷ q.0 = append_assoc before (at ∷ []) q.0 in
    not_both (records_said (((r ∷ before) ++ at ∷ []) ++ q.0)) (record { row = 2 + length before; kind = kind }) q.1.0
    (ap (λ s. at_record 1 s (rest_said ((before ++ at ∷ []) ++ q.0) 2)) e ∙ ap (λ xs. rest_said xs 2 mix) all
    ∙ passed before (at ∷ q.0) 2 mix new p
    ∙ ap (λ s. at_record (2 + length before) s (rest_said q.0 (2 + length before + 1))) wrong)
    q.1.1

wrong_first : (at : Fields) (kind : MixKind) → first_said at ≡ Err kind → AreBeginning (at ∷ []) → ⊥
wrong_first at kind wrong q =
    not_both (records_said ((at ∷ []) ++ q.0)) (record { row = 1; kind = kind }) q.1.0
    (ap (λ s. at_record 1 s (rest_said q.0 2)) wrong) q.1.1

a_mix : AreBeginning []
a_mix = ((codes "tasks" ∷ codes "1" ∷ [] ∷ [] ∷ []) ∷ (codes "model" ∷ codes "A" ∷ codes "1" ∷ [] ∷ []) ∷ [], (_, refl))

behind_first : (r : Fields) (rs : List Fields) (mix : MixedLine) (f : MixFault) → first_said r ≡ Ok mix
    → records_said (r ∷ rs) ≡ Err f
    → StopsAt rs 2 mix f ⊎ StopsBehind rs 2 mix f → IsFirstFault (r ∷ rs) f
behind_first r rs mix f e h (inl s) = inl (record {
  before = r ∷ s.before;
  at = s.at;
  after = s.after;
  all = ap (λ xs. r ∷ xs) s.all;
  row = omega (arith, s.row);
  passes = ended r s.before mix s.new e s.passes;
  stops = wrong_last r s.at s.before mix s.new f.kind e s.passes s.wrong;
})
behind_first r rs mix f e h (inr s) = inr (record {
  row = omega (arith, s.row);
  passes = ended r rs mix s.new e s.passes;
  ends = λ q. not_both (records_said (r ∷ rs)) f q.0 h q.1;
})

pub first_fault : (records : List Fields) (f : MixFault) → records_said records ≡ Err f → IsFirstFault records f
first_fault [] f h =
    let same : record { row = 1; kind = Form } ≡ f = cc h in
    let row : 1 ≡ f.row = ap (λ g. g.row) same in
    inr (record { row = omega (arith, row); passes = a_mix; ends = λ q. not_both (records_said []) f q.0 h q.1 })
first_fault (r ∷ rs) f h = by (first_said r) refl h
  where
    by : (s : Said MixedLine) → first_said r ≡ s → at_record 1 s (rest_said rs 2) ≡ Err f → IsFirstFault (r ∷ rs) f
    by (Err kind) e g =
        let same : record { row = 1; kind = kind } ≡ f = cc g in
        let row : 1 ≡ f.row = ap (λ g. g.row) same in
        inl (record {
          before = [];
          at = r;
          after = rs;
          all = refl;
          row = omega (arith, row);
          passes = a_mix;
          stops = wrong_first r kind e;
        })
    by (Ok mix) e g = behind_first r rs mix f e h (stops rs 2 mix f g)

-- an answer that is a fault is of the first
pub answer_is_first : (bytes : List ℕ) (answer : MixRead) → IsMixRead bytes answer → (f : MixFault) → answer ≡ Fault f
    → IsFirstFault (mix_records bytes) f
answer_is_first bytes answer h f e = first_fault (mix_records bytes) f (subst (IsMixRead bytes) e h)
