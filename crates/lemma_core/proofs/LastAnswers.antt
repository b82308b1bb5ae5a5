-- The last answer, as what the search through the entries finds, is the only one.
use Rattle.std.proofs.Common.{◌≡◌, ℕ, ◌<◌, ◌≤◌, Bool, false, List, length, refl, sym, ap, ◌∙◌, subst, inl, inr, arith}
use Rattle.std.proofs.Common.{Some, None, Option}
use Rattle.std.specs.Prelude.{slice_get}
use Rattle.std.proofs.lemmas.Bool.{cases_lt, cases_eq, true≢false}
use Rattle.std.proofs.lemmas.Option.{slice_get_within, same_Some}
use Rattle.line_rules.specs.Entries.{Answers, IsUnanswered, IsLastAnswer}
use Rattle.line_rules.specs.declared.types.Entry.{Entry}
use Rattle.lemma_core.specs.Machine.{answers, last_answer}
use Rattle.lemma_core.proofs.Runs.{last_found, last_absent, answers_so}

same_last : (es : List Entry) (set : List Bool) (most cycle i j : ℕ) → IsLastAnswer es set most cycle i
    → IsLastAnswer es set most cycle j → i ≡ j
same_last es set most cycle i j a b = elim (cases_lt i j) [
  | inl l ↦ absurd (a.last j b.entry l b.there b.answers)
  | inr l ↦ (elim (cases_lt j i) [ inl m ↦ absurd (b.last i a.entry m a.there a.answers) | inr m ↦ omega arith ])
]

last_case : (es : List Entry) (set : List Bool) (most cycle id : ℕ) (o : Option ℕ) → last_answer es set most cycle ≡ o
    → IsLastAnswer es set most cycle id → o ≡ Some id
last_case es set most cycle id (Some i) e a = ap Some (same_last es set most cycle i id
    (last_found es set most cycle i e) a)
last_case es set most cycle id None e a = absurd (last_absent es set most cycle e id a.entry a.there a.answers)

pub last_is : (es : List Entry) (set : List Bool) (most cycle id : ℕ) → IsLastAnswer es set most cycle id
    → last_answer es set most cycle ≡ Some id
last_is es set most cycle id a = last_case es set most cycle id (last_answer es set most cycle) refl a

none_case : (es : List Entry) (set : List Bool) (most cycle : ℕ) (o : Option ℕ) → last_answer es set most cycle ≡ o
    → IsUnanswered es set most cycle → o ≡ None
none_case es set most cycle (Some i) e u = let a : IsLastAnswer es set most cycle i =
    last_found es set most cycle i e in absurd (u i a.entry a.there a.answers)
none_case es set most cycle None e u = refl

pub none_is : (es : List Entry) (set : List Bool) (most cycle : ℕ) → IsUnanswered es set most cycle
    → last_answer es set most cycle ≡ None
none_is es set most cycle u = none_case es set most cycle (last_answer es set most cycle) refl u

-- the number of a last answer is that of an entry
pub last_within : (es : List Entry) (set : List Bool) (most cycle id : ℕ) → last_answer es set most cycle ≡ Some id
    → id < length es
last_within es set most cycle id e = let a : IsLastAnswer es set most cycle id = last_found es set most cycle id e in
    slice_get_within es id a.entry a.there

-- the entry at k doesn't answer, and so none from there on does
pub passes : (es : List Entry) (set : List Bool) (most cycle k : ℕ) (entry : Entry) → slice_get es k ≡ Some entry
    → (Answers entry set most cycle → ⊥)
    → ((j : ℕ) (e : Entry) → k < j → slice_get es j ≡ Some e → Answers e set most cycle → ⊥) → (j : ℕ) (e : Entry)
    → k ≤ j → slice_get es j ≡ Some e → Answers e set most cycle → ⊥
passes es set most cycle k entry there fails above j e l g a = elim (cases_eq j k) [
  | inl q ↦ fails (let P : Entry → Type 0 = λ z. Answers z set most cycle in
      subst P (same_Some e entry (sym g ∙ (ap (λ (z : ℕ). slice_get es z) q ∙ there))) a)
  | inr d ↦ above j e (omega arith) g a
]

-- an entry that fails the test doesn't answer
pub fails_so : (e : Entry) (set : List Bool) (most cycle : ℕ) → answers e set most cycle ≡ false
    → Answers e set most cycle → ⊥
fails_so e set most cycle f a = true≢false (sym (answers_so e set most cycle a) ∙ f)
