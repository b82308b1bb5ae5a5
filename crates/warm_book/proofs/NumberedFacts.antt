-- Old entries that were taken are answered in the book, under their numbers.
use Rattle.std.proofs.Common.{◌≡◌, ℕ, ◌+◌, ◌-◌, ◌<◌, ◌≤◌, List, [], ◌∷◌, ◌++◌, length, take, refl, sym, ap, ◌∙◌, subst}
use Rattle.std.proofs.Common.{inl, inr, arith, append_assoc, length-append, Option, Some, None}
use Rattle.std.proofs.lemmas.List.{append-nil}
use Rattle.std.specs.Prelude.{slice_get, unwrap_or, ◌⊎◌, IfSome}
use Rattle.std.proofs.lemmas.Option.{same_Some}
use Rattle.line_rules.proofs.ListFacts.{get_longer, get_push_cases, get_last}
use Rattle.line_instance.specs.Line.{Line}
use Rattle.line_rules.specs.declared.types.LineKind.{LineKind}
use Rattle.line_rules.specs.declared.types.Entry.{Entry}
use Rattle.lemma_core.proofs.Runs.{last_found}
use Rattle.lemma_core.specs.declared.types.Event.TheVariants as event
use Rattle.lemma_core.specs.Machine.{State, last_answer, with_entry}
use Rattle.lemma_core.specs.Books.{BookView, ran}
use Rattle.warm_book.specs.Warm.{Taking, number_at, number_of, IsKept, Takes, TakesAll, keeping, dropping, untaken}
use Rattle.warm_book.specs.inner.Walked.{IsAnsweredAt, AreNumbered, AreWalked, IsWalked, IsSpared}
use Rattle.warm_book.proofs.NumberFacts.{asks_same}
use Rattle.warm_book.proofs.TakingFacts.{step_adds}

number_is : (o : Option (Option ℕ)) (n : ℕ) → number_at o ≡ Some n → o ≡ Some (Some n)
number_is None n e = absurd (cc)
number_is (Some number) n e = ap (λ (z : Option ℕ). Some z) e

-- an entry that was published is answered under its number
published_answers : (s : State) (e : Entry) (o : Option ℕ) → last_answer s.entries e.set e.most e.cycle ≡ o
    → IsAnsweredAt (with_entry o s e).entries (unwrap_or o (length s.entries)) e
published_answers s e (Some id) is =
    let h = last_found s.entries e.set e.most e.cycle id is in
    record { entry = h.entry; there = h.there; answers = h.answers }
published_answers s e None is = record {
  entry = e;
  there = get_last s.entries e;
  answers = record { same = refl; stations = omega arith; long = omega arith };
}

answered_longer : (es more : List Entry) (number : ℕ) (old : Entry) → IsAnsweredAt es number old
    → IsAnsweredAt (es ++ more) number old
answered_longer es more number old h = record {
  entry = h.entry;
  there = get_longer es more number h.entry h.there;
  answers = h.answers;
}

module _ (room : ℕ) (t next : Taking) (olds : List Entry) (old : Entry) (s : Takes room t old next)
    (n : AreNumbered t olds) where
  earlier_answered : (k number : ℕ) (o : Entry) → slice_get olds k ≡ Some o → slice_get t.numbers k ≡ Some (Some number)
      → IsAnsweredAt next.book.state.entries number o
  earlier_answered k number o there is =
      let a = step_adds room t next old s in
      let P : List Entry → Type 0 = λ z. IsAnsweredAt z number o in
      subst P (sym a.entries) (answered_longer t.book.state.entries a.added number o
      (n.each k number o there (ap number_at is)))

  -- one old entry more, with this number in the book or none
  module _ (last : Option ℕ) (numbers_are : next.numbers ≡ t.numbers ++ last ∷ [])
      (answered : (number : ℕ) → last ≡ Some number → IsAnsweredAt next.book.state.entries number old) where
    each_by : (k number : ℕ) (o : Entry)
        → ((k < length olds) × (slice_get olds k ≡ Some o)) ⊎ ((k ≡ length olds) × (old ≡ o))
        → ((k < length t.numbers) × (slice_get t.numbers k ≡ Some (Some number)))
        ⊎ ((k ≡ length t.numbers) × (last ≡ Some number))
        → IsAnsweredAt next.book.state.entries number o
    each_by k number o (inl a) (inl b) = earlier_answered k number o a.1 b.1
    each_by k number o (inl a) (inr b) = absurd (omega (arith, a.0, b.0, n.many))
    each_by k number o (inr a) (inl b) = absurd (omega (arith, a.0, b.0, n.many))
    each_by k number o (inr a) (inr b) =
        let P : Entry → Type 0 = λ z. IsAnsweredAt next.book.state.entries number z in
        subst P a.1 (answered number b.1)

    numbered_more : AreNumbered next (olds ++ old ∷ [])
    numbered_more = record {
      many = ap (λ (z : List (Option ℕ)). length z) numbers_are
          ∙ omega (arith, n.many, length-append t.numbers (last ∷ []), length-append olds (old ∷ []));
      each = λ k number o there is.
          let P : List (Option ℕ) → Type 0 = λ z. slice_get z k ≡ Some (Some number) in
          each_by k number o (get_push_cases olds old o k there)
          (get_push_cases t.numbers last (Some number) k (subst P numbers_are
          (number_is (slice_get next.numbers k) number is)));
    }

kept_numbered : (room : ℕ) (t next : Taking) (olds : List Entry) (old new : Entry) (units : ℕ)
    → IsKept room t old new units
    → next ≡ keeping t new units → Takes room t old next → AreNumbered t olds → AreNumbered next (olds ++ old ∷ [])
kept_numbered room t next olds old new units k is s n =
    numbered_more room t next olds old s n (Some (number_of t.book.state new)) (ap (λ (z : Taking). z.numbers) is)
    answered
  where
    answered : (number : ℕ) → Some (number_of t.book.state new) ≡ Some number
        → IsAnsweredAt next.book.state.entries number old
    answered number same =
        let q : number_of t.book.state new ≡ number = cc in
        let h = published_answers t.book.state new (last_answer t.book.state.entries new.set new.most new.cycle) refl in
        let asks = asks_same t.numbers old new k.cites in
        let e : next.book.state.entries ≡ (ran t.book (event.Publish new ∷ [])).state.entries =
        ap (λ (z : Taking). z.book.state.entries) is in
        let P : List Entry → Type 0 = λ z. IsAnsweredAt z number old in
        let Q : ℕ → Type 0 = λ z. IsAnsweredAt (ran t.book (event.Publish new ∷ [])).state.entries z old in
        subst P (sym e) (subst Q q (record {
          entry = h.entry;
          there = h.there;
          answers = record {
            same = h.answers.same ∙ asks.set;
            stations = omega (arith, h.answers.stations, asks.most);
            long = omega (arith, h.answers.long, asks.cycle);
          };
        }))

dropped_numbered : (room : ℕ) (t next : Taking) (olds : List Entry) (old : Entry) → next ≡ dropping t
    → Takes room t old next
    → AreNumbered t olds → AreNumbered next (olds ++ old ∷ [])
dropped_numbered room t next olds old is s n =
    numbered_more room t next olds old s n None (ap (λ (z : Taking). z.numbers) is) (λ number same. absurd (cc))

one_numbered : (room : ℕ) (t next : Taking) (olds : List Entry) (old : Entry) → Takes room t old next
    → AreNumbered t olds
    → AreNumbered next (olds ++ old ∷ [])
one_numbered room t next olds old s n = elim s [
  | inl k ↦ kept_numbered room t next olds old k.0 k.1 k.2.0 k.2.1 (inl k) n
  | inr d ↦ dropped_numbered room t next olds old d.1 (inr d) n
]

all_numbered : (room : ℕ) (t : Taking) (before olds : List Entry) (end : Taking) → TakesAll room t olds end
    → AreNumbered t before
    → AreNumbered end (before ++ olds)
all_numbered room t before [] end h n =
    let P : Taking → Type 0 = λ z. AreNumbered z (before ++ []) in
    let Q : List Entry → Type 0 = λ z. AreNumbered t z in
    subst P h (subst Q (sym (append-nil before)) n)
all_numbered room t before (old ∷ olds) end h n =
    let P : List Entry → Type 0 = λ z. AreNumbered end z in
    subst P (append_assoc before (old ∷ []) olds)
    (all_numbered room h.0 (before ++ old ∷ []) olds end h.1.1 (one_numbered room t h.0 before old h.1.0 n))

-- the old entries that a book took in have their numbers there
pub numbered : (room : ℕ) (b : BookView) (olds : List Entry) (end : Taking) → TakesAll room (untaken b) olds end
    → AreNumbered end olds
numbered room b olds end h = all_numbered room (untaken b) [] olds end h (record {
  many = refl;
  each = λ k number o there is. absurd (cc);
})

-- what a walk among the old entries found of the next one is spared in the book
pub spared_next : (room : ℕ) (b : BookView) (t : Taking) (olds : List Entry) (old : Entry) (from k : ℕ)
    (kind : LineKind) (line : Line)
    (walked : List (Option ℕ)) → TakesAll room (untaken b) (take k olds) t → AreWalked kind line olds from walked
    → from ≤ k
    → slice_get olds k ≡ Some old → t.book.about.kind ≡ kind → t.book.about.line ≡ line
    → (w : Option ℕ) → IfSome w (λ units. slice_get walked (k - from) ≡ Some (Some units)) → IsSpared t old w
spared_next room b t olds old from k kind line walked h a within there kind_is line_is None g = tt
spared_next room b t olds old from k kind line walked h a within there kind_is line_is (Some units) g =
    let w = a.each (k - from) units g in
    let at : from + (k - from) ≡ k = omega (arith, within) in
    let K : ℕ → Type 0 = λ z. slice_get olds z ≡ Some w.entry in
    let same : w.entry ≡ old = same_Some w.entry old (sym (subst K at w.there) ∙ there) in
    let P : Entry → Type 0 = λ z. IsWalked kind line (take (from + (k - from)) olds) z units in
    let T : ℕ → Type 0 = λ z. IsWalked kind line (take z olds) old units in
    let Q : LineKind → Type 0 = λ z. IsWalked z line (take k olds) old units in
    let L : Line → Type 0 = λ z. IsWalked t.book.about.kind z (take k olds) old units in (
      take k olds,
      (
        numbered room b (take k olds) t h,
        subst L (sym line_is) (subst Q (sym kind_is) (subst T at (subst P same w.walked))),
      ),
    )
