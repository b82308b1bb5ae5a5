-- An index is kept when an entry comes to the end, and a look by it passes over no entry that answers.
use Rattle.std.proofs.Common.{◌≡◌, ◌≢◌, ◌∙◌, ℕ, suc, ◌+◌, ◌<◌, ◌≤◌, cond, nat_eq, get_or, List, [], ◌∷◌, ◌++◌, length}
use Rattle.std.proofs.Common.{length-append, Option, Some, None, refl, sym, ap, subst, inl, inr, arith}
use Rattle.std.proofs.Math.Path.{subst⁻¹}
use Rattle.std.specs.Prelude.{slice_get}
use Rattle.std.specs.HashMap.{get, Updates}
use Rattle.std.proofs.lemmas.Bool.{cases_eq, cases_lt, eq-eqb, ne_eqb}
use Rattle.std.proofs.lemmas.Option.{slice_get_read, same_Some}
use Rattle.line_rules.proofs.ListFacts.{get_push_cases}
use Rattle.sequence_rules.specs.Entries.{AnswersPlainly}
use Rattle.sequence_values.specs.declared.types.SeqEntry.{SeqEntry}
use Rattle.sequence_search.specs.Index.{Numbered, key_of, IsLastOfKey, IsIndexed, IsLooking, left_of}
use Rattle.sequence_search.specs.Steps.{HasPlainAnswer, IsLastAnswer}

module _ (es : List SeqEntry) (e : SeqEntry) where
  -- what is known of entries below a number stays known when one comes behind them
  lifted : (n key : ℕ) (o : Option ℕ) → n ≤ length es → IsLastOfKey es n key o → IsLastOfKey (es ++ e ∷ []) n key o
  lifted n key None few none = λ k x less there. elim (get_push_cases es e x k there) [
    | inl p ↦ none k x less p.1
    | inr p ↦ omega (arith, less, few, p.0)
  ]
  lifted n key (Some j) few last = (
    last.0,
    λ x there. elim (get_push_cases es e x j there) [
      | inl p ↦ last.1 x p.1
      | inr p ↦ absurd (omega (arith, last.0, few, p.0))
    ],
    λ k x more less there. elim (get_push_cases es e x k there) [
      | inl p ↦ last.2 k x more less p.1
      | inr p ↦ omega (arith, less, few, p.0)
    ],
  )

  -- one entry more is among those that are looked at, of another key
  passed_over : (key : ℕ) (o : Option ℕ) → key_of e.rem ≢ key → IsLastOfKey es (length es) key o
      → IsLastOfKey (es ++ e ∷ []) (length es + 1) key o
  passed_over key None other none = λ k x less there same. elim (get_push_cases es e x k there) [
    | inl p ↦ none k x p.0 p.1 same
    | inr p ↦ other (ap (λ (y : SeqEntry). key_of y.rem) p.1 ∙ same)
  ]
  passed_over key (Some j) other last = (
    omega (arith, last.0),
    λ x there. elim (get_push_cases es e x j there) [
      | inl p ↦ last.1 x p.1
      | inr p ↦ absurd (omega (arith, last.0, p.0))
    ],
    λ k x more less there same. elim (get_push_cases es e x k there) [
      | inl p ↦ last.2 k x more p.0 p.1 same
      | inr p ↦ other (ap (λ (y : SeqEntry). key_of y.rem) p.1 ∙ same)
    ],
  )

  -- it is the last one of its own key
  own_key : IsLastOfKey (es ++ e ∷ []) (length es + 1) (key_of e.rem) (Some (length es))
  own_key = (
    omega arith,
    λ x there. elim (get_push_cases es e x (length es) there) [
      | inl p ↦ absurd (omega (arith, p.0))
      | inr p ↦ sym (ap (λ (y : SeqEntry). key_of y.rem) p.1)
    ],
    λ k x more less there same. omega (arith, more, less),
  )

  -- an index with that entry
  pub indexed : (latest new : Numbered) (before : List (Option ℕ)) (old : Option ℕ) (number : ℕ)
      → IsIndexed latest before es
      → number ≡ length es → old ≡ get nat_eq latest (key_of e.rem)
      → Updates nat_eq latest new (key_of e.rem) (Some number)
      → IsIndexed new (before ++ old ∷ []) (es ++ e ∷ [])
  indexed latest new before old number index is_number is_old updates = record {
    long = omega (arith, index.long, length-append before (old ∷ []), length-append es (e ∷ []));
    last = λ key.
        let L : ℕ → Type 0 = λ n. IsLastOfKey (es ++ e ∷ []) n key (get nat_eq new key) in
        let more : length es + 1 ≡ length (es ++ e ∷ []) = omega (arith, length-append es (e ∷ [])) in
        subst L more (elim (cases_eq (key_of e.rem) key) [
          | inl same ↦
              let found : get nat_eq new key ≡ Some (length es) =
              updates.0 key ∙ ap (λ b. cond b (Some number) (get nat_eq latest key)) (eq-eqb (key_of e.rem) key same)
              ∙ ap Some is_number in
              let K : ℕ → Type 0 = λ k. IsLastOfKey (es ++ e ∷ []) (length es + 1) k (Some (length es)) in
              subst (IsLastOfKey (es ++ e ∷ []) (length es + 1) key) (sym found) (subst K same own_key)
          | inr other ↦
              let kept : get nat_eq new key ≡ get nat_eq latest key =
              updates.0 key ∙ ap (λ b. cond b (Some number) (get nat_eq latest key))
              (ne_eqb (key_of e.rem) key other) in
              subst (IsLastOfKey (es ++ e ∷ []) (length es + 1) key) (sym kept)
              (passed_over key (get nat_eq latest key) other (index.last key))
        ]);
    chain = λ k x o there led. elim (get_push_cases es e x k there) [
      | inl p ↦ elim (get_push_cases before old o k led) [
        | inl q ↦ lifted k (key_of x.rem) o (omega (arith, p.0)) (index.chain k x o p.1 q.1)
        | inr q ↦ absurd (omega (arith, p.0, q.0, index.long))
      ]
      | inr p ↦ elim (get_push_cases before old o k led) [
        | inl q ↦ absurd (omega (arith, p.0, q.0, index.long))
        | inr q ↦
            let E : SeqEntry → Type 0 = λ y. IsLastOfKey (es ++ e ∷ []) k (key_of y.rem) o in
            let O : Option ℕ → Type 0 = λ z. IsLastOfKey (es ++ e ∷ []) k (key_of e.rem) z in
            let N : ℕ → Type 0 = λ n. IsLastOfKey (es ++ e ∷ []) n (key_of e.rem) old in
            subst E p.1 (subst O q.1 (subst N (sym p.0)
            (lifted (length es) (key_of e.rem) old (omega arith)
            (subst (IsLastOfKey es (length es) (key_of e.rem)) (sym is_old) (index.last (key_of e.rem))))))
      ]
    ];
  }

module _ (es : List SeqEntry) (rem starts : List ℕ) (need : ℕ) where
  -- an entry of another key doesn't answer
  of_key : (e : SeqEntry) → AnswersPlainly e rem starts need → key_of e.rem ≡ key_of rem
  of_key e a = ap key_of a.answers.same

  -- the last of the entries below a number that has the key is looked at next, where none from that number on answers
  pub looking : (n : ℕ) (next : Option ℕ) → n ≤ length es → IsLastOfKey es n (key_of rem) next
      → ((k : ℕ) (e : SeqEntry) → n ≤ k → slice_get es k ≡ Some e → AnswersPlainly e rem starts need → ⊥)
      → IsLooking es rem starts need next
  looking n None few none late = record {
    within = λ j is. absurd (let f : None ≡ Some j = is in cc);
    keyed = λ j e is there. absurd (let f : None ≡ Some j = is in cc);
    passed = λ k e beyond there a. elim (cases_lt k n) [
      | inl less ↦ none k e less there (of_key e a)
      | inr more ↦ late k e more there a
    ];
  }
  looking n (Some i) few last late = record {
    within = λ j is. omega (arith, last.0, few, same_Some i j is);
    keyed = λ j e is there. last.1 e (subst (λ k. slice_get es k ≡ Some e) (sym (same_Some i j is)) there);
    passed = λ k e beyond there a. elim (cases_lt k n) [
      | inl less ↦ last.2 k e beyond less there (of_key e a)
      | inr more ↦ late k e more there a
    ];
  }

  -- the entry that is looked at doesn't answer: the one of its key before it is looked at next, and is one of fewer
  looks_on : (latest : Numbered) (before : List (Option ℕ)) (j : ℕ) (e : SeqEntry) (o : Option ℕ)
      → IsIndexed latest before es
      → IsLooking es rem starts need (Some j) → slice_get es j ≡ Some e → slice_get before j ≡ Some o
      → (AnswersPlainly e rem starts need → ⊥) → IsLooking es rem starts need o
  looks_on latest before j e o index look there led isnt =
      looking j o (omega (arith, look.within j refl))
      (subst (λ key. IsLastOfKey es j key o) (look.keyed j e refl there) (index.chain j e o there led))
      (λ k x more here a. elim (cases_eq k j) [
        | inl same ↦
            let is : x ≡ e = same_Some x e (sym here ∙ ap (slice_get es) same ∙ there) in
            isnt (subst (λ y. AnswersPlainly y rem starts need) is a)
        | inr other ↦ look.passed k x (omega (arith, more, other)) here a
      ])

  one_of_fewer : (latest : Numbered) (before : List (Option ℕ)) (j : ℕ) (e : SeqEntry) (o : Option ℕ)
      → IsIndexed latest before es
      → slice_get es j ≡ Some e → slice_get before j ≡ Some o → left_of o < left_of (Some j)
  one_of_fewer latest before j e o index there led = below o (index.chain j e o there led)
    where
      below : (o : Option ℕ) → IsLastOfKey es j (key_of e.rem) o → left_of o < suc j
      below None l = omega arith
      below (Some i) l = omega (arith, l.0)

  -- the entry that is looked at answers, and is the last one
  answers_last : (j : ℕ) (e : SeqEntry) → IsLooking es rem starts need (Some j) → slice_get es j ≡ Some e
      → AnswersPlainly e rem starts need → IsLastAnswer es rem starts need j
  answers_last j e look there a = record {
    cited = record { entry = e; there = there; answers = a };
    last = λ k x more here. look.passed k x more here;
  }

  -- nothing is left to look at
  pub none_answers : IsLooking es rem starts need None → HasPlainAnswer es rem starts need → ⊥
  none_answers look h = look.passed h.0 h.1.entry tt h.1.there h.1.answers

-- A turn of a look in a book that is seen as its entries: the entry of the number that is next.
module _ {es view : List SeqEntry} {rem starts : List ℕ} {need : ℕ} {next : Option ℕ} {j : ℕ} {x : SeqEntry}
    (same : es ≡ view) (look : IsLooking view rem starts need next) (is : next ≡ Some j) (at : x ≡ get_or es j x) where
  here : IsLooking es rem starts need (Some j)
  here =
      let L : Option ℕ → Type 0 = IsLooking es rem starts need in
      subst L is (subst⁻¹ (λ (xs : List SeqEntry). IsLooking xs rem starts need next) same look)

  there : slice_get es j ≡ Some x
  there = slice_get_read es (length es) j x refl (here.within j refl) at

  -- it answers
  pub found_last : AnswersPlainly x rem starts need → IsLastAnswer view rem starts need j
  found_last a =
      subst (λ (xs : List SeqEntry). IsLastAnswer xs rem starts need j) same
      (answers_last es rem starts need j x here there a)

  module _ {latest : Numbered} {before : List (Option ℕ)} {o : Option ℕ} (index : IsIndexed latest before es)
      (led : o ≡ get_or before j o) where
    led_by : slice_get before j ≡ Some o
    led_by = slice_get_read before (length es) j o (sym index.long) (here.within j refl) led

    -- it doesn't answer: the last one of its key before it is next
    pub turns_on : (AnswersPlainly x rem starts need → ⊥) → IsLooking view rem starts need o
    turns_on isnt =
        subst (λ (xs : List SeqEntry). IsLooking xs rem starts need o) same
        (looks_on es rem starts need latest before j x o index here there led_by isnt)

    -- and that is one of fewer
    pub turns_down : left_of o < left_of next
    turns_down =
        subst⁻¹ (λ (n : Option ℕ). left_of o < left_of n) is
        (one_of_fewer es rem starts need latest before j x o index there led_by)
