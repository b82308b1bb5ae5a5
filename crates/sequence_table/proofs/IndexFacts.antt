-- An index is kept when starts come to the end, and a look by it passes over none that are the same.
use Rattle.std.proofs.Common.{◌≡◌, ◌≢◌, ◌∙◌, ℕ, suc, ◌+◌, ◌<◌, ◌≤◌, cond, nat_eq, get_or, List, [], ◌∷◌, ◌++◌, length}
use Rattle.std.proofs.Common.{length-append, Option, Some, None, refl, sym, ap, subst, inl, inr, arith}
use Rattle.std.proofs.Math.Path.{subst⁻¹}
use Rattle.std.specs.Prelude.{slice_get}
use Rattle.std.specs.HashMap.{get, Updates}
use Rattle.std.proofs.lemmas.Bool.{cases_eq, cases_lt, eq-eqb, ne_eqb}
use Rattle.std.proofs.lemmas.Option.{slice_get_read, same_Some}
use Rattle.line_rules.proofs.ListFacts.{get_push_cases}
use Rattle.sequence_table.specs.Index.{Numbered, key_of, IsMissing, IsLastPlace, IsLastOfKey, IsIndexed, IsLooking}
use Rattle.sequence_table.specs.Index.{left_of}

module _ (all : List (List ℕ)) (e : List ℕ) where
  -- what is known of places below a number stays known when one comes behind them
  lifted : (n key : ℕ) (o : Option ℕ) → n ≤ length all → IsLastOfKey all n key o
      → IsLastOfKey (all ++ e ∷ []) n key o
  lifted n key None few none = λ k x less there. elim (get_push_cases all e x k there) [
    | inl p ↦ none k x less p.1
    | inr p ↦ omega (arith, less, few, p.0)
  ]
  lifted n key (Some j) few last = (
    last.0,
    λ x there. elim (get_push_cases all e x j there) [
      | inl p ↦ last.1 x p.1
      | inr p ↦ absurd (omega (arith, last.0, few, p.0))
    ],
    λ k x more less there. elim (get_push_cases all e x k there) [
      | inl p ↦ last.2 k x more less p.1
      | inr p ↦ omega (arith, less, few, p.0)
    ],
  )

  -- one place more is among those that are looked at, of another number
  passed_over : (key : ℕ) (o : Option ℕ) → key_of e ≢ key → IsLastOfKey all (length all) key o
      → IsLastOfKey (all ++ e ∷ []) (length all + 1) key o
  passed_over key None other none = λ k x less there same. elim (get_push_cases all e x k there) [
    | inl p ↦ none k x p.0 p.1 same
    | inr p ↦ other (ap (λ (y : List ℕ). key_of y) p.1 ∙ same)
  ]
  passed_over key (Some j) other last = (
    omega (arith, last.0),
    λ x there. elim (get_push_cases all e x j there) [
      | inl p ↦ last.1 x p.1
      | inr p ↦ absurd (omega (arith, last.0, p.0))
    ],
    λ k x more less there same. elim (get_push_cases all e x k there) [
      | inl p ↦ last.2 k x more p.0 p.1 same
      | inr p ↦ other (ap (λ (y : List ℕ). key_of y) p.1 ∙ same)
    ],
  )

  -- it is the last one of its own number
  own_key : IsLastOfKey (all ++ e ∷ []) (length all + 1) (key_of e) (Some (length all))
  own_key = (
    omega arith,
    λ x there. elim (get_push_cases all e x (length all) there) [
      | inl p ↦ absurd (omega (arith, p.0))
      | inr p ↦ sym (ap (λ (y : List ℕ). key_of y) p.1)
    ],
    λ k x more less there same. omega (arith, more, less),
  )

  -- an index with that place
  pub indexed : (latest new : Numbered) (before : List (Option ℕ)) (old : Option ℕ) (number : ℕ)
      → IsIndexed latest before all
      → number ≡ length all → old ≡ get nat_eq latest (key_of e)
      → Updates nat_eq latest new (key_of e) (Some number)
      → IsIndexed new (before ++ old ∷ []) (all ++ e ∷ [])
  indexed latest new before old number index is_number is_old updates = record {
    long = omega (arith, index.long, length-append before (old ∷ []), length-append all (e ∷ []));
    last = λ key.
        let L : ℕ → Type 0 = λ n. IsLastOfKey (all ++ e ∷ []) n key (get nat_eq new key) in
        let more : length all + 1 ≡ length (all ++ e ∷ []) = omega (arith, length-append all (e ∷ [])) in
        subst L more (elim (cases_eq (key_of e) key) [
          | inl same ↦
              let found : get nat_eq new key ≡ Some (length all) =
              updates.0 key ∙ ap (λ b. cond b (Some number) (get nat_eq latest key)) (eq-eqb (key_of e) key same)
              ∙ ap Some is_number in
              let K : ℕ → Type 0 = λ k. IsLastOfKey (all ++ e ∷ []) (length all + 1) k (Some (length all)) in
              subst (IsLastOfKey (all ++ e ∷ []) (length all + 1) key) (sym found) (subst K same own_key)
          | inr other ↦
              let kept : get nat_eq new key ≡ get nat_eq latest key =
              updates.0 key ∙ ap (λ b. cond b (Some number) (get nat_eq latest key))
              (ne_eqb (key_of e) key other) in
              subst (IsLastOfKey (all ++ e ∷ []) (length all + 1) key) (sym kept)
              (passed_over key (get nat_eq latest key) other (index.last key))
        ]);
    chain = λ k x o there led. elim (get_push_cases all e x k there) [
      | inl p ↦ elim (get_push_cases before old o k led) [
        | inl q ↦ lifted k (key_of x) o (omega (arith, p.0)) (index.chain k x o p.1 q.1)
        | inr q ↦ absurd (omega (arith, p.0, q.0, index.long))
      ]
      | inr p ↦ elim (get_push_cases before old o k led) [
        | inl q ↦ absurd (omega (arith, p.0, q.0, index.long))
        | inr q ↦
            let E : List ℕ → Type 0 = λ y. IsLastOfKey (all ++ e ∷ []) k (key_of y) o in
            let O : Option ℕ → Type 0 = λ z. IsLastOfKey (all ++ e ∷ []) k (key_of e) z in
            let N : ℕ → Type 0 = λ n. IsLastOfKey (all ++ e ∷ []) n (key_of e) old in
            subst E p.1 (subst O q.1 (subst N (sym p.0)
            (lifted (length all) (key_of e) old (omega arith)
            (subst (IsLastOfKey all (length all) (key_of e)) (sym is_old) (index.last (key_of e))))))
      ]
    ];
  }

module _ (all : List (List ℕ)) (starts : List ℕ) where
  -- the last of the places below a number that has the key is looked at next, where none from that number on has the
  -- starts
  pub looking : (n : ℕ) (next : Option ℕ) → n ≤ length all → IsLastOfKey all n (key_of starts) next
      → ((k : ℕ) → n ≤ k → slice_get all k ≡ Some starts → ⊥) → IsLooking all starts next
  looking n None few none late = record {
    within = λ j is. absurd (let f : None ≡ Some j = is in cc);
    keyed = λ j e is there. absurd (let f : None ≡ Some j = is in cc);
    passed = λ k beyond there. elim (cases_lt k n) [
      | inl less ↦ none k starts less there refl
      | inr more ↦ late k more there
    ];
  }
  looking n (Some i) few last late = record {
    within = λ j is. omega (arith, last.0, few, same_Some i j is);
    keyed = λ j e is there. last.1 e (subst (λ k. slice_get all k ≡ Some e) (sym (same_Some i j is)) there);
    passed = λ k beyond there. elim (cases_lt k n) [
      | inl less ↦ last.2 k starts beyond less there refl
      | inr more ↦ late k more there
    ];
  }

  -- the place that is looked at has others: the one of its number before it is looked at next, and is one of fewer
  looks_on : (latest : Numbered) (before : List (Option ℕ)) (j : ℕ) (e : List ℕ) (o : Option ℕ)
      → IsIndexed latest before all
      → IsLooking all starts (Some j) → slice_get all j ≡ Some e → slice_get before j ≡ Some o
      → (e ≡ starts → ⊥) → IsLooking all starts o
  looks_on latest before j e o index look there led isnt =
      looking j o (omega (arith, look.within j refl))
      (subst (λ key. IsLastOfKey all j key o) (look.keyed j e refl there) (index.chain j e o there led))
      (λ k more here. elim (cases_eq k j) [
        | inl same ↦ isnt (same_Some e starts (sym there ∙ sym (ap (slice_get all) same) ∙ here))
        | inr other ↦ look.passed k (omega (arith, more, other)) here
      ])

  one_of_fewer : (latest : Numbered) (before : List (Option ℕ)) (j : ℕ) (e : List ℕ) (o : Option ℕ)
      → IsIndexed latest before all
      → slice_get all j ≡ Some e → slice_get before j ≡ Some o → left_of o < left_of (Some j)
  one_of_fewer latest before j e o index there led = below o (index.chain j e o there led)
    where
      below : (o : Option ℕ) → IsLastOfKey all j (key_of e) o → left_of o < suc j
      below None l = omega arith
      below (Some i) l = omega (arith, l.0)

  -- the place that is looked at has the starts, and is the last one
  last_place : (j : ℕ) (e : List ℕ) → IsLooking all starts (Some j) → slice_get all j ≡ Some e → e ≡ starts
      → IsLastPlace all starts j
  last_place j e look there is = record {
    within = look.within j refl;
    there = there ∙ ap Some is;
    last = λ k more here. look.passed k more here;
  }

  -- nothing is left to look at
  pub is_missing : IsLooking all starts None → IsMissing all starts
  is_missing look = λ k there. look.passed k tt there

-- A turn of a look in starts that are seen as a list: the place that is next.
module _ {all view : List (List ℕ)} {starts : List ℕ} {next : Option ℕ} {j : ℕ} {x : List ℕ}
    (same : all ≡ view) (look : IsLooking view starts next) (is : next ≡ Some j) (at : x ≡ get_or all j x) where
  here : IsLooking all starts (Some j)
  here =
      let L : Option ℕ → Type 0 = IsLooking all starts in
      subst L is (subst⁻¹ (λ (xs : List (List ℕ)). IsLooking xs starts next) same look)

  there : slice_get all j ≡ Some x
  there = slice_get_read all (length all) j x refl (here.within j refl) at

  -- it has the starts
  pub found_last : x ≡ starts → IsLastPlace view starts j
  found_last a =
      subst (λ (xs : List (List ℕ)). IsLastPlace xs starts j) same
      (last_place all starts j x here there a)

  module _ {latest : Numbered} {before : List (Option ℕ)} {o : Option ℕ} (index : IsIndexed latest before all)
      (led : o ≡ get_or before j o) where
    led_by : slice_get before j ≡ Some o
    led_by = slice_get_read before (length all) j o (sym index.long) (here.within j refl) led

    -- it has others: the last one of its number before it is next
    pub turns_on : (x ≡ starts → ⊥) → IsLooking view starts o
    turns_on isnt =
        subst (λ (xs : List (List ℕ)). IsLooking xs starts o) same
        (looks_on all starts latest before j x o index here there led_by isnt)

    -- and that is one of fewer
    pub turns_down : left_of o < left_of next
    turns_down =
        subst⁻¹ (λ (n : Option ℕ). left_of o < left_of n) is
        (one_of_fewer all starts latest before j x o index there led_by)
