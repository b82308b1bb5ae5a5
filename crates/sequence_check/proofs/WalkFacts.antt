-- A walk over numbers that takes a cite for each that needs one, number by number; and entries that are cited.
use Rattle.std.proofs.Common.{◌≡◌, ℕ, zero, suc, ◌+◌, ◌<◌, ◌≤◌, Bool, true, false, List, [], ◌∷◌, ◌++◌, length, take}
use Rattle.std.proofs.Common.{refl, sym, ap, ◌∙◌, subst, inl, inr, arith, Some, length-append}
use Rattle.std.specs.Prelude.{slice_get}
use Rattle.std.proofs.lemmas.Option.{slice_get_within, same_Some}
use Rattle.line_rules.proofs.ListFacts.{get_push_cases, get_taken, get_some}
use Rattle.sequence_values.specs.declared.types.SeqEntry.{SeqEntry}
use Rattle.sequence_rules.specs.Entries.{Answers, IsCited, Serves, IsServed, passing}
use Rattle.sequence_rules.proofs.LemmasHold.{passing_at}
pub use Rattle.sequence_rules.proofs.PassingNumbers.{passing_no, passing_yes, count_no, count_yes, left_more, none_left}
pub use Rattle.sequence_rules.proofs.PassingNumbers.{some_left, left_needs}
use Rattle.sequence_check.specs.Walks.{needed, CoversBelow, IsUncovered, Takes, Lacks}

-- where all numbers pass, they are as many as there are
pub passing_all : (n : ℕ) → length (passing (λ m. true) n) ≡ n
passing_all zero = refl
passing_all (suc n) =
    omega (arith, length-append (passing (λ m. true) n) (n ∷ []), passing_all n)

-- an entry that answers a state is one of those below k that answers it
pub cited_from : (charges : List ℕ) (es : List SeqEntry) (k cite : ℕ) (entry : SeqEntry)
    (rem rem' starts starts' : List ℕ)
    (need need' : ℕ)
    → cite < k → slice_get es cite ≡ Some entry → Answers charges entry rem' starts' need' → rem' ≡ rem
    → starts' ≡ starts
    → need' ≡ need → IsCited charges (take k es) cite rem starts need
cited_from charges es k cite entry rem rem' starts starts' need need' l g a r s n =
    let P : List ℕ → Type 0 = λ z. Answers charges entry z starts' need' in
    let Q : List ℕ → Type 0 = λ z. Answers charges entry rem z need' in
    let R : ℕ → Type 0 = λ z. Answers charges entry rem starts z in
    record {
      entry = entry;
      there = get_taken es k cite entry l g;
      answers = subst R n (subst Q s (subst P r a));
    }

-- the same of an entry that serves units
pub served_from : (es : List SeqEntry) (k cite units units' : ℕ) (starts starts' : List ℕ) (need need' : ℕ)
    → cite < k → IsServed es cite units' starts' need' → units' ≡ units → starts' ≡ starts → need' ≡ need
    → IsServed (take k es) cite units starts need
served_from es k cite units units' starts starts' need need' l s u b n =
    let P : ℕ → Type 0 = λ z. Serves s.entry z starts' need' in
    let Q : List ℕ → Type 0 = λ z. Serves s.entry units z need' in
    let R : ℕ → Type 0 = λ z. Serves s.entry units starts z in
    record {
      entry = s.entry;
      there = get_taken es k cite s.entry l s.there;
      serves = subst R n (subst Q b (subst P u s.serves));
    }

module _ (needs : ℕ → Bool) (Cited : ℕ → ℕ → Type 0) (cites : List ℕ) where
  -- the numbers below 0 are covered
  pub covers_none : CoversBelow needs Cited cites 0
  covers_none = record {
    enough = omega arith;
    cited = λ p m cite h g. absurd (cc);
  }

  -- a number that needs no cite
  pub covers_pass : (m : ℕ) → needs m ≡ false → CoversBelow needs Cited cites m → CoversBelow needs Cited cites (m + 1)
  covers_pass m e h =
      let Q : List ℕ → Type 0 = λ xs. (length xs ≤ length cites)
      × ((p n cite : ℕ) → slice_get xs p ≡ Some n → slice_get cites p ≡ Some cite → Cited n cite) in
      let q : Q (passing needs (m + 1)) = subst Q (sym (passing_no needs m e)) (h.enough, h.cited) in
      record { enough = q.0; cited = q.1 }

  -- a number that takes the next cite
  pub covers_take : (m cite : ℕ) → needs m ≡ true → slice_get cites (needed needs Cited cites m) ≡ Some cite
      → Cited m cite → CoversBelow needs Cited cites m → CoversBelow needs Cited cites (m + 1)
  covers_take m cite e there a h =
      let Q : List ℕ → Type 0 = λ xs. (length xs ≤ length cites)
      × ((p n x : ℕ) → slice_get xs p ≡ Some n → slice_get cites p ≡ Some x → Cited n x) in
      let more : Q (passing needs m ++ m ∷ []) = (
        omega (
          arith,
          length-append (passing needs m) (m ∷ []),
          slice_get_within cites (length (passing needs m)) cite there,
        ),
        λ p n x g c. elim (get_push_cases (passing needs m) m n p g) [
          | inl q ↦ h.cited p n x q.1 c
          | inr q ↦
              let same : cite ≡ x = same_Some cite x (sym there ∙ ap (λ k. slice_get cites k) (sym q.0) ∙ c) in
              let A : ℕ → Type 0 = λ z. Cited z x in
              let B : ℕ → Type 0 = λ z. Cited m z in
              subst A q.1 (subst B same a)
        ],
      ) in
      let q : Q (passing needs (m + 1)) = subst Q (sym (passing_yes needs m e)) more in
      record { enough = q.0; cited = q.1 }

  -- a number with the cites that are taken with it
  pub walk_takes : (m taken more : ℕ) → taken ≡ needed needs Cited cites m → Takes needs Cited cites m taken more
      → CoversBelow needs Cited cites m
      → CoversBelow needs Cited cites (m + 1) × (more ≡ needed needs Cited cites (m + 1))
  walk_takes m taken more n takes h = elim takes [
    | inl none ↦ (covers_pass m none.0 h, omega (arith, n, none.1, count_no needs m none.0))
    | inr some ↦
        let P : ℕ → Type 0 = λ k. slice_get cites k ≡ Some some.2 in (
          covers_take m some.2 some.0 (subst P n some.3.0) some.3.1 h,
          omega (arith, n, some.1, count_yes needs m some.0),
        )
  ]

  -- a number that lacks its cite is the first one that is uncovered
  pub walk_lacks : (m taken : ℕ) → taken ≡ needed needs Cited cites m → Lacks needs Cited cites m taken
      → CoversBelow needs Cited cites m → IsUncovered needs Cited cites m
  walk_lacks m taken n lacks h = record {
    needs = lacks.needs;
    before = h;
    fails = λ cite g. let P : ℕ → Type 0 = λ k. slice_get cites k ≡ Some cite in
        lacks.fails cite (subst P (sym n) g);
  }

  -- where all numbers below n are covered, none of them is uncovered
  pub not_uncovered : (n m : ℕ) → CoversBelow needs Cited cites n → m < n → IsUncovered needs Cited cites m → ⊥
  not_uncovered n m covers below un =
      let p : ℕ = length (passing needs m) in
      let there : slice_get (passing needs n) p ≡ Some m = passing_at needs n m below un.needs in
      let q : (x : ℕ) × (slice_get cites p ≡ Some x) = get_some cites p
      (omega (arith, covers.enough, slice_get_within (passing needs n) p m there)) in
      un.fails q.0 q.1 (covers.cited p m q.0 there q.1)
