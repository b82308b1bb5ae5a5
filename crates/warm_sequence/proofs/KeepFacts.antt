-- Old entries that are taken one after the other, and what holds of the kept ones.
use Rattle.std.proofs.Common.{◌≡◌, ℕ, suc, ◌+◌, ◌-◌, ◌<◌, List, [], ◌∷◌, ◌++◌, length, take, refl, sym, ap, ◌∙◌, subst}
use Rattle.std.proofs.Common.{inl, inr, arith, Some, None, length-append}
use Rattle.std.specs.Prelude.{slice_get}
use Rattle.std.proofs.Math.Seq.{take-append_seam}
use Rattle.std.proofs.lemmas.List.{take-append-le}
use Rattle.std.proofs.lemmas.List.Sums.{sum_by_push}
use Rattle.std.proofs.lemmas.Option.{same_Some, none-some}
use Rattle.line_rules.proofs.ListFacts.{get_push_cases, take_next}
use Rattle.sequence_values.specs.declared.types.Times.{Times}
use Rattle.sequence_values.specs.declared.types.SeqEntry.{SeqEntry}
use Rattle.sequence_rules.specs.Entries.{Follows, IsDerived, entry_units}
use Rattle.warm_sequence.specs.Warm.{Taking, IsKept, Takes, TakesAll, keeping, dropping, untaken, renumbered}
use Rattle.warm_sequence.specs.inner.Keeping.{IsOfMix, AreOfMix, IsSound}

module _ (t : Times) (interval reach : ℕ) (charges : List ℕ) (room : ℕ) where
  -- an entry that doesn't follow, or has more units than are left, isn't kept
  pub fails_so : (k : Taking) (old found : SeqEntry) → renumbered k.numbers old ≡ Some found
      → (Follows t interval reach charges k.kept found → ⊥) → (new : SeqEntry)
      → IsKept t interval reach charges room k old new → ⊥
  fails_so k old found is not new h =
      let P : SeqEntry → Type 0 = λ z. Follows t interval reach charges k.kept z in
      not (subst P (same_Some new found (sym h.cites ∙ is)) h.follows)

  pub ends_so : (k : Taking) (old found : SeqEntry) (units steps : ℕ) → renumbered k.numbers old ≡ Some found
      → IsSound t interval reach charges room k units → steps ≡ room - units
      → (Follows t interval reach charges k.kept found → steps < entry_units charges found) → (new : SeqEntry)
      → IsKept t interval reach charges room k old new → ⊥
  ends_so k old found units steps is sound left more new h =
      let s : new ≡ found = same_Some new found (sym h.cites ∙ is) in
      let P : SeqEntry → Type 0 = λ z. Follows t interval reach charges k.kept z in
      omega (
        arith,
        h.sum,
        left,
        sound.total,
        ap (λ (z : SeqEntry). entry_units charges z) s,
        more (subst P s h.follows),
      )

  -- one old entry more was taken
  takes_one : (k : Taking) (olds : List SeqEntry) (mid end : Taking) (old : SeqEntry)
      → TakesAll t interval reach charges room k olds mid → Takes t interval reach charges room mid old end
      → TakesAll t interval reach charges room k (olds ++ old ∷ []) end
  takes_one k [] mid end old h s =
      let P : Taking → Type 0 = λ z. Takes t interval reach charges room z old end in
      (end, (subst P (sym h) s, refl))
  takes_one k (x ∷ xs) mid end old h s = (h.0, (h.1.0, takes_one h.0 xs mid end old h.1.1 s))

  pub takes_next : (k : Taking) (olds : List SeqEntry) (n : ℕ) (mid end : Taking) (old : SeqEntry)
      → slice_get olds n ≡ Some old → TakesAll t interval reach charges room k (take n olds) mid
      → Takes t interval reach charges room mid old end
      → TakesAll t interval reach charges room k (take (n + 1) olds) end
  takes_next k olds n mid end old there h s =
      let e : suc n ≡ n + 1 = omega arith in
      let P : List SeqEntry → Type 0 = λ z. TakesAll t interval reach charges room k z end in
      let Q : ℕ → Type 0 = λ z. TakesAll t interval reach charges room k (take z olds) end in
      subst Q e (subst P (sym (take_next olds n old there)) (takes_one k (take n olds) mid end old h s))

  -- a derived list with one entry more that follows
  derived_push : (es : List SeqEntry) (e : SeqEntry) → IsDerived t interval reach charges es
      → Follows t interval reach charges es e → IsDerived t interval reach charges (es ++ e ∷ [])
  derived_push es e d f j x g = elim (get_push_cases es e x j g) [
    | inl p ↦
        let P : List SeqEntry → Type 0 = λ z. Follows t interval reach charges z x in
        subst P (sym (take-append-le j es (e ∷ []) (omega (arith, p.0)))) (d j x p.1)
    | inr q ↦
        let P : List SeqEntry → Type 0 = λ z. Follows t interval reach charges z e in
        let Q : ℕ → Type 0 = λ z. Follows t interval reach charges (take z (es ++ e ∷ [])) e in
        let R : SeqEntry → Type 0 = λ z. Follows t interval reach charges (take j (es ++ e ∷ [])) z in
        subst R q.1 (subst Q (sym q.0) (subst P (sym (take-append_seam es (e ∷ []))) f))
  ]

  range_push : (es : List SeqEntry) (e : SeqEntry) → AreOfMix t charges es → IsOfMix t charges e
      → AreOfMix t charges (es ++ e ∷ [])
  range_push es e d f j x g = elim (get_push_cases es e x j g) [
    | inl p ↦ d j x p.1
    | inr q ↦ let R : SeqEntry → Type 0 = λ z. IsOfMix t charges z in subst R q.1 f
  ]

  pub untaken_sound : IsSound t interval reach charges room untaken 0
  untaken_sound = record {
    derived = λ k e g. absurd (cc);
    range = λ k e g. absurd (cc);
    few = omega arith;
    total = refl;
    paid = omega arith;
    numbered = λ j n g. absurd (cc);
  }

  pub kept_sound : (k : Taking) (units : ℕ) (old new : SeqEntry) → IsSound t interval reach charges room k units
      → IsKept t interval reach charges room k old new → IsOfMix t charges new
      → IsSound t interval reach charges room (keeping k new) (units + entry_units charges new)
  kept_sound k units old new s h range = record {
    derived = derived_push k.kept new s.derived h.follows;
    range = range_push k.kept new s.range range;
    few = omega (arith, length-append k.kept (new ∷ []), h.count);
    total = omega (arith, s.total, sum_by_push (entry_units charges) k.kept new);
    paid = omega (arith, s.total, h.sum);
    numbered = λ j n g. elim (get_push_cases k.numbers (Some (length k.kept)) (Some n) j g) [
      | inl p ↦ omega (arith, s.numbered j n p.1, length-append k.kept (new ∷ []))
      | inr q ↦ omega (arith, same_Some (length k.kept) n q.1, length-append k.kept (new ∷ []))
    ];
  }

  pub dropped_sound : (k : Taking) (units : ℕ) → IsSound t interval reach charges room k units
      → IsSound t interval reach charges room (dropping k) units
  dropped_sound k units s = record {
    derived = s.derived;
    range = s.range;
    few = s.few;
    total = s.total;
    paid = s.paid;
    numbered = λ j n g. elim (get_push_cases k.numbers None (Some n) j g) [
      | inl p ↦ s.numbered j n p.1
      | inr q ↦ absurd (none-some n q.1)
    ];
  }
