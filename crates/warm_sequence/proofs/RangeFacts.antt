-- What is renumbered stays within the ranges of a certificate.
use Rattle.std.proofs.Common.{◌≡◌, ℕ, zero, suc, ◌<◌, List, [], ◌∷◌, length, get_or, refl, ap, subst, arith}
use Rattle.std.proofs.Common.{Option, Some, None}
use Rattle.std.specs.Prelude.{slice_get, All}
use Rattle.std.proofs.lemmas.Option.{same_Some, none-some}
use Rattle.sequence_values.specs.declared.types.Times.{Times}
use Rattle.sequence_values.specs.declared.types.SeqEntry.{SeqEntry}
use Rattle.sequence_values.specs.declared.types.SeqWhy.{SeqWhy}
use Rattle.sequence_values.specs.declared.types.SeqWhy.TheVariants as why
use Rattle.sequence_rules.specs.Ranges.{IsState, IsNumber, numbers_by}
use Rattle.warm_sequence.specs.Warm.{number_at, new_number, with_number, renumbered_cites, by_branch, by_charge}
use Rattle.warm_sequence.specs.Warm.{with_why, renumbered_why, renumbered}
use Rattle.warm_sequence.specs.inner.Keeping.{IsOfMix}

-- a number before others that are in range
cons_in_range : (n : ℕ) (ns : List ℕ) → IsNumber n → All IsNumber ns → (k d : ℕ) → k < length (n ∷ ns)
    → IsNumber (get_or (n ∷ ns) k d)
cons_in_range n ns h g zero d l = h
cons_in_range n ns h g (suc k) d l = g k d (omega (arith, l))

number_there : (o : Option (Option ℕ)) (n : ℕ) → number_at o ≡ Some n → o ≡ Some (Some n)
number_there None n e = absurd (cc)
number_there (Some x) n e = ap (λ (z : Option ℕ). Some z) e

module _ (numbers : List (Option ℕ)) (low : (j n : ℕ) → slice_get numbers j ≡ Some (Some n) → IsNumber n) where
  both : (o : Option ℕ) (p : Option (List ℕ)) (ns : List ℕ) → with_number o p ≡ Some ns
      → ((n : ℕ) → o ≡ Some n → IsNumber n) → ((ms : List ℕ) → p ≡ Some ms → All IsNumber ms) → All IsNumber ns
  both None p ns e h g = absurd (none-some ns e)
  both (Some n) None ns e h g = absurd (none-some ns e)
  both (Some n) (Some ms) ns e h g =
      let P : List ℕ → Type 0 = λ z. All IsNumber z in
      subst P (same_Some (n ∷ ms) ns e) (cons_in_range n ms (h n refl) (g ms refl))

  -- new numbers of cites are in range
  cites_in_range : (cites ns : List ℕ) → renumbered_cites numbers cites ≡ Some ns → All IsNumber ns
  cites_in_range [] ns e =
      let P : List ℕ → Type 0 = λ z. All IsNumber z in
      subst P (same_Some [] ns e) (λ k d l. absurd (omega (arith, l)))
  cites_in_range (cite ∷ cites) ns e =
      both (new_number numbers cite) (renumbered_cites numbers cites) ns e
      (λ n is. low cite n (number_there (slice_get numbers cite) n is)) (cites_in_range cites)

  module _ (t : Times) (charges : List ℕ) (old new : SeqEntry) where
    branch_of_mix : (o : Option (List ℕ)) → ((ns : List ℕ) → o ≡ Some ns → All IsNumber ns)
        → IsState (length t.demands) t.stations old.rem old.starts → IsNumber old.least
        → with_why old (by_branch o) ≡ Some new → IsOfMix t charges new
    branch_of_mix None h state least e = absurd (none-some new e)
    branch_of_mix (Some ns) h state least e =
        let P : SeqEntry → Type 0 = λ z. IsOfMix t charges z in
        subst P (same_Some _ new e) (record { state = state; least = least; why = h ns refl })

    charge_of_mix : (o : Option (List ℕ)) → ((ns : List ℕ) → o ≡ Some ns → All IsNumber ns)
        → IsState 1 t.stations old.rem old.starts → IsNumber old.least
        → with_why old (by_charge o) ≡ Some new → IsOfMix t charges new
    charge_of_mix None h state least e = absurd (none-some new e)
    charge_of_mix (Some ns) h state least e =
        let P : SeqEntry → Type 0 = λ z. IsOfMix t charges z in
        subst P (same_Some _ new e) (record { state = state; least = least; why = (tt, h ns refl) })

    by_reason : (w : SeqWhy) → IsState (numbers_by (length t.demands) w) t.stations old.rem old.starts
        → IsNumber old.least
        → with_why old (renumbered_why numbers w) ≡ Some new → IsOfMix t charges new
    by_reason why.Bound state least e =
        let P : SeqEntry → Type 0 = λ z. IsOfMix t charges z in
        subst P (same_Some _ new e) (record { state = state; least = least; why = tt })
    by_reason (why.Branch cites) state least e =
        branch_of_mix (renumbered_cites numbers cites) (cites_in_range cites) state least e
    by_reason (why.Charge cites) state least e =
        charge_of_mix (renumbered_cites numbers cites) (cites_in_range cites) state least e

    -- an entry of the mix stays one
    pub renumbered_of_mix : IsOfMix t charges old → renumbered numbers old ≡ Some new → IsOfMix t charges new
    renumbered_of_mix h e = by_reason old.why h.state h.least e
