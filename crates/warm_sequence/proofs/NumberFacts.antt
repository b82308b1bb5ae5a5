-- Cites that are renumbered one after the other.
use Rattle.std.proofs.Common.{◌≡◌, ℕ, suc, ◌<◌, List, [], ◌∷◌, ◌++◌, length, drop, refl, sym, ap, ◌∙◌, append_assoc}
use Rattle.std.proofs.Common.{Option, Some, None, get_or}
use Rattle.std.proofs.Math.Seq.{drop-cons}
use Rattle.warm_sequence.specs.Warm.{new_number, with_number, renumbered_cites}

-- cites that were made before others
abbrev pub behind : List ℕ → Option (List ℕ) → Option (List ℕ)
behind made None = None
behind made (Some ns) = Some (made ++ ns)

pub behind_none : (o : Option (List ℕ)) → o ≡ behind [] o
behind_none None = refl
behind_none (Some ns) = refl

behind_one : (made : List ℕ) (n : ℕ) (o : Option (List ℕ)) → behind made (with_number (Some n) o)
    ≡ behind (made ++ n ∷ []) o
behind_one made n None = refl
behind_one made n (Some ns) = ap (λ (z : List ℕ). Some z) (sym (append_assoc made (n ∷ []) ns))

module _ (numbers : List (Option ℕ)) (cites : List ℕ) (made : List ℕ) (k : ℕ)
    (so_far : renumbered_cites numbers cites ≡ behind made (renumbered_cites numbers (drop k cites)))
    (within : k < length cites) where
  first : renumbered_cites numbers (drop k cites)
      ≡ with_number (new_number numbers (get_or cites k 0)) (renumbered_cites numbers (drop (suc k) cites))
  first = ap (λ (z : List ℕ). renumbered_cites numbers z) (drop-cons cites k 0 within)

  -- one cite more
  pub more : (n : ℕ) → new_number numbers (get_or cites k 0) ≡ Some n
      → renumbered_cites numbers cites ≡ behind (made ++ n ∷ []) (renumbered_cites numbers (drop (suc k) cites))
  more n is =
      so_far
      ∙ (ap (λ (z : Option (List ℕ)). behind made z) (first
      ∙ ap (λ (z : Option ℕ). with_number z (renumbered_cites numbers (drop (suc k) cites))) is)
      ∙ behind_one made n (renumbered_cites numbers (drop (suc k) cites)))

  -- a cite of what wasn't kept
  pub none : new_number numbers (get_or cites k 0) ≡ None → renumbered_cites numbers cites ≡ None
  none is =
      so_far
      ∙ ap (λ (z : Option (List ℕ)). behind made z) (first
      ∙ ap (λ (z : Option ℕ). with_number z (renumbered_cites numbers (drop (suc k) cites))) is)
