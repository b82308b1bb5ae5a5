-- What walks side by side found, as a list.
use Rattle.std.proofs.Common.{◌≡◌, ℕ, ◌+◌, List, sym, ◌∙◌, refl, subst, arith, Option, Some, None}
use Rattle.std.proofs.lemmas.List.FromFn.{length-range_with_len, get_or-range_with_len}
use Rattle.std.proofs.lemmas.Option.{slice_get_within, get_or_from_slice_get}
use Rattle.std.proofs.lemmas.Slice.Zip.{AllZip-right}
use Rattle.std.specs.Prelude.{slice_get, IfSome, MatchOption}
use Rattle.std.specs.Option.{IsSomeAnd}
use Rattle.std.specs.List.{AllZip, range_with_len}
use Rattle.line_instance.specs.Line.{Line}
use Rattle.line_rules.specs.declared.types.LineKind.{LineKind}
use Rattle.line_rules.specs.declared.types.Entry.{Entry}
use Rattle.warm_book.specs.inner.Walked.{IsWalkedAt, AreWalked}

module _ (kind : LineKind) (line : Line) (olds : List Entry) (from many : ℕ) where
  at_place : (j units : ℕ) (o : Option ℕ) → slice_get (range_with_len from many) j ≡ o
      → IsSomeAnd o (λ k. IsWalkedAt kind line olds k units) → IsWalkedAt kind line olds (from + j) units
  at_place j units None is h = absurd h
  at_place j units (Some k) is h =
      let within = slice_get_within (range_with_len from many) j k is in
      let at : k ≡ from + j =
      sym (get_or_from_slice_get (range_with_len from many) j k 0 is)
      ∙ get_or-range_with_len from many j 0 (omega (arith, within, length-range_with_len from many)) in
      let P : ℕ → Type 0 = λ z. IsWalkedAt kind line olds z units in
      subst P at h

  pub walked_range : (places : List ℕ) (ws vs : List (Option ℕ)) → vs ≡ ws → places ≡ range_with_len from many
      → AllZip (λ k w. IfSome w (IsWalkedAt kind line olds k)) places ws → AreWalked kind line olds from vs
  walked_range places ws vs same range z =
      let R : ℕ → Option ℕ → Type 0 = λ k w. IfSome w (IsWalkedAt kind line olds k) in
      let Z : List ℕ → Type 0 = λ p. AllZip R p ws in
      let zipped : AllZip R (range_with_len from many) ws = subst Z range z in
      let V : List (Option ℕ) → Type 0 = λ l. AreWalked kind line olds from l in
      subst V (sym same) (record {
        each = λ j units g.
            let M : Option (Option ℕ) → Type 0 =
            λ o. MatchOption o (Unit {0}) (λ w. IsSomeAnd (slice_get (range_with_len from many) j) (λ k. R k w)) in
            at_place j units (slice_get (range_with_len from many) j) refl
            (subst M g (AllZip-right R (range_with_len from many) ws zipped j));
      })
