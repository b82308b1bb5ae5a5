-- Old entries are kept in one way.
use Rattle.std.proofs.Common.{◌≡◌, ℕ, List, [], ◌∷◌, sym, ap, ◌∙◌, subst, inl, inr}
use Rattle.std.proofs.lemmas.Option.{same_Some}
use Rattle.sequence_values.specs.declared.types.Times.{Times}
use Rattle.sequence_values.specs.declared.types.SeqEntry.{SeqEntry}
use Rattle.warm_sequence.specs.Warm.{Taking, IsKept, Takes, TakesAll, AreKept, keeping, untaken}

module _ (t : Times) (interval reach : ℕ) (charges : List ℕ) (room : ℕ) where
  kept_once : (k : Taking) (old a b : SeqEntry) → IsKept t interval reach charges room k old a
      → IsKept t interval reach charges room k old b → keeping k a ≡ keeping k b
  kept_once k old a b x y = ap (λ (z : SeqEntry). keeping k z) (same_Some a b (sym x.cites ∙ y.cites))

  taken_once : (k : Taking) (old : SeqEntry) (a b : Taking) → Takes t interval reach charges room k old a
      → Takes t interval reach charges room k old b → a ≡ b
  taken_once k old a b (inl x) (inl y) = x.1.1 ∙ (kept_once k old x.0 y.0 x.1.0 y.1.0 ∙ sym y.1.1)
  taken_once k old a b (inl x) (inr d) = absurd (d.0 x.0 x.1.0)
  taken_once k old a b (inr d) (inl x) = absurd (d.0 x.0 x.1.0)
  taken_once k old a b (inr d) (inr e) = d.1 ∙ sym e.1

  all_once : (k : Taking) (olds : List SeqEntry) (a b : Taking) → TakesAll t interval reach charges room k olds a
      → TakesAll t interval reach charges room k olds b → a ≡ b
  all_once k [] a b h g = sym h ∙ g
  all_once k (old ∷ olds) a b h g =
      let P : Taking → Type 0 = λ z. TakesAll t interval reach charges room z olds a in
      all_once g.0 olds a b (subst P (taken_once k old h.0 g.0 h.1.0 g.1.0) h.1.1) g.1.1

  -- whoever goes over the old entries keeps the same ones
  pub one_kept : (olds es others : List SeqEntry) → AreKept t interval reach charges room olds es
      → AreKept t interval reach charges room olds others → others ≡ es
  one_kept olds es others h g =
      sym g.1.1
      ∙ (ap (λ (z : Taking). z.kept) (all_once untaken olds g.0 h.0 g.1.0 h.1.0) ∙ h.1.1)
