-- The place of a load among those of its set: up to the last, or after it.
use Rattle.std.proofs.Common.{◌≡◌, ℕ, Bool, List, refl, sym, subst, ◌⊎◌, inl, inr, Option, Some, None}
use Rattle.line_instance.specs.Line.{Line, IsRanked}
use Rattle.line_rules.specs.Loads.{IsLoad}
use Rattle.line_rules.specs.Order.{Precedes, UpTo, After}
use Rattle.line_rules.specs.declared.types.Mode.{Mode}
use Rattle.line_rules.specs.declared.types.Load.{Load}
use Rattle.line_rules.proofs.Compare.{compare, same_load}
use Rattle.line_rules.proofs.Unique.{precedes_trans}

module _ (line : Line) (ranked : IsRanked line) (c : ℕ) (mode : Mode) (R : List Bool) where
  -- of two loads, one is the other, or one precedes the other
  pub three_ways : (a b : Load) → IsLoad line c mode R a → IsLoad line c mode R b
      → (a ≡ b) ⊎ (Precedes line a b ⊎ Precedes line b a)
  three_ways a b f g = elim (compare line a b) [
    | inl same ↦ inl (same_load line ranked c mode R a b f g same)
    | inr order ↦ inr order
  ]

  -- each load is up to the last or after it
  pub either_side : (last : Option Load) (IsLast : (a : Load) → last ≡ Some a → IsLoad line c mode R a) (l : Load)
      → IsLoad line c mode R l → UpTo line last l ⊎ After line last l
  either_side None f l g = inr tt
  either_side (Some a) f l g = elim (three_ways l a g (f a refl)) [
    | inl e ↦ inl (inl e)
    | inr order ↦ elim order [ inl down ↦ inl (inr down) | inr up ↦ inr up ]
  ]

pub up_to_after : (line : Line) (last : Option Load) (a b : Load) → UpTo line last a → After line last b
    → Precedes line a b
up_to_after line None a b u f = absurd u
up_to_after line (Some l) a b (inl e) f = let P : Load → Type 0 = λ z. Precedes line z b in subst P (sym e) f
up_to_after line (Some l) a b (inr p) f = precedes_trans line a l b p f
