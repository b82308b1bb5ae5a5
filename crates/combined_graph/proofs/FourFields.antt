-- A record of four fields, read field by field.
use Rattle.std.proofs.Common.{◌≡◌, ◌≤◌, ℕ, zero, suc, List, [], ◌∷◌, length, Some, None, arith}
use Rattle.csv.specs.Records.{field_at}
use Rattle.combined_graph.specs.Records.{Fields}

-- no field at a place: the record isn't so long
pub no_field : (fields : Fields) (i : ℕ) → field_at fields i ≡ None → length fields ≤ i
unfolding field_at
no_field [] i h = omega arith
no_field (f ∷ fs) zero h = cc h
no_field (f ∷ fs) (suc i) h = omega (arith, no_field fs i h)

-- four fields at four places
pub four_fields : (fields : Fields) (a b c d : List ℕ) → length fields ≡ 4 → field_at fields 0 ≡ Some a
    → field_at fields 1 ≡ Some b → field_at fields 2 ≡ Some c → field_at fields 3 ≡ Some d → fields ≡ a ∷ b ∷ c ∷ d ∷ []
unfolding field_at
four_fields [] a b c d n p q r s = absurd (omega arith)
four_fields (w ∷ []) a b c d n p q r s = absurd (omega arith)
four_fields (w ∷ x ∷ []) a b c d n p q r s = absurd (omega arith)
four_fields (w ∷ x ∷ y ∷ []) a b c d n p q r s = absurd (omega arith)
four_fields (w ∷ x ∷ y ∷ z ∷ []) a b c d n p q r s = cc (p, q, r, s)
four_fields (w ∷ x ∷ y ∷ z ∷ v ∷ fs) a b c d n p q r s = absurd (omega arith)
