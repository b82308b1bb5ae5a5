-- The first blank or tab of a line.
use Rattle.std.proofs.Common.{◌≡◌, ◌∙◌, ℕ, zero, suc, ◌<◌, true, false, cond, List, [], ◌∷◌, length, get_or, take, drop}
use Rattle.std.proofs.Common.{refl, ap, arith, Some, None}
use Rattle.in2_reader.specs.Pairs.{is_gap, onto_front}
use Rattle.alb_reader.specs.Faults.{gap_split}

pub no_gap : (bytes : List ℕ) → ((k : ℕ) → k < length bytes → is_gap (get_or bytes k 0) ≡ false)
    → gap_split bytes ≡ None
no_gap [] n = refl
no_gap (b ∷ bytes) n =
    ap (λ t. cond t (Some ([], bytes)) (onto_front b (gap_split bytes))) (n 0 (omega arith))
    ∙ ap (onto_front b) (no_gap bytes (λ k l. n (suc k) (omega (arith, l))))

pub first_gap : (bytes : List ℕ) (i : ℕ) → i < length bytes → ((k : ℕ) → k < i → is_gap (get_or bytes k 0) ≡ false)
    → is_gap (get_or bytes i 0) ≡ true
    → gap_split bytes ≡ Some (take i bytes, drop (suc i) bytes)
first_gap [] i h n t = absurd (omega (arith, h))
first_gap (b ∷ bytes) zero h n t = ap (λ t. cond t (Some ([], bytes)) (onto_front b (gap_split bytes))) t
first_gap (b ∷ bytes) (suc i) h n t =
    ap (λ t. cond t (Some ([], bytes)) (onto_front b (gap_split bytes))) (n 0 (omega arith))
    ∙ ap (onto_front b) (first_gap bytes i (omega (arith, h)) (λ k l. n (suc k) (omega (arith, l))) t)
