-- Counts of members, and sets with the same members.
use Rattle.std.proofs.Common.{◌≡◌, ℕ, suc, ◌+◌, ◌↔◌, Bool, true, false, cond, List, [], ◌∷◌, length, get_or, refl, sym}
use Rattle.std.proofs.Common.{◌∙◌, arith}
use Rattle.line_instance.specs.Truths.{In, union, count}
use Rattle.std.proofs.lemmas.List.{ext_get_or}
use Rattle.std.proofs.lemmas.List.Sums.{sum_by-cons}

pub count_first : (b : Bool) (bs : List Bool) → count (b ∷ bs) ≡ cond b 1 0 + count bs
count_first b bs = sum_by-cons (λ x. cond x 1 0) b bs

pub disjoint_counts : (a b : List Bool) → ((i : ℕ) → In a i → In b i → ⊥) → count (union a b) ≡ count a + count b
disjoint_counts [] ys d = omega arith
disjoint_counts (x ∷ xs) [] d = omega arith
disjoint_counts (true ∷ xs) (true ∷ ys) d = absurd (d 0 refl refl)
disjoint_counts (true ∷ xs) (false ∷ ys) d =
    omega (
      arith,
      disjoint_counts xs ys (λ i m n. d (suc i) m n),
      count_first true xs,
      count_first false ys,
      count_first true (union xs ys),
    )
disjoint_counts (false ∷ xs) (y ∷ ys) d =
    omega (
      arith,
      disjoint_counts xs ys (λ i m n. d (suc i) m n),
      count_first false xs,
      count_first y ys,
      count_first y (union xs ys),
    )

same_truth : (a b : Bool) → (a ≡ true) ↔ (b ≡ true) → a ≡ b
same_truth true b h = sym (h.0 refl)
same_truth false true h = h.1 refl
same_truth false false h = refl

pub same_members : (a b : List Bool) → length a ≡ 1024 → length b ≡ 1024 → ((i : ℕ) → In a i ↔ In b i) → a ≡ b
same_members a b e f h = ext_get_or false a b (e ∙ sym f) (λ i l.
    same_truth (get_or a i false) (get_or b i false) (h i))
