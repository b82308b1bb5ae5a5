-- Works by models and stations, in one list.
use Rattle.std.proofs.Common.{◌≡◌, ℕ, ◌+◌, ◌<◌, ◌≤◌, List, [], ◌∷◌, ◌++◌, length, map, get_or, refl, sym, ap, ◌∙◌}
use Rattle.std.proofs.Common.{subst, inl, inr, arith, sum}
use Rattle.std.specs.Prelude.{sum_by, All}
use Rattle.std.proofs.lemmas.Bool.{cases_eq}
use Rattle.std.proofs.lemmas.List.{get_or_append_left}
use Rattle.std.proofs.Math.Seq.{get_or-append_seam}
use Rattle.std.proofs.lemmas.List.Sums.{sum_by-cons}
use Rattle.combined_graph.specs.Mixes.{LineModel, IsModel}
use Rattle.sequence_search.specs.Tables.{demand_of}

-- what holds of each number of a list holds with one number more at its end
pub pushed : (P : ℕ → ℕ → Type 0) (xs : List ℕ) (i x : ℕ) → length xs ≡ i → ((j : ℕ) → j < i → P j (get_or xs j 0))
    → P i x
    → (j : ℕ) → j < i + 1 → P j (get_or (xs ++ x ∷ []) j 0)
pushed P xs i x e before here j l = elim (cases_eq j i) [
  | inl s ↦
      let at : get_or (xs ++ x ∷ []) j 0 ≡ x = ap (λ k. get_or (xs ++ x ∷ []) k 0) (s ∙ sym e)
      ∙ get_or-append_seam xs x [] 0 in
      let A : ℕ → Type 0 = λ v. P j v in
      let B : ℕ → Type 0 = λ k. P k x in
      subst A (sym at) (subst B (sym s) here)
  | inr d ↦
      let at : get_or (xs ++ x ∷ []) j 0 ≡ get_or xs j 0 = get_or_append_left xs (x ∷ []) 0 j
      (omega (arith, l, d, e)) in
      let A : ℕ → Type 0 = λ v. P j v in
      subst A (sym at) (before j (omega (arith, l, d)))
]

-- the demands together
pub sum_demands : (models : List LineModel) → sum (map demand_of models) ≡ sum_by demand_of models
sum_demands [] = refl
sum_demands (m ∷ models) = omega (
  arith,
  sum_by-cons (λ n. n) (demand_of m) (map demand_of models),
  sum_by-cons demand_of m models,
  sum_demands models,
)

pub some_demand : (tasks : ℕ) (models : List LineModel) → 0 < length models → All (IsModel tasks) models
    → 1 ≤ sum_by demand_of models
some_demand tasks [] l h = absurd (omega (arith, l))
some_demand tasks (m ∷ models) l h = omega (arith, sum_by-cons demand_of m models, (h 0 m (omega arith)).some)
