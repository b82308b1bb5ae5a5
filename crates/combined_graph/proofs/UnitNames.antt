-- The names of the units so far, and the next one.
use Rattle.std.proofs.Common.{◌≡◌, ◌≤◌, ◌<◌, ◌+◌, ◌-◌, ℕ, zero, suc, List, [], ◌∷◌, ◌++◌, length, take, drop, map}
use Rattle.std.proofs.Common.{get_or, Some, None, refl, sym, ◌∙◌, ap, subst, arith, add-one}
use Rattle.std.specs.Prelude.{All, is_some}
use Rattle.combined_graph.specs.Mixes.{LineModel, model_named}
use Rattle.std.proofs.lemmas.List.{map-append}
use Rattle.combined_graph.specs.Sequences.{IsNamed, IsFirstUnknown}

-- the next name of a list, behind its first n
pub record IsNext (names : List (List ℕ)) (n : ℕ) (name : List ℕ) (rest : List (List ℕ)) : Type 0 where
  pub within : n < length names
  pub is : get_or names n [] ≡ name
  pub behind : drop (n + 1) names ≡ rest
  pub so_far : take (n + 1) names ≡ take n names ++ name ∷ []

pub next_name : (names : List (List ℕ)) (n : ℕ) (name : List ℕ) (rest : List (List ℕ)) → drop n names ≡ name ∷ rest
    → IsNext names n name rest
next_name [] zero name rest h = cc h
next_name [] (suc n) name rest h = cc h
next_name (x ∷ xs) zero name rest h = record {
  within = omega arith;
  is = cc h;
  behind = cc h;
  so_far = ap (λ y. y ∷ []) (cc h);
}
next_name (x ∷ xs) (suc n) name rest h =
    let more = next_name xs n name rest h in
    record {
      within = omega (arith, more.within);
      is = more.is;
      behind = ap (λ k. drop k (x ∷ xs)) (add-one (suc n)) ∙ ap (λ k. drop k xs) (sym (add-one n)) ∙ more.behind;
      so_far = ap (λ k. take k (x ∷ xs)) (add-one (suc n)) ∙ ap (λ k. x ∷ take k xs) (sym (add-one n))
          ∙ ap (λ ys. x ∷ ys) more.so_far;
    }

-- no name is left
pub no_name : (names : List (List ℕ)) (n : ℕ) → drop n names ≡ [] → (take n names ≡ names) × (length names ≤ n)
no_name [] zero h = (refl, omega arith)
no_name [] (suc n) h = (refl, omega arith)
no_name (x ∷ xs) zero h = cc h
no_name (x ∷ xs) (suc n) h = let more = no_name xs n h in (ap (λ ys. x ∷ ys) more.0, omega (arith, more.1))

-- names that have these models are known
pub known : (models : List LineModel) (names : List (List ℕ)) (units : List ℕ)
    → map (model_named models) names ≡ map (λ m. Some m) units → All (IsNamed models) names
known models [] units h = λ k d less. absurd (omega (arith, less))
known models (x ∷ xs) [] h = cc h
known models (x ∷ xs) (u ∷ us) h = at (known models xs us (cc h))
  where
    first : model_named models x ≡ Some u
    first = cc h

    at : All (IsNamed models) xs → (k : ℕ) (d : List ℕ) → k < length (x ∷ xs) → IsNamed models (get_or (x ∷ xs) k d)
    at more zero d less = ap (λ o. is_some o) first
    at more (suc k) d less = more k d (omega (arith, less))

-- no name is left: each unit is of its model
pub all_read : (models : List LineModel) (names : List (List ℕ)) (n : ℕ) (units : List ℕ) → drop n names ≡ []
    → n ≤ 100000
    → map (model_named models) (take n names) ≡ map (λ m. Some m) units
    → (map (model_named models) names ≡ map (λ m. Some m) units) × (length names ≤ 100000)
all_read models names n units h few said =
    let end = no_name names n h in
    (ap (map (model_named models)) (sym end.0) ∙ said, omega (arith, end.1, few))

-- one more stands behind 100,000
pub too_many : (models : List LineModel) (names : List (List ℕ)) (n : ℕ) (units : List ℕ) (name : List ℕ)
    (rest : List (List ℕ)) → drop n names ≡ name ∷ rest → n ≡ 100000
    → map (model_named models) (take n names) ≡ map (λ m. Some m) units
    → (100000 < length names) × All (IsNamed models) (take 100000 names)
too_many models names n units name rest h full said =
    let P : ℕ → Type 0 = λ n. All (IsNamed models) (take n names) in
    (omega (arith, (next_name names n name rest h).within, full), subst P full (known models (take n names) units said))

-- the next name is no model's
pub unknown : (models : List LineModel) (names : List (List ℕ)) (n : ℕ) (units : List ℕ) (name : List ℕ)
    (rest : List (List ℕ)) → drop n names ≡ name ∷ rest → n < 100000
    → model_named models name ≡ None → map (model_named models) (take n names) ≡ map (λ m. Some m) units
    → IsFirstUnknown models names (n + 1) × (n + 1 ≤ 100000)
unknown models names n units name rest h few none said =
    let next = next_name names n name rest h in
    let at : (n + 1) - 1 ≡ n = omega arith in
    let P : ℕ → Type 0 = λ k. All (IsNamed models) (take k names) in (
      record {
        some = omega arith;
        unit = omega (arith, next.within);
        unknown = ap (λ k. model_named models (get_or names k [])) at ∙ ap (model_named models) next.is ∙ none;
        known = subst P (sym at) (known models (take n names) units said);
      },
      omega (arith, few),
    )

-- the next name is a model's
pub one_unit : (models : List LineModel) (names : List (List ℕ)) (n m : ℕ) (units : List ℕ) (name : List ℕ)
    (rest : List (List ℕ)) → drop n names ≡ name ∷ rest
    → model_named models name ≡ Some m → map (model_named models) (take n names) ≡ map (λ m. Some m) units
    → map (model_named models) (take (n + 1) names) ≡ map (λ m. Some m) (units ++ m ∷ [])
one_unit models names n m units name rest h is said =
    ap (map (model_named models)) (next_name names n name rest h).so_far
    ∙ map-append (model_named models) (take n names) (name ∷ [])
    ∙ ap (λ xs. xs ++ model_named models name ∷ []) said
    ∙ ap (λ o. map (λ m. Some m) units ++ o ∷ []) is
    ∙ sym (map-append (λ m. Some m) units (m ∷ []))
