-- A load grows to a full one.
use Rattle.std.proofs.Common.{◌≡◌, ℕ, zero, suc, ◌+◌, ◌<◌, ◌≤◌, Bool, true, false, List, length, set, sym, ◌∙◌, ◌⊎◌}
use Rattle.std.proofs.Common.{inl, inr, arith}
use Rattle.line_instance.specs.Truths.{In, union, IsSubset}
use Rattle.line_instance.proofs.Members.{In-union_left, In-union_right, In-union_cases, In-set_kept, members}
use Rattle.line_instance.proofs.Members.{members-set}
use Rattle.line_instance.proofs.Members.{members-le}
use Rattle.line_instance.specs.Line.{Line, has}
use Rattle.line_rules.specs.Loads.{IsLoad, IsFull, taken, with_front, with_back}
use Rattle.line_rules.specs.declared.types.Mode.{Mode}
use Rattle.line_rules.specs.declared.types.Load.{Load}
use Rattle.line_instance.proofs.Sums.{by_cases}
use Rattle.std.proofs.lemmas.Bool.{cases_Bool, false≢true}

-- a task that could be added
CanAdd : Line → ℕ → Mode → List Bool → Load → Type 0
CanAdd line c mode R l =
    ((i : ℕ) × In R i × (has (taken l) i ≡ false) × IsLoad line c mode R (with_front l i))
    ⊎ ((i : ℕ) × In R i × (has (taken l) i ≡ false) × IsLoad line c mode R (with_back l i))

not_left : (a b : List Bool) (i : ℕ) → has (union a b) i ≡ false → has a i ≡ false
not_left a b i e = elim (cases_Bool (has a i)) [
  | inl t ↦ absurd (false≢true (sym e ∙ In-union_left a b i t))
  | inr f ↦
      f
]

not_right : (a b : List Bool) (i : ℕ) → has (union a b) i ≡ false → has b i ≡ false
not_right a b i e = elim (cases_Bool (has b i)) [
  | inl t ↦ absurd (false≢true (sym e ∙ In-union_right a b i t))
  | inr f ↦
      f
]

grows_front : (l : Load) (i : ℕ) → IsSubset (taken l) (taken (with_front l i))
grows_front l i j m = elim (In-union_cases l.front l.back j m) [
  | inl a ↦ In-union_left (set l.front i true) l.back j (In-set_kept l.front i j a)
  | inr b ↦ In-union_right (set l.front i true) l.back j b
]

grows_back : (l : Load) (i : ℕ) → IsSubset (taken l) (taken (with_back l i))
grows_back l i j m = elim (In-union_cases l.front l.back j m) [
  | inl a ↦ In-union_left l.front (set l.back i true) j a
  | inr b ↦ In-union_right l.front (set l.back i true) j (In-set_kept l.back i j b)
]

module _ (line : Line) (small : length line.times ≤ 1024) (c : ℕ) (mode : Mode) (R : List Bool)
    (tasks : (i : ℕ) → In R i → i < 1024) where
  -- room is how many tasks could still be added
  pub full : (room : ℕ) (l : Load) → IsLoad line c mode R l → 2048 ≤ members l.front + members l.back + room
      → ((f : Load) → IsLoad line c mode R f → IsFull line c mode R f → IsSubset (taken l) (taken f) → ⊥) → ⊥
  unfolding CanAdd
  full zero l h e k = k l h (record {
    front = λ i m n g. omega (
      arith,
      members-le (set l.front i true),
      g.front.truths,
      members-le l.back,
      h.back.truths,
      members-set l.front i (omega (arith, h.front.truths, tasks i m)) (not_left l.front l.back i n),
    );
    back = λ i m n g. omega (
      arith,
      members-le (set l.back i true),
      g.back.truths,
      members-le l.front,
      h.front.truths,
      members-set l.back i (omega (arith, h.back.truths, tasks i m)) (not_right l.front l.back i n),
    );
  }) (λ i m. m)
  full (suc room) l h e k = by_cases (CanAdd line c mode R l) (λ d. elim d [
    | inl can ↦ elim can [
      | inl f ↦ full room (with_front l f.0) f.3 (omega (
        arith,
        e,
        members-set l.front f.0 (omega (arith, h.front.truths, tasks f.0 f.1)) (not_left l.front l.back f.0 f.2),
      ))
          (λ g a b s. k g a b (λ i m. s i (grows_front l f.0 i m)))
      | inr f ↦ full room (with_back l f.0) f.3 (omega (
        arith,
        e,
        members-set l.back f.0 (omega (arith, h.back.truths, tasks f.0 f.1)) (not_right l.front l.back f.0 f.2),
      ))
          (λ g a b s. k g a b (λ i m. s i (grows_back l f.0 i m)))
    ]
    | inr cannot ↦ k l h (record {
      front = λ i m n g. cannot (inl (i, m, n, g));
      back = λ i m n g. cannot (inr (i, m, n, g));
    }) (λ i m. m)
  ])
