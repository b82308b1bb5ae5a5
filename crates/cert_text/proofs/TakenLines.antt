-- A line that is split off a text.
use Rattle.std.proofs.Common.{◌≡◌, ℕ, zero, suc, ◌<◌, nat_eq, List, [], ◌∷◌, length, get_or, ap}
use Rattle.std.proofs.Common.{subst, arith, Some, None, inl, inr}
use Rattle.std.proofs.lemmas.Bool.{eqb-false}
use Rattle.cert_lines.specs.Words.{parts_at, onto_part}
use Rattle.cert_lines.specs.Taking.{IsTaken}
use Rattle.cert_lines.specs.Faults.{IsLine}
use Rattle.cert_lines.proofs.Lists.{chosen, onto_some, onto_none, split_parts}

front_free : (mark : ℕ) (bytes : List ℕ) (p : List ℕ × List ℕ) → parts_at mark bytes ≡ Some p → (k d : ℕ)
    → k < length p.0 → get_or p.0 k d ≡ mark → ⊥
unfolding parts_at
front_free mark [] p e k d h t = (cc)
front_free mark (b ∷ bytes) p e k d h t = elim (chosen (nat_eq b mark) (Some ([], bytes))
    (onto_part b (parts_at mark bytes)) (Some p) e) [
      | inl x ↦ (let q : ([], bytes) ≡ p = cc in absurd (omega (arith, ap (λ z. length z.0) q)))
      | inr x ↦ (let q = onto_some b (parts_at mark bytes) p x.1 in
          let P : List ℕ → Type 0 = λ w. (k : ℕ) → k < length w → get_or w k d ≡ mark → ⊥ in
          subst P (ap (λ z. z.0) q.2) (behind q.0 (eqb-false b mark x.0)
          (λ j l u. front_free mark bytes q.0 q.1 j d l u)) k
          h t)
    ]
  where
    behind : (q : List ℕ × List ℕ) → (b ≡ mark → ⊥) → ((j : ℕ) → j < length q.0 → get_or q.0 j d ≡ mark → ⊥) → (k : ℕ)
        → k < length (b ∷ q.0) → get_or (b ∷ q.0) k d ≡ mark → ⊥
    behind q n f zero l u = n u
    behind q n f (suc j) l u = f j (omega arith) u

none_free : (mark : ℕ) (bytes : List ℕ) → parts_at mark bytes ≡ None → (k d : ℕ) → k < length bytes
    → get_or bytes k d ≡ mark → ⊥
unfolding parts_at
none_free mark [] e k d h t = absurd (omega arith)
none_free mark (b ∷ bytes) e k d h t = elim (chosen (nat_eq b mark) (Some ([], bytes))
    (onto_part b (parts_at mark bytes)) None e) [
      | inl x ↦ (let q : Some ([], bytes) ≡ None = x.1 in (cc))
      | inr x ↦ at k h t (eqb-false b mark x.0) (λ j l u. none_free mark bytes (onto_none b (parts_at mark bytes) x.1) j
          d l
          u)
    ]
  where
    at : (k : ℕ) → k < length (b ∷ bytes) → get_or (b ∷ bytes) k d ≡ mark → (b ≡ mark → ⊥)
        → ((j : ℕ) → j < length bytes → get_or bytes j d ≡ mark → ⊥) → ⊥
    at zero h t n f = n t
    at (suc j) h t n f = f j (omega arith) t

pub line_taken : (text line rest : List ℕ) → parts_at 10 text ≡ Some (line, rest) → IsTaken text line rest
line_taken text line rest e = record {
  all = split_parts 10 text (line, rest) e;
  is_line = λ k d h t. front_free 10 text (line, rest) e k d h t;
}

pub no_line : (text : List ℕ) → parts_at 10 text ≡ None → IsLine text
no_line text e = λ k d h t. none_free 10 text e k d h t
