-- Lists of numbers between commas.
use Rattle.std.proofs.Common.{◌≡◌, ℕ, ◌<◌, Bool, true, false, cond, nat_eq, List, [], ◌∷◌, ◌++◌, length, refl, sym, ◌∙◌}
use Rattle.std.proofs.Common.{ap, arith, ◌⊎◌, inl, inr, length-append, Some, None, Option, append_assoc}
use Rattle.std.proofs.lemmas.Bool.{eqb-true}
use Rattle.line_io.specs.Lines.{onto_first}
use Rattle.cert_lines.specs.Words.{◌>>=◌, parts_at, onto_part, pieces_at, numbers_in, number_in}

-- numbers in front of those that are read
abbrev pub behind : List ℕ → Option (List ℕ) → Option (List ℕ)
behind front None = None
behind front (Some ns) = Some (front ++ ns)

pub onto_some : (b : ℕ) (o : Option (List ℕ × List ℕ)) (p : List ℕ × List ℕ) → onto_part b o ≡ Some p
    → (q : List ℕ × List ℕ) × (o ≡ Some q) × ((b ∷ q.0, q.1) ≡ p)
onto_some b None p e = (cc)
onto_some b (Some q) p e = (q, refl, cc)

pub onto_none : (b : ℕ) (o : Option (List ℕ × List ℕ)) → onto_part b o ≡ None → o ≡ None
onto_none b None e = refl
onto_none b (Some q) e = (cc)

pub chosen : {A : Type 0} (t : Bool) (x y z : A) → cond t x y ≡ z → ((t ≡ true) × (x ≡ z)) ⊎ ((t ≡ false) × (y ≡ z))
chosen true x y z e = inl (refl, e)
chosen false x y z e = inr (refl, e)

-- what a split says
pub split_parts : (mark : ℕ) (bytes : List ℕ) (p : List ℕ × List ℕ) → parts_at mark bytes ≡ Some p
    → bytes ≡ p.0 ++ mark ∷ p.1
unfolding parts_at
split_parts mark [] p e = (cc)
split_parts mark (b ∷ bytes) p e = elim (chosen (nat_eq b mark) (Some ([], bytes)) (onto_part b (parts_at mark bytes))
    (Some p) e) [
      | inl h ↦ (let q : ([], bytes) ≡ p = cc in ap (λ x. x ∷ bytes) (eqb-true b mark h.0)
          ∙ ap (λ x. x.0 ++ mark ∷ x.1) q)
      | inr h ↦ (let q = onto_some b (parts_at mark bytes) p h.1 in
          ap (λ x. b ∷ x) (split_parts mark bytes q.0 q.1) ∙ ap (λ x. x.0 ++ mark ∷ x.1) q.2)
    ]

pub one_piece : (mark : ℕ) (bytes : List ℕ) → parts_at mark bytes ≡ None → pieces_at mark bytes ≡ bytes ∷ []
unfolding parts_at pieces_at
one_piece mark [] e = refl
one_piece mark (b ∷ bytes) e = elim (chosen (nat_eq b mark) (Some ([], bytes)) (onto_part b (parts_at mark bytes)) None
    e) [
      | inl h ↦ (let q : Some ([], bytes) ≡ None = h.1 in (cc))
      | inr h ↦ ap (λ t. cond t ([] ∷ pieces_at mark bytes) (onto_first b (pieces_at mark bytes))) h.0
          ∙ ap (onto_first b) (one_piece mark bytes (onto_none b (parts_at mark bytes) h.1))
    ]

pub more_pieces : (mark : ℕ) (bytes : List ℕ) (p : List ℕ × List ℕ) → parts_at mark bytes ≡ Some p
    → pieces_at mark bytes ≡ p.0 ∷ pieces_at mark p.1
unfolding parts_at pieces_at
more_pieces mark [] p e = (cc)
more_pieces mark (b ∷ bytes) p e = elim (chosen (nat_eq b mark) (Some ([], bytes)) (onto_part b (parts_at mark bytes))
    (Some p) e) [
      | inl h ↦ (let q : ([], bytes) ≡ p = cc in ap (λ t. cond t ([] ∷ pieces_at mark bytes)
          (onto_first b (pieces_at mark bytes))) h.0 ∙ ap (λ x. x.0 ∷ pieces_at mark x.1) q)
      | inr h ↦ (let q = onto_some b (parts_at mark bytes) p h.1 in
          ap (λ t. cond t ([] ∷ pieces_at mark bytes) (onto_first b (pieces_at mark bytes))) h.0
          ∙ ap (onto_first b) (more_pieces mark bytes q.0 q.1) ∙ ap (λ x. x.0 ∷ pieces_at mark x.1) q.2)
    ]

pub split_shorter : (mark : ℕ) (bytes : List ℕ) (p : List ℕ × List ℕ) → parts_at mark bytes ≡ Some p
    → length p.1 < length bytes
split_shorter mark bytes p e = omega (arith, ap length (split_parts mark bytes p e), length-append p.0 (mark ∷ p.1))

numbers_more : (p : List ℕ) (ps : List (List ℕ)) (n : ℕ) → number_in p ≡ Some n
    → numbers_in (p ∷ ps) ≡ (numbers_in ps >>= λ ns. Some (n ∷ ns))
unfolding numbers_in
numbers_more p ps n e = ap (λ o. o >>= λ m. numbers_in ps >>= λ ns. Some (m ∷ ns)) e

numbers_none : (p : List ℕ) (ps : List (List ℕ)) → number_in p ≡ None → numbers_in (p ∷ ps) ≡ None
unfolding numbers_in
numbers_none p ps e = ap (λ o. o >>= λ m. numbers_in ps >>= λ ns. Some (m ∷ ns)) e

onto : (front : List ℕ) (n : ℕ) (o : Option (List ℕ)) → behind front (o >>= λ ns. Some (n ∷ ns))
    ≡ behind (front ++ n ∷ []) o
onto front n None = refl
onto front n (Some ns) = ap (λ x. Some x) (sym (append_assoc front (n ∷ []) ns))

-- a piece is a number, and what stands behind it is left
pub piece_read : (front left word : List ℕ) (p : List ℕ × List ℕ) (n : ℕ) → parts_at 44 left ≡ Some p
    → number_in p.0 ≡ Some n
    → behind front (numbers_in (pieces_at 44 left)) ≡ numbers_in (pieces_at 44 word)
    → behind (front ++ n ∷ []) (numbers_in (pieces_at 44 p.1)) ≡ numbers_in (pieces_at 44 word)
piece_read front left word p n e f i =
    sym (onto front n (numbers_in (pieces_at 44 p.1))) ∙ ap (behind front)
    (sym (ap numbers_in (more_pieces 44 left p e) ∙ numbers_more p.0 (pieces_at 44 p.1) n f)) ∙ i

pub piece_fails : (front left word : List ℕ) (p : List ℕ × List ℕ) → parts_at 44 left ≡ Some p → number_in p.0 ≡ None
    → behind front (numbers_in (pieces_at 44 left)) ≡ numbers_in (pieces_at 44 word)
    → None ≡ numbers_in (pieces_at 44 word)
piece_fails front left word p e f i = sym (ap (behind front)
    (ap numbers_in (more_pieces 44 left p e) ∙ numbers_none p.0 (pieces_at 44 p.1) f)) ∙ i

pub last_read : (front left word : List ℕ) (n : ℕ) → parts_at 44 left ≡ None → number_in left ≡ Some n
    → behind front (numbers_in (pieces_at 44 left)) ≡ numbers_in (pieces_at 44 word)
    → Some (front ++ n ∷ []) ≡ numbers_in (pieces_at 44 word)
unfolding numbers_in
last_read front left word n e f i = sym (ap (behind front) (ap numbers_in (one_piece 44 left e)
    ∙ numbers_more left [] n f)) ∙ i

pub last_fails : (front left word : List ℕ) → parts_at 44 left ≡ None → number_in left ≡ None
    → behind front (numbers_in (pieces_at 44 left)) ≡ numbers_in (pieces_at 44 word)
    → None ≡ numbers_in (pieces_at 44 word)
last_fails front left word e f i = sym (ap (behind front) (ap numbers_in (one_piece 44 left e)
    ∙ numbers_none left [] f)) ∙ i

pub behind_none : (o : Option (List ℕ)) → behind [] o ≡ o
behind_none None = refl
behind_none (Some ns) = refl
