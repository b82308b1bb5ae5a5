-- Cites, modes and last loads that are written are read, and what is read is how they are written.
use Rattle.std.proofs.Common.{◌≡◌, ℕ, Bool, true, false, cond, nat_eq, nat_le, List, [], ◌∷◌, ◌++◌, min, map, refl, sym}
use Rattle.std.proofs.Common.{◌∙◌, ap, arith, Some, None, inl, inr}
use Rattle.std.specs.List.{flat_map}
use Rattle.std.proofs.lemmas.Bool.Decides.{nat_tests}
use Rattle.std.proofs.lemmas.List.{append-nil}
use Rattle.std.proofs.lemmas.Bool.{eqb-true}
use Rattle.line_io.specs.Lines.{onto_first, value_of}
use Rattle.line_rules.specs.declared.types.Mode.{Mode}
use Rattle.line_rules.specs.declared.types.Mode.TheVariants.{Fore, Back, Both}
use Rattle.cert_lines.specs.Numbers.{number_text, cites_text, mode_letter}
use Rattle.cert_lines.specs.Words.{◌>>=◌, pieces_at, number_in, numbers_in, cites_in, is_none, mode_in, greatest}
use Rattle.cert_lines.proofs.NumberWords.{lacks, all_high, high_lacks, number_high, number_again, number_found}
use Rattle.cert_lines.proofs.NumberWords.{split_again, split_none, bind_some}
use Rattle.cert_lines.proofs.Lists.{chosen, one_piece, more_pieces}
use Rattle.line_io.proofs.ReadFacts.{left}

abbrev pub sat : ℕ → ℕ
sat n = min n greatest

-- the numbers behind a first one
abbrev tail_text : List ℕ → List ℕ
tail_text cs = flat_map (λ d. 44 ∷ number_text d) cs

number_lacks : (c : ℕ) → lacks 44 (number_text c) ≡ true
number_lacks c = high_lacks 44 (number_text c) (omega arith) (number_high c)

pieces_of : (c : ℕ) (cs : List ℕ) → pieces_at 44 (number_text c ++ tail_text cs) ≡ map number_text (c ∷ cs)
pieces_of c [] = ap (pieces_at 44) (append-nil (number_text c))
    ∙ one_piece 44 (number_text c) (split_none 44 (number_text c) (number_lacks c))
pieces_of c (d ∷ cs) =
    more_pieces 44 (number_text c ++ 44 ∷ (number_text d ++ tail_text cs))
    (number_text c, number_text d ++ tail_text cs) (split_again 44 (number_text c) (number_text d ++ tail_text cs)
    (number_lacks c))
    ∙ ap (λ ps. number_text c ∷ ps) (pieces_of d cs)

numbers_again : (cs : List ℕ) → numbers_in (map number_text cs) ≡ Some (map sat cs)
unfolding numbers_in
numbers_again [] = refl
numbers_again (c ∷ cs) = ap (λ o. o >>= λ n. numbers_in (map number_text cs) >>= λ ns. Some (n ∷ ns)) (number_again c)
    ∙ ap (λ o. o >>= λ ns. Some (sat c ∷ ns)) (numbers_again cs)

pub none_of_high : (word : List ℕ) → all_high word ≡ true → is_none word ≡ false
none_of_high [] e = refl
none_of_high (b ∷ []) e = let h : nat_le 48 b ≡ true = left (nat_le 48 b) true e in grind (arith, nat_tests)
none_of_high (b ∷ c ∷ word) e = refl

none_of_long : (word rest : List ℕ) (b : ℕ) → is_none word ≡ false → (word ≡ [] → ⊥)
    → is_none (word ++ b ∷ rest) ≡ false
none_of_long [] rest b e h = absurd (h refl)
none_of_long (c ∷ []) rest b e h = refl
none_of_long (c ∷ d ∷ word) rest b e h = refl

none_number : number_in [] ≡ None
unfolding number_in
none_number = refl

pub number_some : (c : ℕ) → number_text c ≡ [] → ⊥
number_some c e = let w : None ≡ Some (sat c) = sym none_number ∙ ap number_in (sym e) ∙ number_again c in (cc)

pub cites_again : (cites : List ℕ) → cites_in (cites_text cites) ≡ Some (map sat cites)
unfolding cites_in
cites_again [] = refl
cites_again (c ∷ cs) =
    ap (λ b. cond b (Some []) (numbers_in (pieces_at 44 (number_text c ++ tail_text cs)))) (no_mark c cs)
    ∙ ap numbers_in (pieces_of c cs) ∙ numbers_again (c ∷ cs)
  where
    no_mark : (c : ℕ) (cs : List ℕ) → is_none (number_text c ++ tail_text cs) ≡ false
    no_mark c [] = ap is_none (append-nil (number_text c)) ∙ none_of_high (number_text c) (number_high c)
    no_mark c (d ∷ cs) = none_of_long (number_text c) (number_text d ++ tail_text cs) 44
        (none_of_high (number_text c) (number_high c)) (number_some c)

-- the pieces with marks between
abbrev joined : List (List ℕ) → List ℕ
joined [] = []
joined (p ∷ []) = p
joined (p ∷ q ∷ ps) = p ++ 44 ∷ joined (q ∷ ps)

some_piece : (mark : ℕ) (word : List ℕ) → (p : List ℕ) × (ps : List (List ℕ)) × (pieces_at mark word ≡ p ∷ ps)
unfolding pieces_at
some_piece mark [] = ([], [], refl)
some_piece mark (b ∷ word) = I (nat_eq b mark) (some_piece mark word)
  where
    I : (t : Bool) → ((p : List ℕ) × (ps : List (List ℕ)) × (pieces_at mark word ≡ p ∷ ps))
        → (p : List ℕ) × (ps : List (List ℕ)) × (cond t ([] ∷ pieces_at mark word) (onto_first b (pieces_at mark word))
        ≡ p ∷ ps)
    I true s = ([], pieces_at mark word, refl)
    I false s = (b ∷ s.0, s.1, ap (onto_first b) s.2)

join_front : (b : ℕ) (ps : List (List ℕ)) → joined (onto_first b ps) ≡ b ∷ joined ps
join_front b [] = refl
join_front b (p ∷ []) = refl
join_front b (p ∷ q ∷ ps) = refl

joined_is : (word : List ℕ) → joined (pieces_at 44 word) ≡ word
unfolding pieces_at
joined_is [] = refl
joined_is (b ∷ word) = I (nat_eq b 44) refl (joined_is word) (some_piece 44 word)
  where
    I : (t : Bool) → nat_eq b 44 ≡ t → joined (pieces_at 44 word) ≡ word
        → ((p : List ℕ) × (ps : List (List ℕ)) × (pieces_at 44 word ≡ p ∷ ps))
        → joined (cond t ([] ∷ pieces_at 44 word) (onto_first b (pieces_at 44 word))) ≡ b ∷ word
    I true e h s = ap (λ ps. joined ([] ∷ ps)) s.2 ∙ ap (λ x. 44 ∷ joined x) (sym s.2) ∙ ap (λ w. 44 ∷ w) h
        ∙ ap (λ x. x ∷ word) (sym (eqb-true b 44 e))
    I false e h s = join_front b (pieces_at 44 word) ∙ ap (λ w. b ∷ w) h

-- the numbers that pieces are, with their texts
numbers_found : (ps : List (List ℕ)) (ns : List ℕ) → numbers_in ps ≡ Some ns
    → (cs : List ℕ) × (map number_text cs ≡ ps) × (map sat cs ≡ ns)
unfolding numbers_in
numbers_found [] ns e = ([], refl, cc)
numbers_found (p ∷ ps) ns e =
    let a = bind_some (number_in p) (λ n. numbers_in ps >>= λ ms. Some (n ∷ ms)) ns e in
    let b = bind_some (numbers_in ps) (λ ms. Some (a.0 ∷ ms)) ns a.2 in
    let f = number_found p a.0 a.1 in
    let g = numbers_found ps b.0 b.1 in
    let e2 : a.0 ∷ b.0 ≡ ns = cc in (
      value_of p ∷ g.0,
      ap (λ x. x ∷ map number_text g.0) f.0 ∙ ap (λ x. p ∷ x) g.1,
      ap (λ x. x ∷ map sat g.0) (sym f.1)
          ∙ ap (λ x. a.0 ∷ x) g.2 ∙ e2,
    )

joined_cites : (c : ℕ) (cs : List ℕ) → joined (map number_text (c ∷ cs)) ≡ number_text c ++ tail_text cs
joined_cites c [] = sym (append-nil (number_text c))
joined_cites c (d ∷ cs) = ap (λ t. number_text c ++ 44 ∷ t) (joined_cites d cs)

pub is_none_word : (word : List ℕ) → is_none word ≡ true → word ≡ 45 ∷ []
is_none_word [] e = (cc)
is_none_word (b ∷ []) e = ap (λ x. x ∷ []) (eqb-true b 45 e)
is_none_word (b ∷ c ∷ word) e = (cc)

pub cites_found : (word ns : List ℕ) → cites_in word ≡ Some ns
    → (cs : List ℕ) × (cites_text cs ≡ word) × (map sat cs ≡ ns)
unfolding cites_in
cites_found word ns e = elim (chosen (is_none word) (Some []) (numbers_in (pieces_at 44 word)) (Some ns) e) [
  | inl h ↦ (let n : [] ≡ ns = cc in ([], sym (is_none_word word h.0), n))
  | inr h ↦ (let f = numbers_found (pieces_at 44 word) ns h.1 in J f.0 f.1 f.2)
]
  where
    J : (cs : List ℕ) → map number_text cs ≡ pieces_at 44 word → map sat cs ≡ ns
        → (ds : List ℕ) × (cites_text ds ≡ word) × (map sat ds ≡ ns)
    J [] p q = let s = some_piece 44 word in let w : [] ≡ s.0 ∷ s.1 = p ∙ s.2 in (cc)
    J (c ∷ cs) p q = (c ∷ cs, sym (joined_cites c cs) ∙ ap joined p ∙ joined_is word, q)

pub mode_again : (mode : Mode) → mode_in (mode_letter mode ∷ []) ≡ Some mode
unfolding mode_in
mode_again Fore = refl
mode_again Back = refl
mode_again Both = refl

pub mode_found : (word : List ℕ) (mode : Mode) → mode_in word ≡ Some mode → mode_letter mode ∷ [] ≡ word
unfolding mode_in
mode_found [] mode e = (cc)
mode_found (b ∷ []) mode e = elim (chosen (nat_eq b 102) (Some Fore)
    (cond (nat_eq b 98) (Some Back) (cond (nat_eq b 117) (Some Both) None)) (Some mode) e) [
      | inl h ↦ (let m : Fore ≡ mode = cc in ap (λ x. mode_letter x ∷ []) (sym m)
          ∙ ap (λ x. x ∷ []) (sym (eqb-true b 102 h.0)))
      | inr h ↦ elim (chosen (nat_eq b 98) (Some Back) (cond (nat_eq b 117) (Some Both) None) (Some mode) h.1) [
        | inl g ↦ (let m : Back ≡ mode = cc in ap (λ x. mode_letter x ∷ []) (sym m)
            ∙ ap (λ x. x ∷ []) (sym (eqb-true b 98 g.0)))
        | inr g ↦ elim (chosen (nat_eq b 117) (Some Both) None (Some mode) g.1) [
          | inl k ↦ (let m : Both ≡ mode = cc in ap (λ x. mode_letter x ∷ []) (sym m)
              ∙ ap (λ x. x ∷ []) (sym (eqb-true b 117 k.0)))
          | inr k ↦ (let w : None ≡ Some mode = k.1 in (cc))
        ]
      ]
    ]
mode_found (b ∷ c ∷ word) mode e = (cc)
