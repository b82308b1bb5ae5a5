-- Lines of entries that are written are read, and what is read is how they are written.
use Rattle.std.proofs.Common.{◌≡◌, ℕ, ◌≤◌, Bool, true, false, not, cond, ◌&&◌, List, [], ◌∷◌, ◌++◌, map, refl, sym}
use Rattle.std.proofs.Common.{◌∙◌, ap, subst}
use Rattle.std.proofs.Common.{arith, Some, None, Option, inl, inr}
use Rattle.std.specs.Prelude.{codes, bytes_eq}
use Rattle.std.proofs.lemmas.Option.{same_Some}
use Rattle.std.proofs.lemmas.Bool.{and_parts}
use Rattle.line_io.specs.Lines.{value_of}
use Rattle.line_rules.specs.declared.types.Mode.{Mode}
use Rattle.line_rules.specs.declared.types.Mode.TheVariants.{Fore, Back, Both}
use Rattle.cert_lines.specs.Numbers.{number_text, set_text, cites_text, mode_letter}
use Rattle.cert_lines.specs.Rows.{Row, fixed, keyed, span, seat, bound, branch, swap, pairs, trail, frame}
use Rattle.cert_lines.specs.Rows.{state_entry, state_frame, row_entry, joined, entry, entry_by_pairs, form_of, given}
use Rattle.cert_lines.specs.Rows.{row_text}
use Rattle.cert_lines.specs.Rows.{Form, text, number, two_numbers, place, head, open_frame, entry_of_state}
use Rattle.cert_lines.specs.Rows.{frame_of_state, entry_of_rows, many_numbers}
use Rattle.cert_lines.specs.Words.{◌>>=◌, parts_at, number_in, number_first, set_in, mode_in, cites_in}
use Rattle.cert_lines.specs.inner.LineReading.{cycle_first, bound_in, branch_in, swap_in, pairs_in, entry_in}
use Rattle.cert_lines.specs.declared.draft.Draft.{Draft}
use Rattle.cert_lines.specs.declared.draft.DraftWhy.{DraftWhy as Why}
use Rattle.cert_lines.specs.declared.draft.DraftWhy.TheVariants as why
use Rattle.cert_lines.proofs.NumberWords.{number_again, number_found, number_first_again, split_again, high_lacks}
use Rattle.cert_lines.proofs.NumberWords.{lacks, bind_some}
use Rattle.cert_lines.proofs.SetText.{clip, clip_same, set_again, set_found, set_high}
use Rattle.cert_lines.proofs.CiteWords.{sat, cites_again, cites_found, mode_again, mode_found}
use Rattle.cert_lines.proofs.Lists.{split_parts, chosen}
use Rattle.line_io.proofs.ReadFacts.{same_bytes}

-- the cycle of a line, which may be given
abbrev pub cycle_of : Option ℕ → Option ℕ → ℕ
cycle_of (Some c) x = c
cycle_of None None = 0
cycle_of None (Some c) = sat c

-- what stands behind a cycle
abbrev pub front : Option ℕ → List ℕ → List ℕ
front None rest = rest
front (Some c) rest = number_text c ++ 32 ∷ rest

-- what is read of the line of an entry
abbrev pub draft_of : Option ℕ → Row → Draft
draft_of g (bound n c s m) = record { cycle = cycle_of g c; set = clip n s; most = sat m; why = why.Bound }
draft_of g (branch n c mode s m cites) = record {
  cycle = cycle_of g c;
  set = clip n s;
  most = sat m;
  why = why.Branch mode (map sat cites);
}
draft_of g (swap n c s m cite out into) = record {
  cycle = cycle_of g c;
  set = clip n s;
  most = sat m;
  why = why.Swap (sat cite) (sat out) (sat into);
}
draft_of g (pairs n c s m two) = record {
  cycle = cycle_of g c;
  set = clip n s;
  most = sat m;
  why = why.Pairs (clip n two);
}
draft_of g (fixed t) = record { cycle = 0; set = []; most = 0; why = why.Bound }
draft_of g (keyed key v) = record { cycle = 0; set = []; most = 0; why = why.Bound }
draft_of g (span key v w) = record { cycle = 0; set = []; most = 0; why = why.Bound }
draft_of g (seat kind station side) = record { cycle = 0; set = []; most = 0; why = why.Bound }
draft_of g (trail t) = record { cycle = 0; set = []; most = 0; why = why.Bound }
draft_of g (frame n mode s m last cites) = record { cycle = 0; set = []; most = 0; why = why.Bound }
draft_of g (state_entry rem starts least cites) = record { cycle = 0; set = []; most = 0; why = why.Bound }
draft_of g (state_frame rem starts need last cites) = record { cycle = 0; set = []; most = 0; why = why.Bound }
draft_of g (row_entry units starts base cites) = record { cycle = 0; set = []; most = 0; why = why.Bound }
draft_of g (joined key ns) = record { cycle = 0; set = []; most = 0; why = why.Bound }

pub bound_text : (n : ℕ) (c : Option ℕ) (s : List Bool) (m : ℕ)
    → row_text (bound n c s m) ≡ codes "bound" ++ 32 ∷ front c (set_text n s ++ 32 ∷ number_text m)
unfolding row_text
bound_text n None s m = refl
bound_text n (Some c) s m = refl

pub branch_text : (n : ℕ) (c : Option ℕ) (mode : Mode) (s : List Bool) (m : ℕ) (cites : List ℕ)
    → row_text (branch n c mode s m cites)
    ≡ codes "branch" ++ 32 ∷ ((mode_letter mode ∷ []) ++ 32 ∷ front c
    (set_text n s ++ 32 ∷ (number_text m ++ 32 ∷ cites_text cites)))
unfolding row_text
branch_text n None mode s m cites = refl
branch_text n (Some c) mode s m cites = refl

pub swap_text : (n : ℕ) (c : Option ℕ) (s : List Bool) (m cite out into : ℕ) → row_text (swap n c s m cite out into)
    ≡ codes "swap" ++ 32 ∷ front c (set_text n s ++ 32 ∷ (number_text m
    ++ 32 ∷ (number_text cite ++ 32 ∷ (number_text out ++ 32 ∷ number_text into))))
unfolding row_text
swap_text n None s m cite out into = refl
swap_text n (Some c) s m cite out into = refl

pub pairs_text : (n : ℕ) (c : Option ℕ) (s : List Bool) (m : ℕ) (two : List Bool) → row_text (pairs n c s m two)
    ≡ codes "pairs" ++ 32 ∷ front c (set_text n s ++ 32 ∷ (number_text m ++ 32 ∷ set_text n two))
unfolding row_text
pairs_text n None s m two = refl
pairs_text n (Some c) s m two = refl

pub split_set : (n : ℕ) (s : List Bool) (rest : List ℕ) → parts_at 32 (set_text n s ++ 32 ∷ rest)
    ≡ Some (set_text n s, rest)
split_set n s rest = split_again 32 (set_text n s) rest (high_lacks 32 (set_text n s) (omega arith) (set_high n s))

pub split_mode : (mode : Mode) (rest : List ℕ) → parts_at 32 ((mode_letter mode ∷ []) ++ 32 ∷ rest)
    ≡ Some (mode_letter mode ∷ [], rest)
split_mode mode rest = split_again 32 (mode_letter mode ∷ []) rest (lack mode)
  where
    lack : (mode : Mode) → lacks 32 (mode_letter mode ∷ []) ≡ true
    lack Fore = refl
    lack Back = refl
    lack Both = refl

cycle_again : (g c : Option ℕ) (rest : List ℕ) → given c ≡ not (given g)
    → cycle_first g (front c rest) ≡ Some (cycle_of g c, rest)
unfolding cycle_first
cycle_again (Some x) None rest e = refl
cycle_again (Some x) (Some c) rest e = (cc)
cycle_again None None rest e = (cc)
cycle_again None (Some c) rest e = number_first_again c rest

bound_again : (n : ℕ) (g c : Option ℕ) (s : List Bool) (m : ℕ) → given c ≡ not (given g)
    → bound_in n g (front c (set_text n s ++ 32 ∷ number_text m)) ≡ Some (draft_of g (bound n c s m))
unfolding bound_in
bound_again n g c s m e =
    ap (λ o. o >>= λ c. parts_at 32 c.1 >>= λ p. set_in n p.0 >>= λ s. number_in p.1 >>= λ m.
    Some (record { cycle = c.0; set = s; most = m; why = why.Bound }))
    (cycle_again g c (set_text n s ++ 32 ∷ number_text m) e)
    ∙ ap (λ o. o >>= λ p. set_in n p.0 >>= λ s. number_in p.1 >>= λ m.
    Some (record { cycle = cycle_of g c; set = s; most = m; why = why.Bound })) (split_set n s (number_text m))
    ∙ ap (λ o. o >>= λ s. number_in (number_text m) >>= λ m.
    Some (record { cycle = cycle_of g c; set = s; most = m; why = why.Bound })) (set_again n s)
    ∙ ap (λ o. o >>= λ m. Some (record { cycle = cycle_of g c; set = clip n s; most = m; why = why.Bound }))
    (number_again m)

branch_again : (n : ℕ) (g c : Option ℕ) (mode : Mode) (s : List Bool) (m : ℕ) (cites : List ℕ) → given c ≡ not (given g)
    → branch_in n g ((mode_letter mode ∷ []) ++ 32 ∷ front c
    (set_text n s ++ 32 ∷ (number_text m ++ 32 ∷ cites_text cites))) ≡ Some (draft_of g (branch n c mode s m cites))
unfolding branch_in
branch_again n g c mode s m cites e =
    let rest : List ℕ = set_text n s ++ 32 ∷ (number_text m ++ 32 ∷ cites_text cites) in
    ap (λ o. o >>= λ l. mode_in l.0 >>= λ mode. cycle_first g l.1 >>= λ c. parts_at 32 c.1 >>= λ p.
    set_in n p.0 >>= λ s. number_first p.1 >>= λ m. cites_in m.1 >>= λ cites.
    Some (record { cycle = c.0; set = s; most = m.0; why = why.Branch mode cites }))
    (split_mode mode (front c rest))
    ∙ ap (λ o. o >>= λ mode. cycle_first g (front c rest) >>= λ c. parts_at 32 c.1 >>= λ p. set_in n p.0 >>= λ s.
    number_first p.1 >>= λ m. cites_in m.1 >>= λ cites.
    Some (record { cycle = c.0; set = s; most = m.0; why = why.Branch mode cites })) (mode_again mode)
    ∙ ap (λ o. o >>= λ c. parts_at 32 c.1 >>= λ p. set_in n p.0 >>= λ s. number_first p.1 >>= λ m.
    cites_in m.1 >>= λ cites. Some (record { cycle = c.0; set = s; most = m.0; why = why.Branch mode cites }))
    (cycle_again g c rest e)
    ∙ ap (λ o. o >>= λ p. set_in n p.0 >>= λ s. number_first p.1 >>= λ m. cites_in m.1 >>= λ cites.
    Some (record { cycle = cycle_of g c; set = s; most = m.0; why = why.Branch mode cites }))
    (split_set n s (number_text m ++ 32 ∷ cites_text cites))
    ∙ ap (λ o. o >>= λ s. number_first (number_text m ++ 32 ∷ cites_text cites) >>= λ m. cites_in m.1 >>= λ cites.
    Some (record { cycle = cycle_of g c; set = s; most = m.0; why = why.Branch mode cites })) (set_again n s)
    ∙ ap (λ o. o >>= λ m. cites_in m.1 >>= λ cites. Some (record {
      cycle = cycle_of g c;
      set = clip n s;
      most = m.0;
      why = why.Branch mode cites;
    })) (number_first_again m (cites_text cites))
    ∙ ap (λ o. o >>= λ cites. Some (record {
      cycle = cycle_of g c;
      set = clip n s;
      most = sat m;
      why = why.Branch mode cites;
    })) (cites_again cites)

swap_again : (n : ℕ) (g c : Option ℕ) (s : List Bool) (m cite out into : ℕ) → given c ≡ not (given g)
    → swap_in n g (front c (set_text n s ++ 32 ∷ (number_text m
    ++ 32 ∷ (number_text cite ++ 32 ∷ (number_text out ++ 32 ∷ number_text into)))))
    ≡ Some (draft_of g (swap n c s m cite out into))
unfolding swap_in
swap_again n g c s m cite out into e =
    let r1 : List ℕ = number_text out ++ 32 ∷ number_text into in
    let r2 : List ℕ = number_text cite ++ 32 ∷ r1 in
    let r3 : List ℕ = number_text m ++ 32 ∷ r2 in
    ap (λ o. o >>= λ c. parts_at 32 c.1 >>= λ p. set_in n p.0 >>= λ s. number_first p.1 >>= λ m.
    number_first m.1 >>= λ cite. number_first cite.1 >>= λ out. number_in out.1 >>= λ into.
    Some (record { cycle = c.0; set = s; most = m.0; why = why.Swap cite.0 out.0 into }))
    (cycle_again g c (set_text n s ++ 32 ∷ r3) e)
    ∙ ap (λ o. o >>= λ p. set_in n p.0 >>= λ s. number_first p.1 >>= λ m. number_first m.1 >>= λ cite.
    number_first cite.1 >>= λ out. number_in out.1 >>= λ into.
    Some (record { cycle = cycle_of g c; set = s; most = m.0; why = why.Swap cite.0 out.0 into }))
    (split_set n s r3)
    ∙ ap (λ o. o >>= λ s. number_first r3 >>= λ m. number_first m.1 >>= λ cite. number_first cite.1 >>= λ out.
    number_in out.1 >>= λ into. Some (record {
      cycle = cycle_of g c;
      set = s;
      most = m.0;
      why = why.Swap cite.0 out.0 into;
    })) (set_again n s)
    ∙ ap (λ o. o >>= λ m. number_first m.1 >>= λ cite. number_first cite.1 >>= λ out. number_in out.1 >>= λ into.
    Some (record { cycle = cycle_of g c; set = clip n s; most = m.0; why = why.Swap cite.0 out.0 into }))
    (number_first_again m r2)
    ∙ ap (λ o. o >>= λ cite. number_first cite.1 >>= λ out. number_in out.1 >>= λ into.
    Some (record { cycle = cycle_of g c; set = clip n s; most = sat m; why = why.Swap cite.0 out.0 into }))
    (number_first_again cite r1)
    ∙ ap (λ o. o >>= λ out. number_in out.1 >>= λ into. Some
    (record { cycle = cycle_of g c; set = clip n s; most = sat m; why = why.Swap (sat cite) out.0 into }))
    (number_first_again out (number_text into))
    ∙ ap (λ o. o >>= λ into. Some (record {
      cycle = cycle_of g c;
      set = clip n s;
      most = sat m;
      why = why.Swap (sat cite) (sat out) into;
    })) (number_again into)

pairs_again : (n : ℕ) (g c : Option ℕ) (s : List Bool) (m : ℕ) (two : List Bool) → given c ≡ not (given g)
    → pairs_in n g (front c (set_text n s ++ 32 ∷ (number_text m ++ 32 ∷ set_text n two)))
    ≡ Some (draft_of g (pairs n c s m two))
unfolding pairs_in
pairs_again n g c s m two e =
    let rest : List ℕ = number_text m ++ 32 ∷ set_text n two in
    ap (λ o. o >>= λ c. parts_at 32 c.1 >>= λ p. set_in n p.0 >>= λ s. number_first p.1 >>= λ m.
    set_in n m.1 >>= λ two. Some (record { cycle = c.0; set = s; most = m.0; why = why.Pairs two }))
    (cycle_again g c (set_text n s ++ 32 ∷ rest) e)
    ∙ ap (λ o. o >>= λ p. set_in n p.0 >>= λ s. number_first p.1 >>= λ m. set_in n m.1 >>= λ two.
    Some (record { cycle = cycle_of g c; set = s; most = m.0; why = why.Pairs two })) (split_set n s rest)
    ∙ ap (λ o. o >>= λ s. number_first rest >>= λ m. set_in n m.1 >>= λ two.
    Some (record { cycle = cycle_of g c; set = s; most = m.0; why = why.Pairs two })) (set_again n s)
    ∙ ap (λ o. o >>= λ m. set_in n m.1 >>= λ two.
    Some (record { cycle = cycle_of g c; set = clip n s; most = m.0; why = why.Pairs two }))
    (number_first_again m (set_text n two))
    ∙ ap (λ o. o >>= λ two.
    Some (record { cycle = cycle_of g c; set = clip n s; most = sat m; why = why.Pairs two })) (set_again n two)

-- the line of an entry by its first word
abbrev by_word : ℕ → Option ℕ → Bool → List ℕ → List ℕ → Option Draft
by_word n g b word rest =
    cond (bytes_eq word (codes "bound")) (bound_in n g rest)
    (cond (bytes_eq word (codes "branch")) (branch_in n g rest)
    (cond (bytes_eq word (codes "swap")) (swap_in n g rest)
    (cond (b && bytes_eq word (codes "pairs")) (pairs_in n g rest) None)))

split_word : (n : ℕ) (g : Option ℕ) (b : Bool) (word rest : List ℕ) → lacks 32 word ≡ true
    → entry_in n g b (word ++ 32 ∷ rest) ≡ by_word n g b word rest
unfolding entry_in
split_word n g b word rest e = ap (λ o. o >>= λ k. by_word n g b k.0 k.1) (split_again 32 word rest e)

-- a form that the line of an entry may have, of a text with entries by pairs or without
abbrev pub IsEntryForm : ℕ → Bool → Bool → Form → Type 0
IsEntryForm n h b (entry k x) = (k ≡ n) × (x ≡ h)
IsEntryForm n h b (entry_by_pairs k x) = (k ≡ n) × (x ≡ h) × (b ≡ true)
IsEntryForm n h b (text t) = ⊥
IsEntryForm n h b (number key) = ⊥
IsEntryForm n h b (two_numbers key) = ⊥
IsEntryForm n h b (place kind) = ⊥
IsEntryForm n h b head = ⊥
IsEntryForm n h b (open_frame k) = ⊥
IsEntryForm n h b (entry_of_state k j) = ⊥
IsEntryForm n h b (frame_of_state k j) = ⊥
IsEntryForm n h b (entry_of_rows k j) = ⊥
IsEntryForm n h b (many_numbers key k) = ⊥

pub entry_again : (n : ℕ) (g : Option ℕ) (b : Bool) (r : Row) → IsEntryForm n (not (given g)) b (form_of r)
    → entry_in n g b (row_text r) ≡ Some (draft_of g r)
entry_again n g b (bound k c s m) f =
    let P : ℕ → Type 0 = λ x. entry_in x g b (row_text (bound k c s m)) ≡ Some (draft_of g (bound k c s m)) in
    subst P f.0 (ap (entry_in k g b) (bound_text k c s m) ∙ split_word k g b (codes "bound")
    (front c (set_text k s ++ 32 ∷ number_text m)) refl ∙ bound_again k g c s m f.1)
entry_again n g b (branch k c mode s m cites) f =
    let P : ℕ → Type 0 = λ x. entry_in x g b (row_text (branch k c mode s m cites))
    ≡ Some (draft_of g (branch k c mode s m cites)) in
    subst P f.0 (ap (entry_in k g b) (branch_text k c mode s m cites)
    ∙ split_word k g b (codes "branch") ((mode_letter mode ∷ [])
    ++ 32 ∷ front c (set_text k s ++ 32 ∷ (number_text m ++ 32 ∷ cites_text cites))) refl
    ∙ branch_again k g c mode s m cites f.1)
entry_again n g b (swap k c s m cite out into) f =
    let P : ℕ → Type 0 = λ x. entry_in x g b (row_text (swap k c s m cite out into))
    ≡ Some (draft_of g (swap k c s m cite out into)) in
    subst P f.0 (ap (entry_in k g b) (swap_text k c s m cite out into)
    ∙ split_word k g b (codes "swap") (front c (set_text k s ++ 32 ∷ (number_text m
    ++ 32 ∷ (number_text cite ++ 32 ∷ (number_text out ++ 32 ∷ number_text into))))) refl
    ∙ swap_again k g c s m cite out into f.1)
entry_again n g b (pairs k c s m two) f =
    let P : ℕ → Type 0 = λ x. entry_in x g b (row_text (pairs k c s m two)) ≡ Some (draft_of g (pairs k c s m two)) in
    let rest : List ℕ = front c (set_text k s ++ 32 ∷ (number_text m ++ 32 ∷ set_text k two)) in
    subst P f.0 (ap (entry_in k g b) (pairs_text k c s m two) ∙ split_word k g b (codes "pairs") rest refl
    ∙ ap (λ t. cond (t && bytes_eq (codes "pairs") (codes "pairs")) (pairs_in k g rest) None) f.2
    ∙ pairs_again k g c s m two f.1)
entry_again n g b (fixed t) f = absurd f
entry_again n g b (keyed key v) f = absurd f
entry_again n g b (span key v w) f = absurd f
entry_again n g b (seat kind station side) f = absurd f
entry_again n g b (trail t) f = absurd f
entry_again n g b (frame k mode s m last cites) f = absurd f
entry_again n g b (state_entry rem starts least cites) f = absurd f
entry_again n g b (state_frame rem starts need last cites) f = absurd f
entry_again n g b (row_entry units starts base cites) f = absurd f
entry_again n g b (joined key ns) f = absurd f

-- a number in front, as it is written
pub number_first_found : (bytes : List ℕ) (x : ℕ × List ℕ) → number_first bytes ≡ Some x
    → (c : ℕ) × (bytes ≡ number_text c ++ 32 ∷ x.1) × (sat c ≡ x.0)
unfolding number_first
number_first_found bytes x e =
    let a = bind_some (parts_at 32 bytes) (λ p. number_in p.0 >>= λ n. Some (n, p.1)) x e in
    let b = bind_some (number_in a.0.0) (λ n. Some (n, a.0.1)) x a.2 in
    let f = number_found a.0.0 b.0 b.1 in
    let y : (b.0, a.0.1) ≡ x = cc in (
      value_of a.0.0,
      split_parts 32 bytes a.0 a.1 ∙ ap (λ w. w ++ 32 ∷ a.0.1) (sym f.0)
          ∙ ap (λ z. number_text (value_of a.0.0) ++ 32 ∷ z.1) y,
      sym f.1 ∙ ap (λ z. z.0) y,
    )

-- a set in front of a blank, as it is written
pub set_first_found : (n : ℕ) (bytes : List ℕ) (p : List ℕ × List ℕ) (s : List Bool) → n ≤ 1024
    → parts_at 32 bytes ≡ Some p → set_in n p.0 ≡ Some s → (bytes ≡ set_text n s ++ 32 ∷ p.1) × (clip n s ≡ s)
set_first_found n bytes p s m e f =
    let g = set_found n p.0 s m f in
    (split_parts 32 bytes p e ∙ ap (λ w. w ++ 32 ∷ p.1) (sym g.0), clip_same n s m g.1)

cycle_found : (g : Option ℕ) (bytes : List ℕ) (x : ℕ × List ℕ) → cycle_first g bytes ≡ Some x
    → (c : Option ℕ) × (given c ≡ not (given g)) × (bytes ≡ front c x.1) × (cycle_of g c ≡ x.0)
unfolding cycle_first
cycle_found (Some y) bytes x e = let f : (y, bytes) ≡ x = cc in (None, refl, ap (λ z. z.1) f, ap (λ z. z.0) f)
cycle_found None bytes x e = let f = number_first_found bytes x e in (Some f.0, refl, f.1, f.2)

-- a row that was read from a line
pub record Found (n : ℕ) (g : Option ℕ) (b : Bool) (line : List ℕ) (d : Draft) : Type 0 where
  pub row : Row
  pub form : IsEntryForm n (not (given g)) b (form_of row)
  pub text : row_text row ≡ line
  pub draft : draft_of g row ≡ d

abbrev the_draft : ℕ → List Bool → ℕ → Why → Draft
the_draft c s m w = record { cycle = c; set = s; most = m; why = w }

-- two drafts whose parts are equal
same_draft : (c d : ℕ) (s t : List Bool) (m k : ℕ) (v w : Why) → c ≡ d → s ≡ t → m ≡ k → v ≡ w
    → the_draft c s m v ≡ the_draft d t k w
same_draft c d s t m k v w a b e f = ap (λ x. the_draft x s m v) a ∙ ap (λ x. the_draft d x m v) b
    ∙ ap (λ x. the_draft d t x v) e ∙ ap (λ x. the_draft d t k x) f

bound_found : (n : ℕ) (g : Option ℕ) (w : Bool) (bytes : List ℕ) (d : Draft) → n ≤ 1024 → bound_in n g bytes ≡ Some d
    → Found n g w (codes "bound" ++ 32 ∷ bytes) d
unfolding bound_in
bound_found n g w bytes d h e =
    let a = bind_some (cycle_first g bytes) (λ c. parts_at 32 c.1 >>= λ p. set_in n p.0 >>= λ s. number_in p.1 >>= λ m.
    Some (the_draft c.0 s m why.Bound)) d e in
    let b = bind_some (parts_at 32 a.0.1) (λ p. set_in n p.0 >>= λ s. number_in p.1 >>= λ m.
    Some (the_draft a.0.0 s m why.Bound)) d a.2 in
    let s = bind_some (set_in n b.0.0) (λ s. number_in b.0.1 >>= λ m. Some (the_draft a.0.0 s m why.Bound)) d b.2 in
    let m = bind_some (number_in b.0.1) (λ m. Some (the_draft a.0.0 s.0 m why.Bound)) d s.2 in
    let c = cycle_found g bytes a.0 a.1 in
    let t = set_first_found n a.0.1 b.0 s.0 h b.1 s.1 in
    let f = number_found b.0.1 m.0 m.1 in
    let last : the_draft a.0.0 s.0 m.0 why.Bound ≡ d = same_Some (the_draft a.0.0 s.0 m.0 why.Bound) d m.2 in
    record {
      row = bound n c.0 s.0 (value_of b.0.1);
      form = (refl, c.1);
      text = bound_text n c.0 s.0 (value_of b.0.1)
          ∙ ap (λ r. codes "bound" ++ 32 ∷ front c.0 r) (ap (λ w. set_text n s.0 ++ 32 ∷ w) f.0 ∙ sym t.0)
          ∙ ap (λ r. codes "bound" ++ 32 ∷ r) (sym c.2);
      draft = same_draft (cycle_of g c.0) a.0.0 (clip n s.0) s.0 (sat (value_of b.0.1)) m.0 why.Bound why.Bound c.3 t.1
          (sym f.1) refl ∙ last;
    }

branch_found : (n : ℕ) (g : Option ℕ) (w : Bool) (bytes : List ℕ) (d : Draft) → n ≤ 1024 → branch_in n g bytes ≡ Some d
    → Found n g w (codes "branch" ++ 32 ∷ bytes) d
unfolding branch_in
branch_found n g w bytes d h e =
    let l = bind_some (parts_at 32 bytes) (λ l. mode_in l.0 >>= λ mode. cycle_first g l.1 >>= λ c.
    parts_at 32 c.1 >>= λ p. set_in n p.0 >>= λ s. number_first p.1 >>= λ m. cites_in m.1 >>= λ cites.
    Some (the_draft c.0 s m.0 (why.Branch mode cites))) d e in
    let o = bind_some (mode_in l.0.0) (λ mode. cycle_first g l.0.1 >>= λ c. parts_at 32 c.1 >>= λ p.
    set_in n p.0 >>= λ s. number_first p.1 >>= λ m. cites_in m.1 >>= λ cites.
    Some (the_draft c.0 s m.0 (why.Branch mode cites))) d l.2 in
    let a = bind_some (cycle_first g l.0.1) (λ c. parts_at 32 c.1 >>= λ p. set_in n p.0 >>= λ s.
    number_first p.1 >>= λ m. cites_in m.1 >>= λ cites. Some (the_draft c.0 s m.0 (why.Branch o.0 cites))) d o.2 in
    let b = bind_some (parts_at 32 a.0.1) (λ p. set_in n p.0 >>= λ s. number_first p.1 >>= λ m.
    cites_in m.1 >>= λ cites. Some (the_draft a.0.0 s m.0 (why.Branch o.0 cites))) d a.2 in
    let s = bind_some (set_in n b.0.0) (λ s. number_first b.0.1 >>= λ m. cites_in m.1 >>= λ cites.
    Some (the_draft a.0.0 s m.0 (why.Branch o.0 cites))) d b.2 in
    let m = bind_some (number_first b.0.1) (λ m. cites_in m.1 >>= λ cites.
    Some (the_draft a.0.0 s.0 m.0 (why.Branch o.0 cites))) d s.2 in
    let x = bind_some (cites_in m.0.1) (λ cites. Some (the_draft a.0.0 s.0 m.0.0 (why.Branch o.0 cites))) d m.2 in
    let c = cycle_found g l.0.1 a.0 a.1 in
    let t = set_first_found n a.0.1 b.0 s.0 h b.1 s.1 in
    let f = number_first_found b.0.1 m.0 m.1 in
    let y = cites_found m.0.1 x.0 x.1 in
    let last : the_draft a.0.0 s.0 m.0.0 (why.Branch o.0 x.0) ≡ d =
    same_Some (the_draft a.0.0 s.0 m.0.0 (why.Branch o.0 x.0)) d x.2 in
    record {
      row = branch n c.0 o.0 s.0 f.0 y.0;
      form = (refl, c.1);
      text = branch_text n c.0 o.0 s.0 f.0 y.0
          ∙ ap (λ r. codes "branch" ++ 32 ∷ ((mode_letter o.0 ∷ []) ++ 32 ∷ front c.0 r))
          (ap (λ w. set_text n s.0 ++ 32 ∷ (number_text f.0 ++ 32 ∷ w)) y.1
          ∙ ap (λ w. set_text n s.0 ++ 32 ∷ w) (sym f.1) ∙ sym t.0)
          ∙ ap (λ r. codes "branch" ++ 32 ∷ ((mode_letter o.0 ∷ []) ++ 32 ∷ r)) (sym c.2)
          ∙ ap (λ r. codes "branch" ++ 32 ∷ (r ++ 32 ∷ l.0.1)) (mode_found l.0.0 o.0 o.1)
          ∙ ap (λ r. codes "branch" ++ 32 ∷ r) (sym (split_parts 32 bytes l.0 l.1));
      draft = same_draft (cycle_of g c.0) a.0.0 (clip n s.0) s.0 (sat f.0) m.0.0 (why.Branch o.0 (map sat y.0))
          (why.Branch o.0 x.0) c.3 t.1 f.2 (ap (why.Branch o.0) y.2) ∙ last;
    }

swap_found : (n : ℕ) (g : Option ℕ) (w : Bool) (bytes : List ℕ) (d : Draft) → n ≤ 1024 → swap_in n g bytes ≡ Some d
    → Found n g w (codes "swap" ++ 32 ∷ bytes) d
unfolding swap_in
swap_found n g w bytes d h e =
    let a = bind_some (cycle_first g bytes) (λ c. parts_at 32 c.1 >>= λ p. set_in n p.0 >>= λ s.
    number_first p.1 >>= λ m. number_first m.1 >>= λ cite. number_first cite.1 >>= λ out.
    number_in out.1 >>= λ into. Some (the_draft c.0 s m.0 (why.Swap cite.0 out.0 into))) d e in
    let b = bind_some (parts_at 32 a.0.1) (λ p. set_in n p.0 >>= λ s. number_first p.1 >>= λ m.
    number_first m.1 >>= λ cite. number_first cite.1 >>= λ out. number_in out.1 >>= λ into.
    Some (the_draft a.0.0 s m.0 (why.Swap cite.0 out.0 into))) d a.2 in
    let s = bind_some (set_in n b.0.0) (λ s. number_first b.0.1 >>= λ m. number_first m.1 >>= λ cite.
    number_first cite.1 >>= λ out. number_in out.1 >>= λ into.
    Some (the_draft a.0.0 s m.0 (why.Swap cite.0 out.0 into))) d b.2 in
    let m = bind_some (number_first b.0.1) (λ m. number_first m.1 >>= λ cite. number_first cite.1 >>= λ out.
    number_in out.1 >>= λ into. Some (the_draft a.0.0 s.0 m.0 (why.Swap cite.0 out.0 into))) d s.2 in
    let x = bind_some (number_first m.0.1) (λ cite. number_first cite.1 >>= λ out. number_in out.1 >>= λ into.
    Some (the_draft a.0.0 s.0 m.0.0 (why.Swap cite.0 out.0 into))) d m.2 in
    let o = bind_some (number_first x.0.1) (λ out. number_in out.1 >>= λ into.
    Some (the_draft a.0.0 s.0 m.0.0 (why.Swap x.0.0 out.0 into))) d x.2 in
    let i = bind_some (number_in o.0.1) (λ into. Some (the_draft a.0.0 s.0 m.0.0 (why.Swap x.0.0 o.0.0 into))) d o.2 in
    let c = cycle_found g bytes a.0 a.1 in
    let t = set_first_found n a.0.1 b.0 s.0 h b.1 s.1 in
    let f = number_first_found b.0.1 m.0 m.1 in
    let y = number_first_found m.0.1 x.0 x.1 in
    let z = number_first_found x.0.1 o.0 o.1 in
    let v = number_found o.0.1 i.0 i.1 in
    let last : the_draft a.0.0 s.0 m.0.0 (why.Swap x.0.0 o.0.0 i.0) ≡ d =
    same_Some (the_draft a.0.0 s.0 m.0.0 (why.Swap x.0.0 o.0.0 i.0)) d i.2 in
    record {
      row = swap n c.0 s.0 f.0 y.0 z.0 (value_of o.0.1);
      form = (refl, c.1);
      text = swap_text n c.0 s.0 f.0 y.0 z.0 (value_of o.0.1)
          ∙ ap (λ r. codes "swap" ++ 32 ∷ front c.0 (set_text n s.0 ++ 32 ∷ (number_text f.0 ++ 32 ∷ r)))
          (ap (λ w. number_text y.0 ++ 32 ∷ (number_text z.0 ++ 32 ∷ w)) v.0
          ∙ ap (λ w. number_text y.0 ++ 32 ∷ w) (sym z.1) ∙ sym y.1)
          ∙ ap (λ r. codes "swap" ++ 32 ∷ front c.0 r) (ap (λ w. set_text n s.0 ++ 32 ∷ w) (sym f.1) ∙ sym t.0)
          ∙ ap (λ r. codes "swap" ++ 32 ∷ r) (sym c.2);
      draft = same_draft (cycle_of g c.0) a.0.0 (clip n s.0) s.0 (sat f.0) m.0.0
          (why.Swap (sat y.0) (sat z.0) (sat (value_of o.0.1))) (why.Swap x.0.0 o.0.0 i.0) c.3 t.1 f.2
          (ap (λ q. why.Swap q (sat z.0) (sat (value_of o.0.1))) y.2
          ∙ ap (λ q. why.Swap x.0.0 q (sat (value_of o.0.1))) z.2 ∙ ap (λ q. why.Swap x.0.0 o.0.0 q) (sym v.1))
          ∙ last;
    }

pairs_found : (n : ℕ) (g : Option ℕ) (w : Bool) (bytes : List ℕ) (d : Draft) → n ≤ 1024 → w ≡ true
    → pairs_in n g bytes ≡ Some d → Found n g w (codes "pairs" ++ 32 ∷ bytes) d
unfolding pairs_in
pairs_found n g w bytes d h may e =
    let a = bind_some (cycle_first g bytes) (λ c. parts_at 32 c.1 >>= λ p. set_in n p.0 >>= λ s.
    number_first p.1 >>= λ m. set_in n m.1 >>= λ two. Some (the_draft c.0 s m.0 (why.Pairs two))) d e in
    let b = bind_some (parts_at 32 a.0.1) (λ p. set_in n p.0 >>= λ s. number_first p.1 >>= λ m.
    set_in n m.1 >>= λ two. Some (the_draft a.0.0 s m.0 (why.Pairs two))) d a.2 in
    let s = bind_some (set_in n b.0.0) (λ s. number_first b.0.1 >>= λ m. set_in n m.1 >>= λ two.
    Some (the_draft a.0.0 s m.0 (why.Pairs two))) d b.2 in
    let m = bind_some (number_first b.0.1) (λ m. set_in n m.1 >>= λ two.
    Some (the_draft a.0.0 s.0 m.0 (why.Pairs two))) d s.2 in
    let x = bind_some (set_in n m.0.1) (λ two. Some (the_draft a.0.0 s.0 m.0.0 (why.Pairs two))) d m.2 in
    let c = cycle_found g bytes a.0 a.1 in
    let t = set_first_found n a.0.1 b.0 s.0 h b.1 s.1 in
    let f = number_first_found b.0.1 m.0 m.1 in
    let y = set_found n m.0.1 x.0 h x.1 in
    let last : the_draft a.0.0 s.0 m.0.0 (why.Pairs x.0) ≡ d =
    same_Some (the_draft a.0.0 s.0 m.0.0 (why.Pairs x.0)) d x.2 in
    record {
      row = pairs n c.0 s.0 f.0 x.0;
      form = (refl, c.1, may);
      text = pairs_text n c.0 s.0 f.0 x.0
          ∙ ap (λ r. codes "pairs" ++ 32 ∷ front c.0 r)
          (ap (λ z. set_text n s.0 ++ 32 ∷ (number_text f.0 ++ 32 ∷ z)) y.0
          ∙ ap (λ z. set_text n s.0 ++ 32 ∷ z) (sym f.1) ∙ sym t.0)
          ∙ ap (λ r. codes "pairs" ++ 32 ∷ r) (sym c.2);
      draft = same_draft (cycle_of g c.0) a.0.0 (clip n s.0) s.0 (sat f.0) m.0.0 (why.Pairs (clip n x.0))
          (why.Pairs x.0) c.3 t.1 f.2 (ap (λ z. why.Pairs z) (clip_same n x.0 h y.1)) ∙ last;
    }

-- the found row behind a key
keyed_found : (n : ℕ) (g : Option ℕ) (b : Bool) (line key rest word : List ℕ) (d : Draft) → line ≡ word ++ 32 ∷ rest
    → word ≡ key → Found n g b (key ++ 32 ∷ rest) d → Found n g b line d
keyed_found n g b line key rest word d e f x = record {
  row = x.row;
  form = x.form;
  text = x.text ∙ ap (λ w. w ++ 32 ∷ rest) (sym f) ∙ sym e;
  draft = x.draft;
}

-- the found row behind the word of pairs
word_found : (n : ℕ) (g : Option ℕ) (w : Bool) (line rest word : List ℕ) (d : Draft) → n ≤ 1024
    → line ≡ word ++ 32 ∷ rest
    → cond (w && bytes_eq word (codes "pairs")) (pairs_in n g rest) None ≡ Some d → Found n g w line d
word_found n g w line rest word d h p e =
    elim (chosen (w && bytes_eq word (codes "pairs")) (pairs_in n g rest) None (Some d) e) [
      | inl a ↦ (let t = and_parts w (bytes_eq word (codes "pairs")) a.0 in
          keyed_found n g w line (codes "pairs") rest word d p (same_bytes word (codes "pairs") t.1)
          (pairs_found n g w rest d h t.0 a.1))
      | inr a ↦ (let x : None ≡ Some d = a.1 in (cc))
    ]

pub entry_found : (n : ℕ) (g : Option ℕ) (w : Bool) (line : List ℕ) (d : Draft) → n ≤ 1024
    → entry_in n g w line ≡ Some d → Found n g w line d
unfolding entry_in
entry_found n g w line d h e =
    let k = bind_some (parts_at 32 line) (λ k. by_word n g w k.0 k.1) d e in
    let p = split_parts 32 line k.0 k.1 in
    let last : Option Draft = cond (w && bytes_eq k.0.0 (codes "pairs")) (pairs_in n g k.0.1) None in
    elim (chosen (bytes_eq k.0.0 (codes "bound")) (bound_in n g k.0.1)
    (cond (bytes_eq k.0.0 (codes "branch")) (branch_in n g k.0.1)
    (cond (bytes_eq k.0.0 (codes "swap")) (swap_in n g k.0.1) last)) (Some d) k.2) [
      | inl a ↦ keyed_found n g w line (codes "bound") k.0.1 k.0.0 d p (same_bytes k.0.0 (codes "bound") a.0)
          (bound_found n g w k.0.1 d h a.1)
      | inr a ↦ elim (chosen (bytes_eq k.0.0 (codes "branch")) (branch_in n g k.0.1)
          (cond (bytes_eq k.0.0 (codes "swap")) (swap_in n g k.0.1) last) (Some d) a.1) [
            | inl b ↦ keyed_found n g w line (codes "branch") k.0.1 k.0.0 d p (same_bytes k.0.0 (codes "branch") b.0)
                (branch_found n g w k.0.1 d h b.1)
            | inr b ↦ elim (chosen (bytes_eq k.0.0 (codes "swap")) (swap_in n g k.0.1) last (Some d) b.1) [
              | inl c ↦ keyed_found n g w line (codes "swap") k.0.1 k.0.0 d p (same_bytes k.0.0 (codes "swap") c.0)
                  (swap_found n g w k.0.1 d h c.1)
              | inr c ↦ word_found n g w line k.0.1 k.0.0 d h p c.1
            ]
          ]
    ]
