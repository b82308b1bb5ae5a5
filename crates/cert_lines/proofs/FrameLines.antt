-- Lines of frames that are written are read, and what is read is how they are written.
use Rattle.std.proofs.Common.{◌≡◌, ℕ, ◌≤◌, Bool, true, false, cond, nat_eq, nat_le, List, [], ◌∷◌, ◌++◌, map, refl}
use Rattle.std.proofs.Common.{sym, ◌∙◌, ap, subst, arith, Some, None, Option, inl, inr, replicate}
use Rattle.std.specs.Prelude.{codes, bytes_eq}
use Rattle.std.proofs.lemmas.Option.{same_Some, none-some}
use Rattle.std.proofs.lemmas.Bool.Decides.{nat_tests}
use Rattle.line_rules.specs.declared.types.Mode.{Mode}
use Rattle.line_rules.specs.declared.types.Mode.TheVariants.{Fore, Back, Both}
use Rattle.line_rules.specs.declared.types.Load.{Load}
use Rattle.cert_lines.specs.Numbers.{number_text, set_text, cites_text, mode_letter, load_text, last_text}
use Rattle.cert_lines.specs.Rows.{frame, row_text}
use Rattle.cert_lines.specs.Words.{◌>>=◌, parts_at, number_first, set_in, mode_in, cites_in, is_none}
use Rattle.cert_lines.specs.inner.LineReading.{load_in, last_in, frame_in, frame_rest_in}
use Rattle.cert_lines.specs.declared.draft.FrameDraft.{FrameDraft}
use Rattle.cert_lines.proofs.NumberWords.{number_first_again, split_again, high_lacks, all_high, lacks, bind_some}
use Rattle.cert_lines.proofs.NumberWords.{lacks_append}
use Rattle.cert_lines.proofs.SetText.{clip, clip_same, set_again, set_found, set_high}
use Rattle.cert_lines.proofs.CiteWords.{sat, cites_again, cites_found, mode_again, mode_found, is_none_word}
use Rattle.cert_lines.proofs.EntryLines.{split_set, split_mode, number_first_found, set_first_found}
use Rattle.cert_lines.proofs.Lists.{split_parts, chosen}
use Rattle.line_io.proofs.ReadFacts.{same_bytes, left}
use Rattle.cert_lines.proofs.CiteWords.{none_of_high}

abbrev no_task : List Bool
no_task = replicate 1024 false

-- what is read of a load
abbrev pub load_read : ℕ → Mode → Load → Load
load_read n Fore l = record { front = clip n l.front; back = replicate 1024 false }
load_read n Back l = record { front = replicate 1024 false; back = clip n l.back }
load_read n Both l = record { front = clip n l.front; back = clip n l.back }

abbrev pub last_read : ℕ → Mode → Option Load → Option Load
last_read n mode None = None
last_read n mode (Some l) = Some (load_read n mode l)

load_again : (n : ℕ) (mode : Mode) (l : Load) → load_in n mode (load_text n mode l) ≡ Some (load_read n mode l)
unfolding load_in
load_again n Fore l = ap (λ o. o >>= λ s. Some (record { front = s; back = no_task })) (set_again n l.front)
load_again n Back l = ap (λ o. o >>= λ s. Some (record { front = no_task; back = s })) (set_again n l.back)
load_again n Both l =
    ap (λ o. o >>= λ p. set_in n p.0 >>= λ s. set_in n p.1 >>= λ t. Some (record { front = s; back = t }))
    (split_again 47 (set_text n l.front) (set_text n l.back)
    (high_lacks 47 (set_text n l.front) (omega arith) (set_high n l.front)))
    ∙ ap (λ o. o >>= λ s. set_in n (set_text n l.back) >>= λ t. Some (record { front = s; back = t }))
    (set_again n l.front)
    ∙ ap (λ o. o >>= λ t. Some (record { front = clip n l.front; back = t })) (set_again n l.back)

load_found : (n : ℕ) (mode : Mode) (word : List ℕ) (l : Load) → n ≤ 1024 → load_in n mode word ≡ Some l
    → (load_text n mode l ≡ word) × (load_read n mode l ≡ l)
unfolding load_in
load_found n Fore word l h e =
    let a = bind_some (set_in n word) (λ s. Some (record { front = s; back = no_task })) l e in
    let f = set_found n word a.0 h a.1 in
    let y : record { front = a.0; back = no_task } ≡ l = same_Some (record { front = a.0; back = no_task }) l a.2 in (
      ap (λ z. set_text n z.front) (sym y) ∙ f.0,
      ap (λ z. load_read n Fore z) (sym y)
          ∙ ap (λ z. record { front = z; back = no_task }) (clip_same n a.0 h f.1) ∙ y,
    )
load_found n Back word l h e =
    let a = bind_some (set_in n word) (λ s. Some (record { front = no_task; back = s })) l e in
    let f = set_found n word a.0 h a.1 in
    let y : record { front = no_task; back = a.0 } ≡ l = same_Some (record { front = no_task; back = a.0 }) l a.2 in (
      ap (λ z. set_text n z.back) (sym y) ∙ f.0,
      ap (λ z. load_read n Back z) (sym y)
          ∙ ap (λ z. record { front = no_task; back = z }) (clip_same n a.0 h f.1) ∙ y,
    )
load_found n Both word l h e =
    let p = bind_some (parts_at 47 word) (λ p. set_in n p.0 >>= λ s. set_in n p.1 >>= λ t.
    Some (record { front = s; back = t })) l e in
    let a = bind_some (set_in n p.0.0) (λ s. set_in n p.0.1 >>= λ t. Some (record { front = s; back = t })) l p.2 in
    let b = bind_some (set_in n p.0.1) (λ t. Some (record { front = a.0; back = t })) l a.2 in
    let f = set_found n p.0.0 a.0 h a.1 in
    let g = set_found n p.0.1 b.0 h b.1 in
    let y : record { front = a.0; back = b.0 } ≡ l = same_Some (record { front = a.0; back = b.0 }) l b.2 in (
      ap (λ z. load_text n Both z) (sym y) ∙ ap (λ w. w ++ 47 ∷ set_text n b.0) f.0 ∙ ap (λ w. p.0.0 ++ 47 ∷ w) g.0
          ∙ sym (split_parts 47 word p.0 p.1),
      ap (λ z. load_read n Both z) (sym y) ∙ ap (λ z. record { front = z; back = clip n b.0 }) (clip_same n a.0 h f.1)
          ∙ ap (λ z. record { front = a.0; back = z }) (clip_same n b.0 h g.1) ∙ y,
    )

first_high : (b : ℕ) → nat_le 48 b ≡ true → nat_eq b 45 ≡ false
first_high b e = grind (arith, nat_tests)

none_high : (word rest : List ℕ) → all_high word ≡ true → is_none (word ++ rest) ≡ true → word ≡ []
none_high [] rest e f = refl
none_high (b ∷ []) [] e f = (let w : true ≡ false = sym f ∙ first_high b (left (nat_le 48 b) true e) in (cc))
none_high (b ∷ []) (c ∷ rest) e f = (cc)
none_high (b ∷ c ∷ word) rest e f = (cc)

last_again : (n : ℕ) (mode : Mode) (last : Option Load) → last_in n mode (last_text n mode last)
    ≡ Some (last_read n mode last)
unfolding last_in
last_again n mode None = refl
last_again n mode (Some l) =
    ap (λ b. cond b (Some None) (load_in n mode (load_text n mode l) >>= λ l. Some (Some l))) (no_mark mode l)
    ∙ ap (λ o. o >>= λ l. Some (Some l)) (load_again n mode l)
  where
    stroke : (w : List ℕ) → is_none (47 ∷ w) ≡ false
    stroke [] = refl
    stroke (c ∷ w) = refl

    high : (word rest : List ℕ) → all_high word ≡ true → (b : Bool) → is_none (word ++ rest) ≡ b
        → (word ≡ [] → is_none rest ≡ false) → is_none (word ++ rest) ≡ false
    high word rest h false e k = e
    high word rest h true e k = let z : word ≡ [] = none_high word rest h e in ap (λ w. is_none (w ++ rest)) z ∙ k z

    no_mark : (mode : Mode) (l : Load) → is_none (load_text n mode l) ≡ false
    no_mark Fore l = none_of_high (set_text n l.front) (set_high n l.front)
    no_mark Back l = none_of_high (set_text n l.back) (set_high n l.back)
    no_mark Both l = high (set_text n l.front) (47 ∷ set_text n l.back) (set_high n l.front)
        (is_none (set_text n l.front ++ 47 ∷ set_text n l.back)) refl (λ z. stroke (set_text n l.back))

last_found : (n : ℕ) (mode : Mode) (word : List ℕ) (last : Option Load) → n ≤ 1024 → last_in n mode word ≡ Some last
    → (last_text n mode last ≡ word) × (last_read n mode last ≡ last)
unfolding last_in
last_found n mode word last h e = elim (chosen (is_none word) (Some None) (load_in n mode word >>= λ l. Some (Some l))
    (Some last) e) [
      | inl a ↦ (let y : None ≡ last = same_Some None last a.1 in
          (ap (last_text n mode) (sym y) ∙ sym (is_none_word word a.0), ap (last_read n mode) (sym y) ∙ y))
      | inr a ↦ (let b = bind_some (load_in n mode word) (λ l. Some (Some l)) last a.1 in
          let f = load_found n mode word b.0 h b.1 in
          let y : Some b.0 ≡ last = same_Some (Some b.0) last b.2 in
          (ap (last_text n mode) (sym y) ∙ f.0, ap (last_read n mode) (sym y) ∙ ap (λ z. Some z) f.1 ∙ y))
    ]

last_lacks : (n : ℕ) (mode : Mode) (last : Option Load) → lacks 32 (last_text n mode last) ≡ true
last_lacks n mode None = refl
last_lacks n Fore (Some l) = high_lacks 32 (set_text n l.front) (omega arith) (set_high n l.front)
last_lacks n Back (Some l) = high_lacks 32 (set_text n l.back) (omega arith) (set_high n l.back)
last_lacks n Both (Some l) = lacks_append (set_text n l.front) (47 ∷ set_text n l.back)
    (high_lacks 32 (set_text n l.front) (omega arith) (set_high n l.front))
    (high_lacks 32 (set_text n l.back) (omega arith) (set_high n l.back))

-- a frame
abbrev pub the_frame : Mode → List Bool → ℕ → Option Load → List ℕ → FrameDraft
the_frame mode s m last cites = record { mode = mode; set = s; most = m; last = last; cites = cites }

rest_again : (n : ℕ) (mode : Mode) (s : List Bool) (m : ℕ) (last : Option Load) (cites : List ℕ)
    → frame_rest_in n mode s (number_text m ++ 32 ∷ (last_text n mode last ++ 32 ∷ cites_text cites))
    ≡ Some (the_frame mode s (sat m) (last_read n mode last) (map sat cites))
unfolding frame_rest_in
rest_again n mode s m last cites =
    let r1 : List ℕ = last_text n mode last ++ 32 ∷ cites_text cites in
    ap (λ o. o >>= λ m. parts_at 32 m.1 >>= λ w. last_in n mode w.0 >>= λ last. cites_in w.1 >>= λ cites.
    Some (the_frame mode s m.0 last cites)) (number_first_again m r1)
    ∙ ap (λ o. o >>= λ w. last_in n mode w.0 >>= λ last. cites_in w.1 >>= λ cites.
    Some (the_frame mode s (sat m) last cites)) (split_again 32 (last_text n mode last) (cites_text cites)
    (last_lacks n mode last))
    ∙ ap (λ o. o >>= λ last. cites_in (cites_text cites) >>= λ cites. Some (the_frame mode s (sat m) last cites))
    (last_again n mode last)
    ∙ ap (λ o. o >>= λ cites. Some (the_frame mode s (sat m) (last_read n mode last) cites)) (cites_again cites)

pub frame_again : (n : ℕ) (mode : Mode) (s : List Bool) (m : ℕ) (last : Option Load) (cites : List ℕ)
    → frame_in n (row_text (frame n mode s m last cites)) ≡ Some
    (the_frame mode (clip n s) (sat m) (last_read n mode last) (map sat cites))
unfolding frame_in row_text
frame_again n mode s m last cites =
    let r2 : List ℕ = number_text m ++ 32 ∷ (last_text n mode last ++ 32 ∷ cites_text cites) in
    let r3 : List ℕ = set_text n s ++ 32 ∷ r2 in
    ap (λ o. o >>= λ k. cond (bytes_eq k.0 (codes "open")) (parts_at 32 k.1) None >>= λ l. mode_in l.0 >>= λ mode.
    parts_at 32 l.1 >>= λ p. set_in n p.0 >>= λ s. frame_rest_in n mode s p.1)
    (split_again 32 (codes "open") ((mode_letter mode ∷ []) ++ 32 ∷ r3) refl)
    ∙ ap (λ o. o >>= λ l. mode_in l.0 >>= λ mode. parts_at 32 l.1 >>= λ p. set_in n p.0 >>= λ s.
    frame_rest_in n mode s p.1) (split_mode mode r3)
    ∙ ap (λ o. o >>= λ mode. parts_at 32 r3 >>= λ p. set_in n p.0 >>= λ s. frame_rest_in n mode s p.1) (mode_again mode)
    ∙ ap (λ o. o >>= λ p. set_in n p.0 >>= λ s. frame_rest_in n mode s p.1) (split_set n s r2)
    ∙ ap (λ o. o >>= λ s. frame_rest_in n mode s r2) (set_again n s)
    ∙ rest_again n mode (clip n s) m last cites

-- a frame that was read
pub record FrameFound (n : ℕ) (line : List ℕ) (d : FrameDraft) : Type 0 where
  pub most : ℕ
  pub cites : List ℕ
  pub text : row_text (frame n d.mode d.set most d.last cites) ≡ line
  pub few : sat most ≡ d.most
  pub cited : map sat cites ≡ d.cites
  pub set : clip n d.set ≡ d.set
  pub last : last_read n d.mode d.last ≡ d.last

-- what stands behind the set of a frame, as it was read
record RestFound (n : ℕ) (mode : Mode) (s : List Bool) (bytes : List ℕ) (d : FrameDraft) : Type 0 where
  most : ℕ
  few : ℕ
  last : Option Load
  cites : List ℕ
  read : List ℕ
  text : bytes ≡ number_text most ++ 32 ∷ (last_text n mode last ++ 32 ∷ cites_text cites)
  number : sat most ≡ few
  cited : map sat cites ≡ read
  same : last_read n mode last ≡ last
  is : the_frame mode s few last read ≡ d

rest_found : (n : ℕ) (mode : Mode) (s : List Bool) (bytes : List ℕ) (d : FrameDraft) → n ≤ 1024
    → frame_rest_in n mode s bytes ≡ Some d → RestFound n mode s bytes d
unfolding frame_rest_in
rest_found n mode s bytes d h e =
    let m = bind_some (number_first bytes) (λ m. parts_at 32 m.1 >>= λ w. last_in n mode w.0 >>= λ last.
    cites_in w.1 >>= λ cites. Some (the_frame mode s m.0 last cites)) d e in
    let w = bind_some (parts_at 32 m.0.1) (λ w. last_in n mode w.0 >>= λ last. cites_in w.1 >>= λ cites.
    Some (the_frame mode s m.0.0 last cites)) d m.2 in
    let v = bind_some (last_in n mode w.0.0) (λ last. cites_in w.0.1 >>= λ cites.
    Some (the_frame mode s m.0.0 last cites)) d w.2 in
    let x = bind_some (cites_in w.0.1) (λ cites. Some (the_frame mode s m.0.0 v.0 cites)) d v.2 in
    let f = number_first_found bytes m.0 m.1 in
    let g = last_found n mode w.0.0 v.0 h v.1 in
    let c = cites_found w.0.1 x.0 x.1 in
    record {
      most = f.0;
      few = m.0.0;
      last = v.0;
      cites = c.0;
      read = x.0;
      text = f.1 ∙ ap (λ z. number_text f.0 ++ 32 ∷ z) (split_parts 32 m.0.1 w.0 w.1
          ∙ ap (λ z. z ++ 32 ∷ w.0.1) (sym g.0) ∙ ap (λ z. last_text n mode v.0 ++ 32 ∷ z) (sym c.1));
      number = f.2;
      cited = c.2;
      same = g.1;
      is = same_Some (the_frame mode s m.0.0 v.0 x.0) d x.2;
    }

along : (n : ℕ) (line : List ℕ) (a b : FrameDraft) → a ≡ b → FrameFound n line a → FrameFound n line b
along n line a b e f = let P : FrameDraft → Type 0 = λ d. FrameFound n line d in subst P e f

made : (n : ℕ) (line k0 k1 l0 l1 r1 : List ℕ) (mode : Mode) (s : List Bool) (d : FrameDraft) → line ≡ k0 ++ 32 ∷ k1
    → k0 ≡ codes "open" → k1 ≡ l0 ++ 32 ∷ l1 → mode_letter mode ∷ [] ≡ l0
    → l1 ≡ set_text n s ++ 32 ∷ r1 → clip n s ≡ s → RestFound n mode s r1 d → FrameFound n line d
unfolding row_text
made n line k0 k1 l0 l1 r1 mode s d a b c m e g x =
    let t1 : (mode_letter mode ∷ []) ++ 32 ∷ (set_text n s ++ 32 ∷ (number_text x.most
    ++ 32 ∷ (last_text n mode x.last ++ 32 ∷ cites_text x.cites))) ≡ k1 =
    ap (λ z. (mode_letter mode ∷ []) ++ 32 ∷ (set_text n s ++ 32 ∷ z)) (sym x.text)
    ∙ ap (λ z. (mode_letter mode ∷ []) ++ 32 ∷ z) (sym e) ∙ ap (λ z. z ++ 32 ∷ l1) m ∙ sym c in
    along n line (the_frame mode s x.few x.last x.read) d x.is (record {
      most = x.most;
      cites = x.cites;
      text = ap (λ z. codes "open" ++ 32 ∷ z) t1 ∙ ap (λ z. z ++ 32 ∷ k1) (sym b) ∙ sym a;
      few = x.number;
      cited = x.cited;
      set = g;
      last = x.same;
    })

pub frame_found : (n : ℕ) (line : List ℕ) (d : FrameDraft) → n ≤ 1024 → frame_in n line ≡ Some d → FrameFound n line d
unfolding frame_in
frame_found n line d h e =
    let k = bind_some (parts_at 32 line) (λ k. cond (bytes_eq k.0 (codes "open")) (parts_at 32 k.1) None >>= λ l.
    mode_in l.0 >>= λ mode. parts_at 32 l.1 >>= λ p. set_in n p.0 >>= λ s. frame_rest_in n mode s p.1) d e in
    let l = bind_some (cond (bytes_eq k.0.0 (codes "open")) (parts_at 32 k.0.1) None)
    (λ l. mode_in l.0 >>= λ mode. parts_at 32 l.1 >>= λ p. set_in n p.0 >>= λ s. frame_rest_in n mode s p.1) d
    k.2 in
    let o = bind_some (mode_in l.0.0) (λ mode. parts_at 32 l.0.1 >>= λ p. set_in n p.0 >>= λ s.
    frame_rest_in n mode s p.1) d l.2 in
    let p = bind_some (parts_at 32 l.0.1) (λ p. set_in n p.0 >>= λ s. frame_rest_in n o.0 s p.1) d o.2 in
    let s = bind_some (set_in n p.0.0) (λ s. frame_rest_in n o.0 s p.0.1) d p.2 in
    let t = set_first_found n l.0.1 p.0 s.0 h p.1 s.1 in
    elim (chosen (bytes_eq k.0.0 (codes "open")) (parts_at 32 k.0.1) None (Some l.0) l.1) [
      | inl q ↦ made n line k.0.0 k.0.1 l.0.0 l.0.1 p.0.1 o.0 s.0 d (split_parts 32 line k.0 k.1)
          (same_bytes k.0.0 (codes "open") q.0) (split_parts 32 k.0.1 l.0 q.1) (mode_found l.0.0 o.0 o.1) t.0 t.1
          (rest_found n o.0 s.0 p.0.1 d h s.2)
      | inr q ↦ absurd (none-some l.0 q.1)
    ]
