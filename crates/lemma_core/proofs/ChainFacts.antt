-- A walk along a chain of entries whose tags fall into one bucket, a chain with a tag more, and a sieve with a mark
-- more.
use Rattle.std.proofs.Common.{◌≡◌, ℕ, zero, suc, ◌+◌, ◌-◌, ◌/◌, ◌<◌, ◌≤◌, min, max, Bool, get_or, set, List, [], ◌∷◌}
use Rattle.std.proofs.Common.{◌++◌, length, take, replicate, inl, inr, refl, sym, ap, ◌∙◌, subst, arith, Some, None}
use Rattle.std.proofs.Common.{Option, length-append, length-set, bit_and, bit_or}
use Rattle.std.specs.Prelude.{slice_get, slice_index, slice_set}
use Rattle.std.specs.Int.{bit_at}
use Rattle.std.specs.Option.{option_map}
use Rattle.std.proofs.lemmas.Bool.{cases_lt, cases_eq}
use Rattle.std.proofs.lemmas.List.{get_or-set_same, get_or-set_other, get_or-replicate, get_or_push, get_or_append_left}
use Rattle.std.proofs.lemmas.List.{length-map, length-take-le, map-append, map-set}
use Rattle.std.proofs.Math.Seq.{take-suc, map-set_same}
use Rattle.std.proofs.lemmas.Nat.{and_or_self, and_le_r}
use Rattle.std.proofs.lemmas.Nat.Bits.{bit_at_and, bit_at_or, same_from_bits}
use Rattle.std.proofs.lemmas.Option.{slice_get_within, slice_get_read, slice_get-map, get_or_from_slice_get, same_Some}
use Rattle.line_rules.specs.Entries.{Answers, IsUnanswered}
use Rattle.line_rules.specs.declared.types.Entry.{Entry}
use Rattle.line_rules.proofs.LongerLists.{get_longer, get_push_cases}
use Rattle.line_rules.specs.lines.Tags.{tag_of}
use Rattle.lemma_core.specs.Sieves.{IsSieve, word_in, mark_of}
use Rattle.lemma_core.specs.inner.Chains.{tags_of, place, IsLast, IsChained, bucket_in, tags, links, IsIndex, IsIndexOf}
use Rattle.lemma_core.specs.declared.index.Link.{Link}
use Rattle.line_rules.proofs.ListFacts.{get_last}

-- a tag more, at the end
module _ (bucket : ℕ → ℕ) (ts : List ℕ) (new : ℕ) where
  get-old : (n t : ℕ) → n < length ts → slice_get (ts ++ new ∷ []) n ≡ Some t → slice_get ts n ≡ Some t
  get-old n t l g = elim (get_push_cases ts new t n g) [ inl p ↦ p.1 | inr p ↦ absurd (omega (arith, p.0, l)) ]

  -- below a place of the old tags nothing changes
  last_old : (b n : ℕ) (o : Option ℕ) → n ≤ length ts → IsLast bucket ts b n o → IsLast bucket (ts ++ new ∷ []) b n o
  last_old b n (Some p) l h = record {
    below = h.below;
    tag = h.tag;
    there = get_longer ts (new ∷ []) p h.tag h.there;
    falls = h.falls;
    last = λ j t m below g q. h.last j t m below (get-old j t (omega (arith, below, l)) g) q;
  }
  last_old b n None l h = λ j t m g q. h j t m (get-old j t (omega (arith, m, l)) g) q

  -- the new tag falls into another bucket
  last_other : (b : ℕ) (o : Option ℕ) → (bucket new ≡ b → ⊥) → IsLast bucket ts b (length ts) o
      → IsLast bucket (ts ++ new ∷ []) b (suc (length ts)) o
  last_other b (Some p) not h = record {
    below = omega (arith, h.below);
    tag = h.tag;
    there = get_longer ts (new ∷ []) p h.tag h.there;
    falls = h.falls;
    last = λ j t m below g q. elim (get_push_cases ts new t j g)
        [ inl c ↦ h.last j t m c.0 c.1 q | inr c ↦ not (ap bucket c.1 ∙ q) ];
  }
  last_other b None not h = λ j t m g q. elim (get_push_cases ts new t j g)
      [ inl c ↦ h j t c.0 c.1 q | inr c ↦ not (ap bucket c.1 ∙ q) ]

  -- the new tag is the last one in its bucket
  last_new : (b : ℕ) → bucket new ≡ b → IsLast bucket (ts ++ new ∷ []) b (suc (length ts)) (Some (length ts))
  last_new b q = record {
    below = omega arith;
    tag = new;
    there = get_last ts new;
    falls = q;
    last = λ j t m below g r. absurd (omega (arith, m, below));
  }

  module _ (heads before : List ℕ) (within : bucket new < length heads) (h : IsChained bucket ts heads before) where
    head_push : (b : ℕ) → b < length heads → IsLast bucket (ts ++ new ∷ []) b (suc (length ts))
        (place (slice_index (slice_set heads (bucket new) (suc (length ts))) b))
    head_push b l =
        let P : ℕ → Type 0 = λ z. IsLast bucket (ts ++ new ∷ []) b (suc (length ts)) (place z) in
        elim (cases_eq b (bucket new)) [
          | inl q ↦ (
              let e : slice_index (slice_set heads (bucket new) (suc (length ts))) b ≡ suc (length ts) =
              ap (λ (z : ℕ). slice_index (slice_set heads (bucket new) (suc (length ts))) z) q
              ∙ get_or-set_same heads (bucket new) (suc (length ts)) 0 within in
              subst P (sym e) (last_new b (sym q)))
          | inr d ↦ subst P (sym (get_or-set_other heads (bucket new) b (suc (length ts)) 0 d))
              (last_other b (place (slice_index heads b)) (λ r. d (sym r)) (h.heads b l))
        ]

    pub chained_push : (now after : List ℕ) → length now ≡ length heads
        → now ≡ slice_set heads (bucket new) (suc (length ts))
        → ((n : ℕ) → n < length ts → slice_index after n ≡ slice_index before n)
        → slice_index after (length ts) ≡ slice_index heads (bucket new) → IsChained bucket (ts ++ new ∷ []) now after
    chained_push now after many e old end =
        let long : length (ts ++ new ∷ []) ≡ suc (length ts) = omega (arith, length-append ts (new ∷ [])) in
        record {
          heads = λ b l.
              let P : List ℕ → Type 0 = λ z. IsLast bucket (ts ++ new ∷ []) b (suc (length ts))
              (place (slice_index z b)) in
              let Q : ℕ → Type 0 = λ m. IsLast bucket (ts ++ new ∷ []) b m (place (slice_index now b)) in
              subst Q (sym long) (subst P (sym e) (head_push b (omega (arith, l, many))));
          links = λ n t g. elim (get_push_cases ts new t n g) [
            | inl c ↦
                let P : ℕ → Type 0 = λ z. IsLast bucket (ts ++ new ∷ []) (bucket t) n (place z) in
                subst P (sym (old n c.0)) (last_old (bucket t) n (place (slice_index before n)) (omega (arith, c.0))
                (h.links n t c.1))
            | inr c ↦
                let P : ℕ → Type 0 = λ z. IsLast bucket (ts ++ new ∷ []) (bucket new) (length ts) (place z) in
                let Q : ℕ → Type 0 = λ m. IsLast bucket (ts ++ new ∷ []) (bucket new) m (place (slice_index after m)) in
                let R : ℕ → Type 0 = λ x. IsLast bucket (ts ++ new ∷ []) (bucket x) n (place (slice_index after n)) in
                subst R c.1 (subst Q (sym c.0) (subst P (sym end)
                (last_old (bucket new) (length ts) (place (slice_index heads (bucket new))) (omega arith)
                (h.heads (bucket new) within))))
          ];
        }

-- no tag, and tables that lead nowhere
pub chained_none : (bucket : ℕ → ℕ) (heads before : List ℕ) → heads ≡ replicate (length heads) 0
    → IsChained bucket [] heads before
chained_none bucket heads before e = record {
  heads = λ b l.
      let z : slice_index heads b ≡ 0 = ap (λ (hs : List ℕ). slice_index hs b) e
      ∙ get_or-replicate (length heads) b 0 0 l in
      let P : ℕ → Type 0 = λ x. IsLast bucket [] b 0 (place x) in
      subst P (sym z) (λ j t m g q. absurd (omega (arith, m)));
  links = λ n t g. absurd (omega (arith, slice_get_within [] n t g));
}

-- a mark that is there stays with further ones
mark_stays : (w m x : ℕ) → bit_and w m ≡ m → bit_and (bit_or w x) m ≡ m
mark_stays w m x e = same_from_bits (bit_and (bit_or w x) m) m (λ i.
    let a : bit_at (bit_and w m) i ≡ bit_at m i = ap (λ (z : ℕ). bit_at z i) e in
    bit_at_and (bit_or w x) m i ∙ (ap (λ (z : ℕ). min z (bit_at m i)) (bit_at_or w x i)
    ∙ min_more (bit_at w i) (bit_at x i) (bit_at m i) (sym (bit_at_and w m i) ∙ a)))
  where
    min_more : (a b c : ℕ) → min a c ≡ c → min (max a b) c ≡ c
    min_more a b c e = omega arith

pub sieve_push : (word mark : ℕ → ℕ) (ts : List ℕ) (new : ℕ) (words now : List ℕ) → word new < length words
    → now ≡ slice_set words (word new) (bit_or (slice_index words (word new)) (mark new)) → IsSieve word mark ts words
    → IsSieve word mark (ts ++ new ∷ []) now
sieve_push word mark ts new words now within e h k t g =
    let v : ℕ = bit_or (slice_index words (word new)) (mark new) in
    let P : List ℕ → Type 0 = λ z. bit_and (slice_index z (word t)) (mark t) ≡ mark t in
    let Q : ℕ → Type 0 = λ z. bit_and z (mark t) ≡ mark t in
    subst P (sym e) (elim (get_push_cases ts new t k g) [
      | inl c ↦ (elim (cases_eq (word t) (word new)) [
        | inl q ↦ (
            let s : slice_index (slice_set words (word new) v) (word t)
            ≡ bit_or (slice_index words (word t)) (mark new) =
            ap (λ (z : ℕ). slice_index (slice_set words (word new) v) z) q
            ∙ (get_or-set_same words (word new) v 0 within
            ∙ ap (λ (z : ℕ). bit_or (slice_index words z) (mark new)) (sym q)) in
            subst Q (sym s) (mark_stays (slice_index words (word t)) (mark t) (mark new) (h k t c.1)))
        | inr d ↦ subst Q (sym (get_or-set_other words (word new) (word t) v 0 d)) (h k t c.1)
      ])
      | inr c ↦ (
          let R : ℕ → Type 0 = λ x. bit_and (slice_index (slice_set words (word new) v) (word x)) (mark x) ≡ mark x in
          let S : ℕ → Type 0 = λ z. bit_and z (mark new) ≡ mark new in
          subst R c.1 (subst S (sym (get_or-set_same words (word new) v 0 within))
          (and_or_self (mark new) (slice_index words (word new)))))
    ])

-- no entry above a place answers
abbrev pub NoneAbove : List Entry → List Bool → ℕ → ℕ → ℕ → Type 0
NoneAbove es set most cycle p = (j : ℕ) (e : Entry) → p < j → slice_get es j ≡ Some e → Answers e set most cycle → ⊥

-- the walk is at a place whose tag falls into the bucket of the set, and above which none answers
pub record IsAt (bucket : ℕ → ℕ) (es : List Entry) (set : List Bool) (most cycle p : ℕ) : Type 0 where
  pub within : p < length es
  pub tag : ℕ
  pub there : slice_get (tags_of es) p ≡ Some tag
  pub falls : bucket tag ≡ bucket (tag_of set)
  pub above : NoneAbove es set most cycle p

-- the walk is at a place, or it is over and none answers at all
abbrev pub IsWalk : (ℕ → ℕ) → List Entry → List Bool → ℕ → ℕ → Option ℕ → Type 0
IsWalk bucket es set most cycle (Some p) = IsAt bucket es set most cycle p
IsWalk bucket es set most cycle None = IsUnanswered es set most cycle

pub tag-at : (es : List Entry) (j : ℕ) (e : Entry) → slice_get es j ≡ Some e
    → slice_get (tags_of es) j ≡ Some (tag_of e.set)
tag-at es j e g = slice_get-map (λ (x : Entry). tag_of x.set) es j
    ∙ ap (λ (o : Option Entry). option_map (λ (x : Entry). tag_of x.set) o) g

length-tags : (es : List Entry) → length (tags_of es) ≡ length es
length-tags es = length-map es (λ (x : Entry). tag_of x.set)

same_tag : (e : Entry) (set : List Bool) (most cycle : ℕ) → Answers e set most cycle → tag_of e.set ≡ tag_of set
same_tag e set most cycle a = ap (λ (s : List Bool). tag_of s) a.same

-- on from a place from which on none answers
walk_on : (bucket : ℕ → ℕ) (es : List Entry) (set : List Bool) (most cycle n : ℕ) (o : Option ℕ)
    → ((j : ℕ) (e : Entry) → n ≤ j → slice_get es j ≡ Some e → Answers e set most cycle → ⊥)
    → IsLast bucket (tags_of es) (bucket (tag_of set)) n o → IsWalk bucket es set most cycle o
walk_on bucket es set most cycle n (Some p) fails h = record {
  within = omega (arith, slice_get_within (tags_of es) p h.tag h.there, length-tags es);
  tag = h.tag;
  there = h.there;
  falls = h.falls;
  above = λ j e l g a. elim (cases_lt j n) [
    | inl k ↦ h.last j (tag_of e.set) l k (tag-at es j e g) (ap bucket (same_tag e set most cycle a))
    | inr k ↦ fails j e k g a
  ];
}
walk_on bucket es set most cycle n None fails h = λ j e g a. elim (cases_lt j n) [
  | inl k ↦ h j (tag_of e.set) k (tag-at es j e g) (ap bucket (same_tag e set most cycle a))
  | inr k ↦ fails j e k g a
]

-- a place as it is stored, where it is one
place_is : (at : ℕ) → 0 < at → place at ≡ Some (at - 1)
place_is zero l = absurd (omega arith)
place_is (suc p) l = let e : p ≡ suc p - 1 = omega arith in ap Some e

place_below : (bucket : ℕ → ℕ) (ts : List ℕ) (b n at : ℕ) → IsLast bucket ts b n (place at) → at ≤ n
place_below bucket ts b n zero h = omega arith
place_below bucket ts b n (suc p) h = omega (arith, h.below)

pub at_place : (bucket : ℕ → ℕ) (es : List Entry) (set : List Bool) (most cycle at : ℕ) → 0 < at
    → IsWalk bucket es set most cycle (place at) → IsAt bucket es set most cycle (at - 1)
at_place bucket es set most cycle at l w = let P : Option ℕ → Type 0 = λ o. IsWalk bucket es set most cycle o in
    subst P (place_is at l) w

pub at_end : (bucket : ℕ → ℕ) (es : List Entry) (set : List Bool) (most cycle at : ℕ) → at ≤ 0
    → IsWalk bucket es set most cycle (place at) → IsUnanswered es set most cycle
at_end bucket es set most cycle zero l w = w
at_end bucket es set most cycle (suc p) l w = absurd (omega arith)

module _ (es : List Entry) (heads : List ℕ) (ls : List Link) (sieve : List ℕ) (h : IsIndexOf es heads ls sieve) where
  chained : IsChained (bucket_in (length heads)) (tags_of es) heads (links ls)
  chained = let P : List ℕ → Type 0 = λ ts. IsChained (bucket_in (length heads)) ts heads (links ls) in
      subst P h.same h.index.chained

  pub length_links : length ls ≡ length es
  length_links = omega (
    arith,
    length-map ls (λ (l : Link). l.tag),
    length-tags es,
    ap (λ (ts : List ℕ). length ts) h.same,
  )

  -- no entry has a tag that isn't among those of the index
  pub none_has : (set : List Bool) (most cycle : ℕ) → ((k : ℕ) → slice_get (tags ls) k ≡ Some (tag_of set) → ⊥)
      → IsUnanswered es set most cycle
  none_has set most cycle not j e g a =
      not j (ap (λ (ts : List ℕ). slice_get ts j) h.same ∙ (tag-at es j e g ∙ ap Some (same_tag e set most cycle a)))

  pub walk_first : (set : List Bool) (most cycle at : ℕ) → 0 < length heads
      → slice_index heads (bucket_in (length heads) (tag_of set)) ≡ at
      → IsWalk (bucket_in (length heads)) es set most cycle (place at)
  walk_first set most cycle at some e =
      let within : bucket_in (length heads) (tag_of set) < length heads =
      omega (arith, and_le_r (tag_of set) (length heads - 1)) in
      let P : ℕ → Type 0 = λ x. IsLast (bucket_in (length heads)) (tags_of es) (bucket_in (length heads) (tag_of set))
      (length (tags_of es)) (place x) in
      walk_on (bucket_in (length heads)) es set most cycle (length (tags_of es)) (place at)
      (λ j x l g a. absurd (omega (arith, l, length-tags es, slice_get_within es j x g)))
      (subst P e (chained.heads (bucket_in (length heads) (tag_of set)) within))

  module _ (set : List Bool) (most cycle p : ℕ) (at : IsAt (bucket_in (length heads)) es set most cycle p) (l : Link)
      (there : slice_get ls p ≡ Some l) where
    linked : IsLast (bucket_in (length heads)) (tags_of es) (bucket_in (length heads) (tag_of set)) p (place l.before)
    linked =
        let e : slice_index (links ls) p ≡ l.before =
        get_or_from_slice_get (links ls) p l.before 0 (slice_get-map (λ (x : Link). x.before) ls p
        ∙ ap (λ (o : Option Link). option_map (λ (x : Link). x.before) o) there) in
        let P : ℕ → Type 0 = λ x. IsLast (bucket_in (length heads)) (tags_of es) (bucket_in (length heads) at.tag) p
        (place x) in
        let Q : ℕ → Type 0 = λ b. IsLast (bucket_in (length heads)) (tags_of es) b p (place l.before) in
        subst Q at.falls (subst P e (chained.links p at.tag at.there))

    pub walk_below : l.before ≤ p
    walk_below = place_below (bucket_in (length heads)) (tags_of es) (bucket_in (length heads) (tag_of set)) p l.before
        linked

    pub walk_next : ((e : Entry) → slice_get es p ≡ Some e → Answers e set most cycle → ⊥)
        → IsWalk (bucket_in (length heads)) es set most cycle (place l.before)
    walk_next fails = walk_on (bucket_in (length heads)) es set most cycle p (place l.before)
        (λ j e k g a. elim (cases_eq j p) [
          | inl q ↦ fails e (ap (λ (z : ℕ). slice_get es z) (sym q) ∙ g) a
          | inr d ↦ at.above j e (omega arith) g a
        ]) linked

    -- an entry with another tag has another set
    pub other_tag : (l.tag ≡ tag_of set → ⊥) → (e : Entry) → slice_get es p ≡ Some e → Answers e set most cycle → ⊥
    other_tag not e g a =
        let t : slice_get (tags ls) p ≡ Some l.tag = slice_get-map (λ (x : Link). x.tag) ls p
        ∙ ap (λ (o : Option Link). option_map (λ (x : Link). x.tag) o) there in
        let s : Some l.tag ≡ Some (tag_of e.set) = sym t ∙ (ap (λ (ts : List ℕ). slice_get ts p) h.same
        ∙ tag-at es p e g) in
        not (same_Some l.tag (tag_of e.set) s ∙ same_tag e set most cycle a)

-- an index without an entry, and one of an entry more
pub index_none : IsIndexOf [] [] [] []
index_none = record {
  index = record {
    chained = chained_none (bucket_in 0) [] [] refl;
    sieved = λ k t g. absurd (omega (arith, slice_get_within [] k t g));
    none = λ e. refl;
    both = (λ l. l, λ l. l);
  };
  same = refl;
}

module _ (heads : List ℕ) (ls : List Link) (sieve : List ℕ) (tag before : ℕ) (now marked : List ℕ) where
  pub index_push : IsIndex heads ls sieve → 0 < length heads → before ≡ slice_index heads (bucket_in (length heads) tag)
      → now ≡ slice_set heads (bucket_in (length heads) tag) (length ls + 1)
      → marked ≡ slice_set sieve (word_in (length sieve) tag)
      (bit_or (slice_index sieve (word_in (length sieve) tag)) (mark_of tag))
      → IsIndex now (ls ++ record { tag = tag; before = before } ∷ []) marked
  index_push h some b n m =
      let sieved : 0 < length sieve = h.both.1 some in
      let many : length now ≡ length heads = ap (λ (xs : List ℕ). length xs) n
      ∙ length-set heads (bucket_in (length heads) tag) (length ls + 1) in
      let words : length marked ≡ length sieve = ap (λ (xs : List ℕ). length xs) m
      ∙ length-set sieve (word_in (length sieve) tag) (bit_or (slice_index sieve (word_in (length sieve) tag))
      (mark_of tag)) in
      let long : length (tags ls) ≡ length ls = length-map ls (λ (l : Link). l.tag) in
      let linked : length (links ls) ≡ length ls = length-map ls (λ (l : Link). l.before) in
      let new : Link = record { tag = tag; before = before } in
      let t : tags (ls ++ new ∷ []) ≡ tags ls ++ tag ∷ [] = map-append (λ (l : Link). l.tag) ls (new ∷ []) in
      let k : links (ls ++ new ∷ []) ≡ links ls ++ before ∷ [] = map-append (λ (l : Link). l.before) ls (new ∷ []) in
      let within : bucket_in (length heads) tag < length heads = omega (arith, some, and_le_r tag (length heads - 1)) in
      let word : word_in (length sieve) tag < length sieve =
      omega (arith, sieved, and_le_r (tag / 64) (length sieve - 1)) in
      let n2 : now ≡ slice_set heads (bucket_in (length heads) tag) (suc (length (tags ls))) =
      n ∙ (let e : length ls + 1 ≡ suc (length (tags ls)) = omega (arith, long) in
      ap (λ (x : ℕ). slice_set heads (bucket_in (length heads) tag) x) e) in
      let end : slice_index (links ls ++ before ∷ []) (length (tags ls))
      ≡ slice_index heads (bucket_in (length heads) tag) =
      get_or_push (links ls) before 0 (length (tags ls)) (omega (arith, long, linked)) ∙ b in
      let c : IsChained (bucket_in (length heads)) (tags ls ++ tag ∷ []) now (links ls ++ before ∷ []) =
      chained_push (bucket_in (length heads)) (tags ls) tag heads (links ls) within h.chained now
      (links ls ++ before ∷ []) many n2
      (λ i l. get_or_append_left (links ls) (before ∷ []) 0 i (omega (arith, l, long, linked))) end in
      let s : IsSieve (word_in (length sieve)) mark_of (tags ls ++ tag ∷ []) marked =
      sieve_push (word_in (length sieve)) mark_of (tags ls) tag sieve marked word m h.sieved in
      let P : List ℕ → List ℕ → Type 0 = λ ts bs. IsChained (bucket_in (length heads)) ts now bs in
      let Q : ℕ → Type 0 = λ x. IsChained (bucket_in x) (tags (ls ++ new ∷ [])) now (links (ls ++ new ∷ [])) in
      let R : List ℕ → Type 0 = λ ts. IsSieve (word_in (length sieve)) mark_of ts marked in
      let S : ℕ → Type 0 = λ x. IsSieve (word_in x) mark_of (tags (ls ++ new ∷ [])) marked in
      let P1 : List ℕ → Type 0 = λ ts. P ts (links ls ++ before ∷ []) in
      let P2 : List ℕ → Type 0 = λ bs. P (tags (ls ++ new ∷ [])) bs in
      record {
        chained = subst Q (sym many) (subst P2 (sym k) (subst P1 (sym t) c));
        sieved = subst S (sym words) (subst R (sym t) s);
        none = λ e. absurd (omega (arith, e, words, sieved));
        both = (λ l. omega (arith, many, some), λ l. omega (arith, words, sieved));
      }

-- a number that was read
pub read_at : (xs : List ℕ) (i x : ℕ) → i < length xs → x ≡ get_or xs i x → slice_index xs i ≡ x
read_at xs i x l e = get_or_from_slice_get xs i x 0 (slice_get_read xs (length xs) i x refl l e)

-- the tables with the tag at a place hung in
module _ (ls : List Link) (k : ℕ) (heads now sieve marked : List ℕ) (l : Link) (before : ℕ) (within : k < length ls)
    (there : slice_get ls k ≡ Some l) (some : 0 < length heads) (words : 0 < length sieve) where
  abbrev pub hung : List Link
  hung = set ls k (record { tag = l.tag; before = before })

  long : length (tags ls) ≡ length ls
  long = length-map ls (λ (x : Link). x.tag)

  taken : length (take k (tags ls)) ≡ k
  taken = length-take-le k (tags ls) (omega (arith, within, long))

  tag-there : get_or (tags ls) k 0 ≡ l.tag
  tag-there = get_or_from_slice_get (tags ls) k l.tag 0 (slice_get-map (λ (x : Link). x.tag) ls k
      ∙ ap (λ (o : Option Link). option_map (λ (x : Link). x.tag) o) there)

  pub hung_tags : tags hung ≡ tags ls
  hung_tags = map-set_same (λ (x : Link). x.tag) ls k (record { tag = l.tag; before = before }) l
      (sym (ap (λ (x : Link). x.tag) (get_or_from_slice_get ls k l l there)))

  taken_more : take (k + 1) (tags ls) ≡ take k (tags ls) ++ l.tag ∷ []
  taken_more =
      let e : k + 1 ≡ suc k = omega arith in
      ap (λ (n : ℕ). take n (tags ls)) e ∙ (take-suc (tags ls) k 0 (omega (arith, within, long))
      ∙ ap (λ (t : ℕ). take k (tags ls) ++ t ∷ []) tag-there)

  hung_links : links hung ≡ set (links ls) k before
  hung_links = map-set (λ (x : Link). x.before) ls k (record { tag = l.tag; before = before })

  pub hung_chains : before ≡ slice_index heads (bucket_in (length heads) l.tag)
      → now ≡ slice_set heads (bucket_in (length heads) l.tag) (k + 1)
      → IsChained (bucket_in (length heads)) (take k (tags ls)) heads (links ls)
      → IsChained (bucket_in (length now)) (take (k + 1) (tags hung)) now (links hung)
  hung_chains b n h =
      let many : length now ≡ length heads = ap (λ (xs : List ℕ). length xs) n
      ∙ length-set heads (bucket_in (length heads) l.tag) (k + 1) in
      let bucket : bucket_in (length heads) l.tag < length heads =
      omega (arith, some, and_le_r l.tag (length heads - 1)) in
      let linked : length (links ls) ≡ length ls = length-map ls (λ (x : Link). x.before) in
      let m : now ≡ slice_set heads (bucket_in (length heads) l.tag) (suc (length (take k (tags ls)))) =
      n ∙ (let e : k + 1 ≡ suc (length (take k (tags ls))) = omega (arith, taken) in
      ap (λ (x : ℕ). slice_set heads (bucket_in (length heads) l.tag) x) e) in
      let end : slice_index (links hung) (length (take k (tags ls)))
      ≡ slice_index heads (bucket_in (length heads) l.tag) =
      ap (λ (xs : List ℕ). slice_index xs (length (take k (tags ls)))) hung_links
      ∙ (ap (λ (i : ℕ). slice_index (set (links ls) k before) i) taken
      ∙ (get_or-set_same (links ls) k before 0 (omega (arith, within, linked)) ∙ b)) in
      let c : IsChained (bucket_in (length heads)) (take k (tags ls) ++ l.tag ∷ []) now (links hung) =
      chained_push (bucket_in (length heads)) (take k (tags ls)) l.tag heads (links ls) bucket h now (links hung) many m
      (λ i u. ap (λ (xs : List ℕ). slice_index xs i) hung_links
      ∙ get_or-set_other (links ls) k i before 0 (λ (q : i ≡ k). let no : ⊥ = omega (arith, u, taken, q) in no))
      end in
      let P : ℕ → Type 0 = λ x. IsChained (bucket_in x) (take (k + 1) (tags hung)) now (links hung) in
      let Q : List ℕ → Type 0 = λ ts. IsChained (bucket_in (length heads)) ts now (links hung) in
      subst P (sym many) (subst Q (sym (ap (λ (ts : List ℕ). take (k + 1) ts) hung_tags ∙ taken_more)) c)

  pub hung_sieve : marked ≡ slice_set sieve (word_in (length sieve) l.tag)
      (bit_or (slice_index sieve (word_in (length sieve) l.tag)) (mark_of l.tag))
      → IsSieve (word_in (length sieve)) mark_of (take k (tags ls)) sieve
      → IsSieve (word_in (length marked)) mark_of (take (k + 1) (tags hung)) marked
  hung_sieve m h =
      let many : length marked ≡ length sieve = ap (λ (xs : List ℕ). length xs) m
      ∙ length-set sieve (word_in (length sieve) l.tag)
      (bit_or (slice_index sieve (word_in (length sieve) l.tag)) (mark_of l.tag)) in
      let word : word_in (length sieve) l.tag < length sieve =
      omega (arith, words, and_le_r (l.tag / 64) (length sieve - 1)) in
      let P : ℕ → Type 0 = λ x. IsSieve (word_in x) mark_of (take (k + 1) (tags hung)) marked in
      let Q : List ℕ → Type 0 = λ ts. IsSieve (word_in (length sieve)) mark_of ts marked in
      subst P (sym many) (subst Q (sym (ap (λ (ts : List ℕ). take (k + 1) ts) hung_tags ∙ taken_more))
      (sieve_push (word_in (length sieve)) mark_of (take k (tags ls)) l.tag sieve marked word m h))
