-- Rows of sets: one member more, a row of direct tasks, and rows that are joined.
use Rattle.std.proofs.Common.{◌≡◌, ℕ, ◌+◌, ◌<◌, ◌≤◌, Bool, true, false, List, [], ◌∷◌, ◌++◌, length, get_or, set}
use Rattle.std.proofs.Common.{replicate, refl, sym, ap, ◌∙◌, subst, ◌⊎◌, inl, inr, arith}
use Rattle.std.specs.List.{Contains}
use Rattle.std.proofs.Math.ListN.{length-set}
use Rattle.std.proofs.lemmas.List.{get_or-set_same, get_or-set_other, get_or_past, length-replicate}
use Rattle.std.proofs.lemmas.List.Elements.{Contains-append_left, Contains-append_right, Contains-append_cases}
use Rattle.std.proofs.lemmas.Bool.{cases_eq, cases_lt, false≢true}
use Rattle.std.proofs.lemmas.List.FromFn.{length-map-range_with_len, get_or-map-range_with_len}
use Rattle.std.proofs.lemmas.Bool.{ltb-true, lt-ltb}
use Rattle.std.specs.Prelude.{ltb}
use Rattle.line_instance.specs.Truths.{In, union, IsGreatestBelow, full_to}
use Rattle.line_instance.proofs.Members.{In-set_same, In-set_kept, In-set_cases, In-union_left, In-union_right}
use Rattle.line_instance.proofs.Members.{In-empty}
use Rattle.line_instance.proofs.Members.{In-union_cases}
use Rattle.line_instance.specs.Walks.{at}
use Rattle.line_instance.specs.inner.Inside.{AreRows, AreEmpty, AreDirect, IsJoined, AreJoined, IsWhole}
use Rattle.line_instance.specs.declared.arcs.Prec.{Prec}

-- the numbers below n
pub full_members : (n i : ℕ) → n ≤ 1024 → (In (full_to n) i → i < n) × (i < n → In (full_to n) i)
unfolding full_to
full_members n i few = elim (cases_lt i 1024) [
  | inl l ↦ (let e : get_or (full_to n) i false ≡ ltb i n =
      get_or-map-range_with_len (λ k. ltb k n) 0 1024 i i false l (omega arith) in
      (λ m. ltb-true i n (sym e ∙ m), λ h. e ∙ lt-ltb i n h))
  | inr g ↦ (let none : get_or (full_to n) i false ≡ false =
      get_or_past (full_to n) i false (omega (arith, g, length-map-range_with_len (λ k. ltb k n) 0 1024)) in
      (λ m. absurd (false≢true (sym none ∙ m)), λ h. absurd (omega arith)))
]

-- one member more in one row
abbrev pub marked : List (List Bool) → ℕ → ℕ → List (List Bool)
marked rows t i = set rows t (set (get_or rows t []) i true)

module _ (rows : List (List Bool)) (t i : ℕ) (within : t < length rows) where
  marked_same : get_or (marked rows t i) t [] ≡ set (get_or rows t []) i true
  marked_same = get_or-set_same rows t (set (get_or rows t []) i true) [] within

  marked_other : (u : ℕ) → (u ≡ t → ⊥) → get_or (marked rows t i) u [] ≡ get_or rows u []
  marked_other u n = get_or-set_other rows t u (set (get_or rows t []) i true) [] n

  pub marked_kept : (u j : ℕ) → In (get_or rows u []) j → In (get_or (marked rows t i) u []) j
  marked_kept u j m = elim (cases_eq u t) [
    | inl e ↦ (let P : ℕ → Type 0 = λ x. In (get_or (marked rows t i) x []) j in
        let Q : ℕ → Type 0 = λ x. In (get_or rows x []) j in
        let R : List Bool → Type 0 = λ r. In r j in
        subst P (sym e) (subst R (sym marked_same) (In-set_kept (get_or rows t []) i j (subst Q e m))))
    | inr n ↦ (let R : List Bool → Type 0 = λ r. In r j in subst R (sym (marked_other u n)) m)
  ]

  pub marked_here : i < length (get_or rows t []) → In (get_or (marked rows t i) t []) i
  marked_here l = let R : List Bool → Type 0 = λ r. In r i in
      subst R (sym marked_same) (In-set_same (get_or rows t []) i l)

  pub marked_cases : (u j : ℕ) → In (get_or (marked rows t i) u []) j → In (get_or rows u []) j ⊎ ((u ≡ t) × (j ≡ i))
  marked_cases u j m = elim (cases_eq u t) [
    | inl e ↦ (let P : ℕ → Type 0 = λ x. In (get_or (marked rows t i) x []) j in
        let Q : ℕ → Type 0 = λ x. In (get_or rows x []) j in
        let R : List Bool → Type 0 = λ r. In r j in
        elim (In-set_cases (get_or rows t []) i j (subst R marked_same (subst P e m))) [
          | inl old ↦ inl (subst Q (sym e) old)
          | inr new ↦ inr (e, new)
        ])
    | inr n ↦ (let R : List Bool → Type 0 = λ r. In r j in inl (subst R (marked_other u n) m))
  ]

  pub marked_length : (u : ℕ) → length (get_or (marked rows t i) u []) ≡ length (get_or rows u [])
  marked_length u = elim (cases_eq u t) [
    | inl e ↦ ap (λ x. length (get_or (marked rows t i) x [])) e ∙ ap length marked_same
        ∙ length-set (get_or rows t []) i true ∙ ap (λ x. length (get_or rows x [])) (sym e)
    | inr n ↦ ap length (marked_other u n)
  ]

pub marked_rows : (n : ℕ) (rows : List (List Bool)) (t i : ℕ) → AreRows n rows → t < n → i < n
    → AreRows n (marked rows t i)
marked_rows n rows t i a l m =
    let within : t < length rows = omega (arith, a.many) in
    record {
      many = length-set rows t (set (get_or rows t []) i true) ∙ a.many;
      truths = λ u k. marked_length rows t i within u ∙ a.truths u k;
      tasks = λ j u w. elim (marked_cases rows t i within u j w) [
        | inl old ↦ a.tasks j u old
        | inr new ↦ (omega (arith, new.1), omega (arith, new.0))
      ];
    }

none_in : (n : ℕ) (rows : List (List Bool)) → length rows ≡ n
    → ((t : ℕ) → t < n → get_or rows t [] ≡ replicate 1024 false) → (i t : ℕ) → In (get_or rows t []) i → ⊥
none_in n rows m e i t l = elim (cases_lt t n) [
  | inl h ↦ In-empty 1024 i (sym (ap (λ r. get_or r i false) (e t h)) ∙ l)
  | inr g ↦ false≢true (sym (ap (λ r. get_or r i false) (get_or_past rows t [] (omega arith))) ∙ l)
]

pub empty_ones : (n : ℕ) (rows : List (List Bool)) → length rows ≡ n
    → ((t : ℕ) → t < n → get_or rows t [] ≡ replicate 1024 false) → AreEmpty n rows
empty_ones n rows m e = record {
  sets = record {
    many = m;
    truths = λ t l. ap length (e t l) ∙ length-replicate 1024 false;
    tasks = λ i t l. absurd (none_in n rows m e i t l);
  };
  none = none_in n rows m e;
}

pub no_arcs : (n : ℕ) (rows : List (List Bool)) → AreEmpty n rows → AreDirect n [] rows
no_arcs n rows e = record {
  sets = e.sets;
  there = λ i t l. absurd (omega (arith, l.1));
  only = λ i t l. absurd (e.none i t l);
}

pub only_one : (a b : Prec) → Contains (a ∷ []) b → a ≡ b
only_one a b h = let z : h.0 ≡ 0 = omega (arith, h.1) in ap (λ k. get_or (a ∷ []) k b) (sym z) ∙ h.2

pub one_arc : (n : ℕ) (arcs : List Prec) (rows : List (List Bool)) (a : Prec) → n ≤ 1024 → AreDirect n arcs rows
    → a.first < n → a.«then» < n → AreDirect n (arcs ++ a ∷ []) (marked rows a.«then» a.first)
one_arc n arcs rows a m d f h =
    let within : a.«then» < length rows = omega (arith, d.sets.many) in
    record {
      sets = marked_rows n rows a.«then» a.first d.sets h f;
      there = λ i t l. elim (Contains-append_cases arcs (a ∷ []) (record { first = i; «then» = t }) l) [
        | inl old ↦ marked_kept rows a.«then» a.first within t i (d.there i t old)
        | inr new ↦ (let P : Prec → Type 0 = λ p. In (get_or (marked rows a.«then» a.first) p.«then» []) p.first in
            subst P (only_one a (record { first = i; «then» = t }) new)
            (marked_here rows a.«then» a.first within (omega (arith, d.sets.truths a.«then» h))))
      ];
      only = λ i t l. elim (marked_cases rows a.«then» a.first within t i l) [
        | inl old ↦ Contains-append_left arcs (a ∷ []) (record { first = i; «then» = t }) (d.only i t old)
        | inr new ↦ (let Q : Prec → Type 0 = λ p. Contains (arcs ++ a ∷ []) p in
            let is : a ≡ record { first = i; «then» = t } =
            ap (λ x. record { first = x; «then» = a.«then» }) (sym new.1)
            ∙ ap (λ x. record { first = i; «then» = x }) (sym new.0) in
            subst Q is (Contains-append_right arcs (a ∷ []) a (0, omega arith, refl)))
      ];
    }

-- the row with the direct tasks from b on and those of their rows
pub record IsJoining (direct : List Bool) (rows : List (List Bool)) (row : List Bool) (b : ℕ) : Type 0 where
  pub truths : length row ≡ 1024
  pub few : b ≤ 1024
  pub from : (i : ℕ) → In row i → (j : ℕ) × In direct j × ((i ≡ j) ⊎ In (get_or rows j []) i)
  pub all : (i j : ℕ) → b ≤ j → In direct j → (i ≡ j) ⊎ In (get_or rows j []) i → In row i

pub none_joined : (direct : List Bool) (rows : List (List Bool)) → ((j : ℕ) → In direct j → j < 1024)
    → IsJoining direct rows (replicate 1024 false) 1024
none_joined direct rows h = record {
  truths = length-replicate 1024 false;
  few = omega arith;
  from = λ i m. absurd (In-empty 1024 i m);
  all = λ i j l d w. absurd (omega (arith, h j d));
}

-- one row more
pub one_joined : (direct : List Bool) (rows : List (List Bool)) (row : List Bool) (b j : ℕ)
    → length (union row (get_or rows j [])) ≡ 1024 → IsGreatestBelow direct b j → IsJoining direct rows row b
    → IsJoining direct rows (set (union row (get_or rows j [])) j true) j
one_joined direct rows row b j long g f =
    let whole : List Bool = union row (get_or rows j []) in
    record {
      truths = length-set whole j true ∙ long;
      few = omega (arith, g.below, f.few);
      from = λ i m. elim (In-set_cases whole j i m) [
        | inl u ↦ elim (In-union_cases row (get_or rows j []) i u) [
          | inl x ↦ f.from i x
          | inr y ↦ (j, g.member, inr y)
        ]
        | inr e ↦ (j, g.member, inl e)
      ];
      all = λ i h l d w. elim (cases_eq h j) [
        | inl e ↦ elim w [
          | inl s ↦ (let P : ℕ → Type 0 = λ x. In (set whole j true) x in
              subst P (sym (s ∙ e)) (In-set_same whole j (omega (arith, long, g.below, f.few))))
          | inr v ↦ In-set_kept whole j i (In-union_right row (get_or rows j []) i
              (let P : ℕ → Type 0 = λ x. In (get_or rows x []) i in subst P e v))
        ]
        | inr n ↦ In-set_kept whole j i (In-union_left row (get_or rows j []) i (elim (cases_lt h b) [
          | inl s ↦ absurd (n (omega (arith, g.greatest h d s)))
          | inr s ↦ f.all i h s d w
        ]))
      ];
    }

pub all_joined : (direct : List Bool) (rows : List (List Bool)) (row : List Bool) (b : ℕ)
    → ((j : ℕ) → In direct j → b ≤ j) → IsJoining direct rows row b → IsJoined direct rows row
all_joined direct rows row b h f = record {
  truths = f.truths;
  from = f.from;
  all = λ i j d w. f.all i j (h j d) d w;
}

-- rows that agree on the direct tasks
joined_along : (direct : List Bool) (rows new : List (List Bool)) (row : List Bool)
    → ((j : ℕ) → In direct j → get_or new j [] ≡ get_or rows j []) → IsJoined direct rows row → IsJoined direct new row
joined_along direct rows new row h f = record {
  truths = f.truths;
  from = λ i m.
      let w : (j : ℕ) × In direct j × ((i ≡ j) ⊎ In (get_or rows j []) i) = f.from i m in (
        w.0,
        w.1,
        elim w.2 [
          | inl e ↦ inl e
          | inr v ↦ (let P : List Bool → Type 0 = λ r. In r i in
              inr (subst P (sym (h w.0 w.1)) v))
        ],
      );
  all = λ i j d w. f.all i j d (elim w [
    | inl e ↦ inl e
    | inr v ↦
        (let P : List Bool → Type 0 = λ r. In r i in inr (subst P (h j d) v))
  ]);
}

-- the rows of the ranks below k are joined
pub record AreFilled (direct : List (List Bool)) (order : List ℕ) (rows : List (List Bool)) (k : ℕ) : Type 0 where
  pub many : length rows ≡ length direct
  pub joined : (m : ℕ) → m < k → IsJoined (get_or direct (at order m) []) rows (get_or rows (at order m) [])

pub none_filled : (direct : List (List Bool)) (order : List ℕ) (rows : List (List Bool)) → length rows ≡ length direct
    → AreFilled direct order rows 0
none_filled direct order rows m = record { many = m; joined = λ k l. absurd (omega arith) }

-- the row of one rank more
pub one_filled : (direct : List (List Bool)) (order : List ℕ) (rows : List (List Bool)) (k : ℕ) (row : List Bool)
    → IsWhole direct order → k < length order → IsJoined (get_or direct (at order k) []) rows row
    → AreFilled direct order rows k → AreFilled direct order (set rows (at order k) row) (k + 1)
one_filled direct order rows k row o l j f =
    let new : List (List Bool) = set rows (at order k) row in
    let other : (m : ℕ) → m < k → get_or new (at order m) [] ≡ get_or rows (at order m) [] =
    λ m h. get_or-set_other rows (at order k) (at order m) row []
    (λ e. omega (arith, o.order_is.once m k (omega arith) l e)) in
    let lower : (m i : ℕ) → m < k + 1 → In (get_or direct (at order m) []) i
    → get_or new i [] ≡ get_or rows i [] = λ m i h d.
    (let s : (p : ℕ) × (p < m) × (at order p ≡ i) = o.order_is.ready m i (omega arith) d in
    let P : ℕ → Type 0 = λ x. get_or new x [] ≡ get_or rows x [] in
    subst P s.2 (other s.0 (omega (arith, s.1)))) in
    record {
      many = length-set rows (at order k) row ∙ f.many;
      joined = λ m h. elim (cases_lt m k) [
        | inl b ↦ (let R : List Bool → Type 0 = λ r. IsJoined (get_or direct (at order m) []) new r in
            subst R (sym (other m b)) (joined_along (get_or direct (at order m) []) rows new
            (get_or rows (at order m) []) (λ i d. lower m i h d) (f.joined m b)))
        | inr b ↦ (let e : m ≡ k = omega arith in
            let same : get_or new (at order k) [] ≡ row = get_or-set_same rows (at order k) row []
            (omega (arith, f.many, o.order_is.small k l)) in
            let R : List Bool → Type 0 = λ r. IsJoined (get_or direct (at order k) []) new r in
            let P : ℕ → Type 0 = λ x. IsJoined (get_or direct (at order x) []) new (get_or new (at order x) []) in
            subst P (sym e) (subst R (sym same) (joined_along (get_or direct (at order k) []) rows new row
            (λ i d. lower k i (omega arith) d) j)))
      ];
    }

pub all_filled : (direct : List (List Bool)) (order : List ℕ) (rows : List (List Bool)) → IsWhole direct order
    → AreFilled direct order rows (length order) → AreJoined direct rows
all_filled direct order rows o f = record {
  many = f.many;
  joined = λ t l.
      let s : (k : ℕ) × (k < length order) × (at order k ≡ t) = o.stands t l in
      let P : ℕ → Type 0 = λ x. IsJoined (get_or direct x []) rows (get_or rows x []) in
      subst P s.2 (f.joined s.0 s.1);
}
