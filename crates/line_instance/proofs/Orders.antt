-- One more task in the order, and an order of all tasks.
use Rattle.std.proofs.Common.{◌≡◌, ℕ, zero, suc, ◌+◌, ◌<◌, ◌≤◌, Bool, true, false, cond, List, [], ◌∷◌, ◌++◌, length}
use Rattle.std.proofs.Common.{get_or, set, replicate, refl, sym, ap, ◌∙◌, subst, ◌⊎◌, inl, inr, arith, length-append}
use Rattle.std.proofs.Math.ListN.{get_or-append, length-set}
use Rattle.std.proofs.lemmas.List.{get_or_push, length-replicate}
use Rattle.std.proofs.lemmas.Bool.{cases_eq, cases_lt, cases_Bool, false≢true}
use Rattle.line_instance.specs.Truths.{In}
use Rattle.line_instance.proofs.Members.{In-set_same, In-set_kept, In-set_cases, In-empty}
use Rattle.line_instance.specs.Walks.{at}
use Rattle.line_instance.specs.inner.Inside.{MayCome, IsLeastFree, IsOrdering, IsWhole, IsStuck, StandsBelow}

-- how many are in s
unfoldable pub size : List Bool → ℕ
size [] = 0
size (b ∷ bs) = cond b 1 0 + size bs

pub size-set : (s : List Bool) (i : ℕ) → i < length s → get_or s i false ≡ false → size (set s i true) ≡ suc (size s)
unfolding size
size-set [] i l n = omega arith
size-set (true ∷ bs) zero l n = absurd (false≢true (sym n))
size-set (false ∷ bs) zero l n = omega arith
size-set (b ∷ bs) (suc i) l n = omega (arith, size-set bs i (omega arith) n)

pub size-most : (s : List Bool) → size s ≤ length s
unfolding size
size-most [] = omega arith
size-most (true ∷ bs) = omega (arith, size-most bs)
size-most (false ∷ bs) = omega (arith, size-most bs)

pub size-none : (n : ℕ) → size (replicate n false) ≡ 0
unfolding size
size-none zero = refl
size-none (suc n) = omega (arith, size-none n)

pub size-below : (s : List Bool) (n : ℕ) → ((i : ℕ) → In s i → i < n) → size s ≤ n
unfolding size
size-below [] n h = omega arith
size-below (true ∷ bs) zero h = absurd (omega (arith, h 0 refl))
size-below (false ∷ bs) zero h = omega (arith, size-below bs zero (λ i m. absurd (omega (arith, h (suc i) m))))
size-below (true ∷ bs) (suc n) h = omega (arith, size-below bs n (λ i m. omega (arith, h (suc i) m)))
size-below (false ∷ bs) (suc n) h = omega (arith, size-below bs n (λ i m. omega (arith, h (suc i) m)))

size-full : (s : List Bool) (n : ℕ) → ((i : ℕ) → i < n → In s i) → n ≤ size s
unfolding size
size-full s zero h = omega arith
size-full [] (suc n) h = absurd (false≢true (h 0 (omega arith)))
size-full (true ∷ bs) (suc n) h = omega (arith, size-full bs n (λ i l. h (suc i) (omega arith)))
size-full (false ∷ bs) (suc n) h = absurd (false≢true (h 0 (omega arith)))

-- a number below n that isn't in s, or all are
pub find_left : (s : List Bool) (n : ℕ) → ((t : ℕ) × (t < n) × (get_or s t false ≡ false)) ⊎ ((t : ℕ) → t < n → In s t)
find_left s zero = inr (λ t l. absurd (omega arith))
find_left s (suc n) = elim (find_left s n) [
  | inl f ↦ inl (f.0, omega (arith, f.1), f.2)
  | inr a ↦ elim (cases_Bool (get_or s n false)) [
    | inl y ↦ inr (λ t l. elim (cases_eq t n) [
      | inl e ↦ (let P : ℕ → Type 0 = λ x. In s x in subst P (sym e) y)
      | inr d ↦ a t (omega arith)
    ])
    | inr x ↦ inl (n, omega arith, x)
  ]
]

-- an order so far, with its length
pub record IsCounted (direct : List (List Bool)) (placed : List Bool) (order : List ℕ) (k : ℕ) : Type 0 where
  pub long : length order ≡ k
  pub ordering : IsOrdering direct placed order
  pub count : size placed ≡ k

pub none_ordered : (direct : List (List Bool)) → IsCounted direct (replicate 1024 false) [] 0
none_ordered direct = record {
  long = refl;
  ordering = record {
    truths = length-replicate 1024 false;
    order_is = record {
      small = λ k h. absurd (omega arith);
      once = λ k m h l e. absurd (omega arith);
      ready = λ k i h d. absurd (omega arith);
      least = λ k t h l n r. absurd (omega arith);
    };
    stands = λ t m. absurd (In-empty 1024 t m);
    holds = λ k h. absurd (omega arith);
  };
  count = size-none 1024;
}

module _ (direct : List (List Bool)) (placed : List Bool) (order : List ℕ) (t : ℕ) (o : IsOrdering direct placed order)
    (f : IsLeastFree direct placed t) (few : length direct ≤ 1024) where
  long : length (order ++ t ∷ []) ≡ length order + 1
  long = length-append order (t ∷ [])

  front : (k : ℕ) → k < length order → at (order ++ t ∷ []) k ≡ at order k
  front k l = get_or-append order (t ∷ []) 0 k l

  last : (k : ℕ) → length order ≡ k → at (order ++ t ∷ []) k ≡ t
  last k e = get_or_push order t 0 k e

  kept : (k x : ℕ) → k ≤ length order → StandsBelow order k x → StandsBelow (order ++ t ∷ []) k x
  kept k x l s = (s.0, s.1, front s.0 (omega (arith, s.1)) ∙ s.2)

  back : (k x : ℕ) → k ≤ length order → StandsBelow (order ++ t ∷ []) k x → StandsBelow order k x
  back k x l s = (s.0, s.1, sym (front s.0 (omega (arith, s.1))) ∙ s.2)

  fresh : (k : ℕ) → k < length order → at order k ≡ t → ⊥
  fresh k l e = let P : ℕ → Type 0 = λ x. In placed x in false≢true (sym f.may.new ∙ subst P e (o.holds k l))

  once : (k m : ℕ) → k < length (order ++ t ∷ []) → m < length (order ++ t ∷ [])
      → at (order ++ t ∷ []) k ≡ at (order ++ t ∷ []) m → k ≡ m
  once k m l h e = elim (cases_lt k (length order)) [
    | inl b ↦ elim (cases_lt m (length order)) [
      | inl d ↦ o.order_is.once k m b d (sym (front k b) ∙ e ∙ front m d)
      | inr d ↦ absurd (fresh k b (sym (front k b) ∙ e ∙ last m (omega (arith, long))))
    ]
    | inr b ↦ elim (cases_lt m (length order)) [
      | inl d ↦ absurd (fresh m d (sym (front m d) ∙ sym e ∙ last k (omega (arith, long))))
      | inr d ↦ omega (arith, long)
    ]
  ]

  ready : (k i : ℕ) → k < length (order ++ t ∷ []) → In (get_or direct (at (order ++ t ∷ []) k) []) i
      → StandsBelow (order ++ t ∷ []) k i
  ready k i l m = let P : ℕ → Type 0 = λ x. In (get_or direct x []) i in elim (cases_lt k (length order)) [
    | inl b ↦ kept k i (omega arith) (o.order_is.ready k i b (subst P (front k b) m))
    | inr b ↦ (let e : length order ≡ k = omega (arith, long) in
        let s : StandsBelow order (length order) i = o.stands i (f.may.ready i (subst P (last k e) m)) in
        kept k i (omega arith) (s.0, omega (arith, s.1), s.2))
  ]

  least : (k x : ℕ) → k < length (order ++ t ∷ []) → x < length direct → (StandsBelow (order ++ t ∷ []) k x → ⊥)
      → ((i : ℕ) → In (get_or direct x []) i → StandsBelow (order ++ t ∷ []) k i) → at (order ++ t ∷ []) k ≤ x
  least k x l h n r = elim (cases_lt k (length order)) [
    | inl b ↦ omega (
      arith,
      front k b,
      o.order_is.least k x b h (λ s. n (kept k x (omega arith) s))
          (λ i m. back k i (omega arith) (r i m)),
    )
    | inr b ↦ (let e : length order ≡ k = omega (arith, long) in elim (cases_lt x t) [
      | inl c ↦ absurd (f.least x c record {
        task = h;
        new = elim (cases_Bool (get_or placed x false)) [
          | inl y ↦ (let s : StandsBelow order (length order) x = o.stands x y in
              absurd (n (kept k x (omega arith) (s.0, omega (arith, s.1), s.2))))
          | inr z ↦ z
        ];
        ready = λ i m.
            let s : StandsBelow order k i = back k i (omega arith) (r i m) in
            let P : ℕ → Type 0 = λ y. In placed y in
            subst P s.2 (o.holds s.0 (omega (arith, s.1)));
      })
      | inr c ↦ omega (arith, last k e)
    ])
  ]

  pub one_ordered : IsOrdering direct (set placed t true) (order ++ t ∷ [])
  one_ordered = record {
    truths = length-set placed t true ∙ o.truths;
    order_is = record {
      small = λ k l. elim (cases_lt k (length order)) [
        | inl b ↦ omega (arith, front k b, o.order_is.small k b)
        | inr b ↦ omega (arith, long, last k (omega (arith, long)), f.may.task)
      ];
      once = once;
      ready = ready;
      least = least;
    };
    stands = λ x m. elim (In-set_cases placed t x m) [
      | inl p ↦ (let s : StandsBelow order (length order) x = o.stands x p in
          (s.0, omega (arith, s.1, long), front s.0 s.1 ∙ s.2))
      | inr e ↦ (length order, omega (arith, long), last (length order) refl ∙ sym e)
    ];
    holds = λ k l. elim (cases_lt k (length order)) [
      | inl b ↦ (let P : ℕ → Type 0 = λ x. In (set placed t true) x in
          subst P (sym (front k b)) (In-set_kept placed t (at order k) (o.holds k b)))
      | inr b ↦ (let P : ℕ → Type 0 = λ x. In (set placed t true) x in
          subst P (sym (last k (omega (arith, long)))) (In-set_same placed t (omega (arith, f.may.task, o.truths))))
    ];
  }

pub one_counted : (direct : List (List Bool)) (placed : List Bool) (order : List ℕ) (t k : ℕ) → length direct ≤ 1024
    → IsCounted direct placed order k → IsLeastFree direct placed t
    → IsCounted direct (set placed t true) (order ++ t ∷ []) (k + 1)
one_counted direct placed order t k few o f = record {
  long = length-append order (t ∷ []) ∙ ap (λ n. n + 1) o.long;
  ordering = one_ordered direct placed order t o.ordering f few;
  count = omega (arith, o.count, size-set placed t (omega (arith, f.may.task, o.ordering.truths)) f.may.new);
}

-- the placed tasks are tasks
placed_small : (direct : List (List Bool)) (placed : List Bool) (order : List ℕ) → IsOrdering direct placed order
    → (t : ℕ) → In placed t → t < length direct
placed_small direct placed order o t m =
    let s : StandsBelow order (length order) t = o.stands t m in
    omega (arith, o.order_is.small s.0 s.1, s.2)

pub is_stuck : (direct : List (List Bool)) (placed : List Bool) (order : List ℕ) (k : ℕ) → k < length direct
    → IsCounted direct placed order k → ((t : ℕ) → MayCome direct placed t → ⊥) → IsStuck direct placed
is_stuck direct placed order k l o n = record {
  some = elim (find_left placed (length direct)) [
    | inl f ↦ f
    | inr a ↦ absurd (omega (arith, o.count, size-full placed (length direct) a))
  ];
  none = n;
}

pub is_whole : (direct : List (List Bool)) (placed : List Bool) (order : List ℕ) → length direct ≤ 1024
    → IsCounted direct placed order (length direct) → IsWhole direct order
is_whole direct placed order few o = record {
  order_is = o.ordering.order_is;
  many = o.long;
  stands = elim (find_left placed (length direct)) [
    | inl f ↦ absurd (omega (
      arith,
      o.count,
      size-set placed f.0 (omega (arith, f.1, o.ordering.truths)) f.2,
      size-below (set placed f.0 true) (length direct) (λ i m. elim (In-set_cases placed f.0 i m) [
        | inl p ↦ placed_small direct placed order o.ordering i p
        | inr e ↦ omega (arith, e, f.1)
      ]),
    ))
    | inr a ↦ (λ t l. o.ordering.stands t (a t l))
  ];
}
