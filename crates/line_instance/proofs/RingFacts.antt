-- A way back along arcs, and the ring that is cut out of it and turned to its least task.
use Rattle.std.proofs.Common.{◌≡◌, ℕ, ◌+◌, ◌-◌, ◌<◌, ◌≤◌, Bool, true, false, List, [], ◌∷◌, ◌++◌, length, get_or, set}
use Rattle.std.proofs.Common.{replicate, refl, sym, ap, ◌∙◌, subst, ◌⊎◌, inl, inr, arith, length-append}
use Rattle.std.proofs.Math.ListN.{get_or-append, length-set}
use Rattle.std.proofs.lemmas.List.{get_or_push, length-replicate}
use Rattle.std.proofs.lemmas.Bool.{cases_eq, cases_lt, cases_Bool, false≢true}
use Rattle.line_instance.specs.Truths.{In, IsSubset, minus}
use Rattle.line_instance.proofs.Members.{In-set_same, In-set_kept, In-set_cases, In-minus, In-empty}
use Rattle.line_instance.specs.Walks.{at, IsRingOf}
use Rattle.line_instance.specs.inner.Inside.{LeadsIn, IsBackWalk, IsAppended}
use Rattle.line_instance.proofs.Orders.{size, size-set, size-most}

-- all direct tasks are placed, or one is left
pub none_left : (row placed : List Bool) → ((i : ℕ) → In (minus row placed) i → ⊥) → IsSubset row placed
none_left row placed n i m = elim (cases_Bool (get_or placed i false)) [
  | inl y ↦ y
  | inr x ↦ absurd (n i (In-minus row placed i m x))
]

-- the way back so far, and the task that comes next
pub record IsWalking (direct : List (List Bool)) (placed : List Bool) (path : List ℕ) (seen : List Bool)
    (task : ℕ) : Type 0 where
  pub truths : length seen ≡ 1024
  pub within : task < length direct
  pub left : get_or placed task false ≡ false
  pub leads : (k : ℕ) → k + 1 < length path → LeadsIn direct (at path (k + 1)) (at path k)
  pub last : (k : ℕ) → k + 1 ≡ length path → LeadsIn direct task (at path k)
  pub once : (k m : ℕ) → k < length path → m < length path → at path k ≡ at path m → k ≡ m
  pub stands : (t : ℕ) → In seen t → (k : ℕ) × (k < length path) × (at path k ≡ t)
  pub holds : (k : ℕ) → k < length path → In seen (at path k)

pub none_walked : (direct : List (List Bool)) (placed : List Bool) (task : ℕ) → task < length direct
    → get_or placed task false ≡ false → IsWalking direct placed [] (replicate 1024 false) task
none_walked direct placed task l n = record {
  truths = length-replicate 1024 false;
  within = l;
  left = n;
  leads = λ k h. absurd (omega arith);
  last = λ k h. absurd (omega arith);
  once = λ k m h j e. absurd (omega arith);
  stands = λ t m. absurd (In-empty 1024 t m);
  holds = λ k h. absurd (omega arith);
}

module _ (direct : List (List Bool)) (placed : List Bool) (path : List ℕ) (seen : List Bool) (task : ℕ)
    (w : IsWalking direct placed path seen task) (few : length direct ≤ 1024)
    (new : get_or seen task false ≡ false) where
  long : length (path ++ task ∷ []) ≡ length path + 1
  long = length-append path (task ∷ [])

  front : (k : ℕ) → k < length path → at (path ++ task ∷ []) k ≡ at path k
  front k l = get_or-append path (task ∷ []) 0 k l

  last : (k : ℕ) → length path ≡ k → at (path ++ task ∷ []) k ≡ task
  last k e = get_or_push path task 0 k e

  fresh : (k : ℕ) → k < length path → at path k ≡ task → ⊥
  fresh k l e = let P : ℕ → Type 0 = λ x. In seen x in false≢true (sym new ∙ subst P e (w.holds k l))

  pub one_walked : (next : ℕ) → next < length direct → get_or placed next false ≡ false → LeadsIn direct next task
      → IsWalking direct placed (path ++ task ∷ []) (set seen task true) next
  one_walked next l n d = record {
    truths = length-set seen task true ∙ w.truths;
    within = l;
    left = n;
    leads = λ k h. let P : ℕ → ℕ → Type 0 = λ x y. LeadsIn direct x y in
        let Q : ℕ → Type 0 = λ x. LeadsIn direct x (at (path ++ task ∷ []) k) in
        let R : ℕ → Type 0 = λ y. LeadsIn direct (at path (k + 1)) y in
        let S : ℕ → Type 0 = λ y. LeadsIn direct task y in
        elim (cases_lt (k + 1) (length path)) [
          | inl b ↦ subst Q (sym (front (k + 1) b)) (subst R (sym (front k (omega arith))) (w.leads k b))
          | inr b ↦ (let e : k + 1 ≡ length path = omega (arith, long) in
              subst Q (sym (last (k + 1) (sym e))) (subst S (sym (front k (omega arith))) (w.last k e)))
        ];
    last = λ k h. (let S : ℕ → Type 0 = λ y. LeadsIn direct next y in subst S (sym (last k (omega (arith, long)))) d);
    once = λ k m h j e. elim (cases_lt k (length path)) [
      | inl b ↦ elim (cases_lt m (length path)) [
        | inl c ↦ w.once k m b c (sym (front k b) ∙ e ∙ front m c)
        | inr c ↦ absurd (fresh k b (sym (front k b) ∙ e ∙ last m (omega (arith, long))))
      ]
      | inr b ↦ elim (cases_lt m (length path)) [
        | inl c ↦ absurd (fresh m c (sym (front m c) ∙ sym e ∙ last k (omega (arith, long))))
        | inr c ↦ omega (arith, long)
      ]
    ];
    stands = λ t m. elim (In-set_cases seen task t m) [
      | inl p ↦ (let s : (k : ℕ) × (k < length path) × (at path k ≡ t) = w.stands t p in
          (s.0, omega (arith, s.1, long), front s.0 s.1 ∙ s.2))
      | inr e ↦ (length path, omega (arith, long), last (length path) refl ∙ sym e)
    ];
    holds = λ k h. let P : ℕ → Type 0 = λ x. In (set seen task true) x in elim (cases_lt k (length path)) [
      | inl b ↦ subst P (sym (front k b)) (In-set_kept seen task (at path k) (w.holds k b))
      | inr b ↦ subst P (sym (last k (omega (arith, long)))) (In-set_same seen task (omega (arith, w.within, w.truths)))
    ];
  }

  pub one_seen : (more : List Bool) → more ≡ set seen task true → 1024 - size more < 1024 - size seen
  one_seen more e = omega (
    arith,
    ap size e,
    size-set seen task (omega (arith, w.within, w.truths)) new,
    size-most (set seen task true),
    length-set seen task true,
    w.truths,
  )

pub back_walk : (direct : List (List Bool)) (placed : List Bool) (path : List ℕ) (seen : List Bool) (task : ℕ)
    → IsWalking direct placed path seen task → In seen task → IsBackWalk direct path task
back_walk direct placed path seen task w m = record {
  leads = w.leads;
  last = w.last;
  once = w.once;
  stands = w.stands task m;
}

pub none_appended : (old path : List ℕ) (to : ℕ) → IsAppended old path to to old
none_appended old path to = record {
  long = refl;
  kept = λ k l. refl;
  added = λ k i l h e. absurd (omega arith);
}

-- one member more
pub one_appended : (old path new : List ℕ) (from to : ℕ) → from + 1 ≤ to → IsAppended old path (from + 1) to new
    → IsAppended old path from to (new ++ at path from ∷ [])
one_appended old path new from to h a =
    let long : length (new ++ at path from ∷ []) ≡ length new + 1 = length-append new (at path from ∷ []) in
    let front : (k : ℕ) → k < length new → at (new ++ at path from ∷ []) k ≡ at new k =
    λ k l. get_or-append new (at path from ∷ []) 0 k l in
    record {
      long = omega (arith, long, a.long);
      kept = λ k l. front k (omega (arith, a.long)) ∙ a.kept k l;
      added = λ k i l m e. elim (cases_eq i from) [
        | inl s ↦ get_or_push new (at path from) 0 k (omega (arith, a.long)) ∙ ap (at path) (sym s)
        | inr n ↦ front k (omega (arith, a.long)) ∙ a.added k i (omega arith) m e
      ];
    }

module _ (direct : List (List Bool)) (path : List ℕ) (again from cut : ℕ) (first ring : List ℕ)
    (w : IsBackWalk direct path again) (low : from ≤ cut) (high : cut < length path) (start : at path from ≡ again)
    (least : (k : ℕ) → from ≤ k → k < length path → at path cut ≤ at path k)
    (a : IsAppended [] path from (cut + 1) first) (b : IsAppended first path (cut + 1) (length path) ring) where
  whole : length ring + from ≡ length path
  whole = omega (arith, a.long, b.long)

  -- where the member of the ring stands on the path
  place : (k : ℕ) → k < length ring → (i : ℕ) × (from ≤ i) × (i < length path) × (at ring k ≡ at path i)
      × ((k + i ≡ cut) ⊎ ((cut < i) × (k + i + from ≡ cut + length path)))
  place k l = elim (cases_lt cut (k + from)) [
    | inl h ↦ (let i : ℕ = cut + length path - from - k in (
      i,
      omega (arith, whole),
      omega arith,
      b.added k i (omega (arith, whole)) (omega arith)
          (omega (arith, whole, a.long)),
      inr (omega (arith, whole), omega (arith, whole)),
    ))
    | inr h ↦ (let i : ℕ = cut - k in (
      i,
      omega arith,
      omega arith,
      b.kept k (omega (arith, a.long))
          ∙ a.added k i (omega arith) (omega arith) (omega arith),
      inl (omega arith),
    ))
  ]

  moved : (x y u v : ℕ) → LeadsIn direct u v → x ≡ u → y ≡ v → LeadsIn direct x y
  moved x y u v d e f =
      let P : ℕ → Type 0 = λ z. LeadsIn direct z y in
      let Q : ℕ → Type 0 = λ z. LeadsIn direct u z in
      subst P (sym e) (subst Q (sym f) d)

  -- an arc leads from the one place to the other
  along : (i j : ℕ) → j < length path → (i ≡ j + 1) ⊎ ((i ≡ from) × (j + 1 ≡ length path)) → i < length path
      → LeadsIn direct (at path i) (at path j)
  along i j l e h = elim e [
    | inl s ↦ moved (at path i) (at path j) (at path (j + 1)) (at path j) (w.leads j (omega arith)) (ap (at path) s)
        refl
    | inr s ↦ moved (at path i) (at path j) again (at path j) (w.last j s.1) (ap (at path) s.0 ∙ start) refl
  ]

  first_is : at ring 0 ≡ at path cut
  first_is = b.kept 0 (omega (arith, a.long)) ∙ a.added 0 cut low (omega arith) (omega arith)

  leads : (k : ℕ) → k + 1 < length ring → LeadsIn direct (at ring k) (at ring (k + 1))
  leads k l =
      let p = place k (omega arith) in
      let q = place (k + 1) l in
      moved (at ring k) (at ring (k + 1)) (at path p.0) (at path q.0)
      (along p.0 q.0 q.2 (elim p.4 [
        | inl x ↦ elim q.4 [
          | inl y ↦ inl (omega arith)
          | inr y ↦ inr (omega (arith, p.1, q.2), omega (arith, p.1, q.2))
        ]
        | inr x ↦ elim q.4 [
          | inl y ↦ absurd (omega (arith, p.2, q.1))
          | inr y ↦ inl (omega arith)
        ]
      ]) p.2) p.3 q.3

  closes : (k : ℕ) → k + 1 ≡ length ring → LeadsIn direct (at ring k) (at ring 0)
  closes k l =
      let p = place k (omega arith) in
      moved (at ring k) (at ring 0) (at path p.0) (at path cut)
      (along p.0 cut high (elim p.4 [
        | inl x ↦ inr (omega (arith, p.1, whole), omega (arith, p.1, whole))
        | inr x ↦ inl (omega (arith, whole))
      ]) p.2) p.3 first_is

  once : (k m : ℕ) → k < length ring → m < length ring → at ring k ≡ at ring m → k ≡ m
  once k m l h e =
      let p = place k l in
      let q = place m h in
      let same : p.0 ≡ q.0 = w.once p.0 q.0 p.2 q.2 (sym p.3 ∙ e ∙ q.3) in
      elim p.4 [
        | inl x ↦ elim q.4 [ inl y ↦ omega arith | inr y ↦ omega arith ]
        | inr x ↦ elim q.4 [ inl y ↦ omega arith | inr y ↦ omega arith ]
      ]

  pub ring_is : IsRingOf (LeadsIn direct) ring
  ring_is = record {
    some = omega (arith, whole);
    leads = leads;
    closes = closes;
    once = once;
    least = λ k l. let p = place k l in omega (arith, first_is, p.3, least p.0 p.1 p.2);
  }
