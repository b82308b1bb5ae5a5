-- Each set of tasks has a list of its loads: all pairs of sets of tasks, in order, and of these the loads.
use Rattle.std.proofs.Common.{◌≡◌, ◌≢◌, ℕ, zero, suc, ◌+◌, ◌-◌, ◌*◌, ◌<◌, ◌≤◌, Bool, true, false, cond, nat_lt, List}
use Rattle.std.proofs.Common.{[], ◌∷◌, ◌++◌, refl, sym, ap, ◌∙◌, subst, ◌⊎◌, inl, inr, Some, arith}
use Rattle.std.specs.Prelude.{slice_get, slice_set}
use Rattle.std.proofs.lemmas.Bool.{cases_lt, cases_eq, cases_Bool, false≢true, true≢false, lt-ltb, le-ltb}
use Rattle.std.proofs.lemmas.List.{get_or-set_same, get_or-set_other, length-set}
use Rattle.line_instance.specs.Truths.{full_to}
use Rattle.line_instance.proofs.Members.{In-full_to_below}
use Rattle.line_instance.proofs.Fills.{length-full_to}
use Rattle.line_instance.specs.Line.{Line, IsTaskSet, IsRanked, tasks, has, at_rank}
use Rattle.std.proofs.lemmas.Option.{same_Some}
use Rattle.line_rules.specs.Loads.{with_front, with_back}
use Rattle.line_rules.specs.Order.{truth, Precedes, Lists}
use Rattle.line_rules.specs.declared.types.Load.{Load}
use Rattle.line_rules.proofs.Compare.{same_front, same_back}

-- both parts are sets of tasks
pub record IsPair (line : Line) (l : Load) : Type 0 where
  pub front : IsTaskSet line l.front
  pub back : IsTaskSet line l.back

-- the pair with the truth at place k
abbrev pub give : Line → Load → ℕ → Load
give line l k = cond (nat_lt k (tasks line)) (with_front l (at_rank line k))
    (with_back l (at_rank line (2 * tasks line - 1 - k)))

-- the pairs that agree with l but at the m places from k on, in order
abbrev pub spread : Line → ℕ → ℕ → Load → List Load
spread line k zero l = l ∷ []
spread line k (suc m) l = spread line (suc k) m l ++ spread line (suc k) m (give line l k)

-- the pair of no tasks
abbrev pub nothing : Load
nothing = record { front = full_to 0; back = full_to 0 }

-- a is in the list
abbrev pub Amid : Load → List Load → Type 0
Amid a [] = ⊥
Amid a (x ∷ xs) = (a ≡ x) ⊎ Amid a xs

-- each load of the list stands before all later ones
abbrev pub Rises : Line → List Load → Type 0
Rises line [] = Unit {0}
Rises line (x ∷ xs) = ((b : Load) → Amid b xs → Precedes line x b) × Rises line xs

pub amid_left : (a : Load) (xs ys : List Load) → Amid a xs → Amid a (xs ++ ys)
amid_left a [] ys h = absurd h
amid_left a (x ∷ xs) ys (inl e) = inl e
amid_left a (x ∷ xs) ys (inr h) = inr (amid_left a xs ys h)

pub amid_right : (a : Load) (xs ys : List Load) → Amid a ys → Amid a (xs ++ ys)
amid_right a [] ys h = h
amid_right a (x ∷ xs) ys h = inr (amid_right a xs ys h)

pub amid_cases : (a : Load) (xs ys : List Load) → Amid a (xs ++ ys) → Amid a xs ⊎ Amid a ys
amid_cases a [] ys h = inr h
amid_cases a (x ∷ xs) ys (inl e) = inl (inl e)
amid_cases a (x ∷ xs) ys (inr h) = elim (amid_cases a xs ys h) [ inl p ↦ inl (inr p) | inr q ↦ inr q ]

pub rises_append : (line : Line) (xs ys : List Load) → Rises line xs → Rises line ys
    → ((a b : Load) → Amid a xs → Amid b ys → Precedes line a b) → Rises line (xs ++ ys)
rises_append line [] ys r s h = s
rises_append line (x ∷ xs) ys r s h = (
  λ b m. elim (amid_cases b xs ys m) [ inl p ↦ r.0 b p | inr q ↦ h x b (inl refl) q ],
  rises_append line xs ys r.1 s (λ a b p q. h a b (inr p) q),
)

pub amid_at : (xs : List Load) (k : ℕ) (a : Load) → slice_get xs k ≡ Some a → Amid a xs
amid_at [] k a e = absurd (cc)
amid_at (x ∷ xs) zero a e = inl (sym (same_Some x a e))
amid_at (x ∷ xs) (suc k) a e = inr (amid_at xs k a e)

pub at_amid : (xs : List Load) (a : Load) → Amid a xs → (k : ℕ) × (slice_get xs k ≡ Some a)
at_amid [] a h = absurd h
at_amid (x ∷ xs) a (inl e) = (0, ap (λ (z : Load). Some z) (sym e))
at_amid (x ∷ xs) a (inr h) = let r : (k : ℕ) × (slice_get xs k ≡ Some a) = at_amid xs a h in (suc r.0, r.1)

steps_up : (line : Line) (xs : List Load) → Rises line xs → (k : ℕ) (a b : Load) → slice_get xs k ≡ Some a
    → slice_get xs (suc k) ≡ Some b → Precedes line a b
steps_up line [] r k a b e f = absurd (cc)
steps_up line (x ∷ xs) r zero a b e f = let P : Load → Type 0 = λ z. Precedes line z b in
    subst P (same_Some x a e) (r.0 b (amid_at xs 0 b f))
steps_up line (x ∷ xs) r (suc k) a b e f = steps_up line xs r.1 k a b e f

-- a rising list of what passes is the list of it
pub lists_of : (line : Line) (P : Load → Type 0) (xs : List Load) → Rises line xs → ((a : Load) → Amid a xs → P a)
    → ((a : Load) → P a → Amid a xs) → Lists line P xs
lists_of line P xs r s c = record {
  rises = steps_up line xs r;
  sound = λ k a e. s a (amid_at xs k a e);
  complete = λ a p. at_amid xs a (c a p);
}

-- those that pass a test
abbrev pub pick : (Load → Bool) → List Load → List Load
pick p [] = []
pick p (x ∷ xs) = cond (p x) (x ∷ pick p xs) (pick p xs)

amid_pick : (p : Load → Bool) (a : Load) (x : Load) (b : Bool) → p x ≡ b → (xs : List Load)
    → (Amid a (pick p xs) → Amid a xs × (p a ≡ true)) → Amid a (cond b (x ∷ pick p xs) (pick p xs))
    → Amid a (x ∷ xs) × (p a ≡ true)
amid_pick p a x true t xs h (inl e) = (inl e, ap p e ∙ t)
amid_pick p a x true t xs h (inr m) = (inr (h m).0, (h m).1)
amid_pick p a x false t xs h m = (inr (h m).0, (h m).1)

pub picked : (p : Load → Bool) (a : Load) (xs : List Load) → Amid a (pick p xs) → Amid a xs × (p a ≡ true)
picked p a [] h = absurd h
picked p a (x ∷ xs) h = amid_pick p a x (p x) refl xs (picked p a xs) h

pick_amid : (p : Load → Bool) (a x : Load) (b : Bool) → p x ≡ b → (xs ys : List Load) → p a ≡ true → (a ≡ x) ⊎ Amid a ys
    → Amid a (cond b (x ∷ ys) ys)
pick_amid p a x true t xs ys h m = m
pick_amid p a x false t xs ys h (inl e) = absurd (true≢false (sym h ∙ (ap p e ∙ t)))
pick_amid p a x false t xs ys h (inr m) = m

pub picks : (p : Load → Bool) (a : Load) (xs : List Load) → Amid a xs → p a ≡ true → Amid a (pick p xs)
picks p a [] h t = absurd h
picks p a (x ∷ xs) (inl e) t = pick_amid p a x (p x) refl xs (pick p xs) t (inl e)
picks p a (x ∷ xs) (inr m) t = pick_amid p a x (p x) refl xs (pick p xs) t (inr (picks p a xs m t))

rises_pick : (line : Line) (p : Load → Bool) (x : Load) (b : Bool) (xs : List Load)
    → ((a : Load) → Amid a xs → Precedes line x a) → Rises line (pick p xs)
    → Rises line (cond b (x ∷ pick p xs) (pick p xs))
rises_pick line p x true xs h r = (λ a m. h a (picked p a xs m).0, r)
rises_pick line p x false xs h r = r

pub picked_rise : (line : Line) (p : Load → Bool) (xs : List Load) → Rises line xs → Rises line (pick p xs)
picked_rise line p [] r = tt
picked_rise line p (x ∷ xs) r = rises_pick line p x (p x) xs r.0 (picked_rise line p xs r.1)

module _ (line : Line) (small : tasks line ≤ 1024) (ranked : IsRanked line) where
  pub with_task : (s : List Bool) (i : ℕ) → i < tasks line → IsTaskSet line s → IsTaskSet line (slice_set s i true)
  with_task s i l set = record {
    truths = length-set s i true ∙ set.truths;
    tasks = λ j m. elim (cases_eq j i) [
      | inl e ↦ omega (arith, e, l)
      | inr n ↦ set.tasks j (sym (get_or-set_other s i j true false n) ∙ m)
    ];
  }

  has_task : (s : List Bool) (i : ℕ) → i < tasks line → IsTaskSet line s → has (slice_set s i true) i ≡ true
  has_task s i l set = get_or-set_same s i true false (omega (arith, l, small, set.truths))

  other_rank : (s : List Bool) (j k : ℕ) → j < tasks line → k < tasks line → j ≢ k
      → has (slice_set s (at_rank line k) true) (at_rank line j) ≡ has s (at_rank line j)
  other_rank s j k l m n = get_or-set_other s (at_rank line k) (at_rank line j) true false
      (λ e. n (ranked.once j k l m e))

  pub front_truth : (l : Load) (k : ℕ) → k < tasks line → truth line l k ≡ has l.front (at_rank line k)
  front_truth l k h = ap (λ b. cond b (has l.front (at_rank line k))
      (has l.back (at_rank line (2 * tasks line - 1 - k)))) (lt-ltb k (tasks line) h)

  pub back_truth : (l : Load) (k : ℕ) → tasks line ≤ k → truth line l k
      ≡ has l.back (at_rank line (2 * tasks line - 1 - k))
  back_truth l k h = ap (λ b. cond b (has l.front (at_rank line k))
      (has l.back (at_rank line (2 * tasks line - 1 - k)))) (le-ltb k (tasks line) h)

  give_front : (l : Load) (k : ℕ) → k < tasks line → give line l k ≡ with_front l (at_rank line k)
  give_front l k h = ap (λ b. cond b (with_front l (at_rank line k))
      (with_back l (at_rank line (2 * tasks line - 1 - k)))) (lt-ltb k (tasks line) h)

  give_back : (l : Load) (k : ℕ) → tasks line ≤ k → give line l k ≡ with_back l (at_rank line (2 * tasks line - 1 - k))
  give_back l k h = ap (λ b. cond b (with_front l (at_rank line k))
      (with_back l (at_rank line (2 * tasks line - 1 - k)))) (le-ltb k (tasks line) h)

  -- what the pair with one truth more is
  record IsGiven (l : Load) (k : ℕ) (m : Load) : Type 0 where
    pair : IsPair line m
    there : truth line m k ≡ true
    others : (j : ℕ) → j < 2 * tasks line → j ≢ k → truth line m j ≡ truth line l j

  given_front : (l : Load) (k : ℕ) → IsPair line l → k < tasks line → IsGiven l k (with_front l (at_rank line k))
  given_front l k p h =
      let m : Load = with_front l (at_rank line k) in
      record {
        pair = record { front = with_task l.front (at_rank line k) (ranked.task k h) p.front; back = p.back };
        there = front_truth m k h ∙ has_task l.front (at_rank line k) (ranked.task k h) p.front;
        others = λ j w n. elim (cases_lt j (tasks line)) [
          | inl f ↦ front_truth m j f ∙ (other_rank l.front j k f h n ∙ sym (front_truth l j f))
          | inr b ↦ back_truth m j b ∙ sym (back_truth l j b)
        ];
      }

  given_back : (l : Load) (k : ℕ) → IsPair line l → tasks line ≤ k → k < 2 * tasks line
      → IsGiven l k (with_back l (at_rank line (2 * tasks line - 1 - k)))
  given_back l k p h w =
      let q : ℕ = 2 * tasks line - 1 - k in
      let less : q < tasks line = omega (arith, h, w) in
      let m : Load = with_back l (at_rank line q) in
      record {
        pair = record { front = p.front; back = with_task l.back (at_rank line q) (ranked.task q less) p.back };
        there = back_truth m k h ∙ has_task l.back (at_rank line q) (ranked.task q less) p.back;
        others = λ j v n. elim (cases_lt j (tasks line)) [
          | inl f ↦ front_truth m j f ∙ sym (front_truth l j f)
          | inr b ↦ back_truth m j b ∙ (other_rank l.back (2 * tasks line - 1 - j) q (omega (arith, b, v)) less
              (λ e. n (omega (arith, e, b, v, h, w))) ∙ sym (back_truth l j b))
        ];
      }

  given : (l : Load) (k : ℕ) → IsPair line l → k < 2 * tasks line → IsGiven l k (give line l k)
  given l k p w =
      let P : Load → Type 0 = λ z. IsGiven l k z in
      elim (cases_lt k (tasks line)) [
        | inl f ↦ subst P (sym (give_front l k f)) (given_front l k p f)
        | inr b ↦ subst P (sym (give_back l k b)) (given_back l k p b w)
      ]

  -- a is a pair that agrees with l but at the m places from k on
  pub record Agrees (k m : ℕ) (l a : Load) : Type 0 where
    pub pair : IsPair line a
    pub before : (j : ℕ) → j < 2 * tasks line → j < k → truth line a j ≡ truth line l j
    pub behind : (j : ℕ) → j < 2 * tasks line → k + m ≤ j → truth line a j ≡ truth line l j

  -- l has nothing at the m places from k on
  abbrev pub IsClear : ℕ → ℕ → Load → Type 0
  IsClear k m l = (j : ℕ) → k ≤ j → j < k + m → truth line l j ≡ false

  clear_on : (k m : ℕ) (l : Load) → IsClear k (suc m) l → IsClear (suc k) m l
  clear_on k m l h j a b = h j (omega arith) (omega arith)

  clear_given : (k m : ℕ) (l g : Load) → k + suc m ≤ 2 * tasks line → IsGiven l k g → IsClear k (suc m) l
      → IsClear (suc k) m g
  clear_given k m l g w is h j a b = is.others j (omega arith) (λ e. omega (arith, e)) ∙ h j (omega arith) (omega arith)

  clear_here : (k m : ℕ) (l : Load) → IsClear k (suc m) l → truth line l k ≡ false
  clear_here k m l h = h k (omega arith) (omega arith)

  pub agreeing : (k m : ℕ) (l a : Load) → k + m ≤ 2 * tasks line → IsPair line l → Amid a (spread line k m l)
      → Agrees k m l a
  agreeing k zero l a w p (inl e) = let P : Load → Type 0 = λ z. Agrees k 0 l z in
      subst P (sym e) (record { pair = p; before = λ j x y. refl; behind = λ j x y. refl })
  agreeing k zero l a w p (inr h) = absurd h
  agreeing k (suc m) l a w p h =
      let g : IsGiven l k (give line l k) = given l k p (omega arith) in
      elim (amid_cases a (spread line (suc k) m l) (spread line (suc k) m (give line l k)) h) [
        | inl f ↦ (let r : Agrees (suc k) m l a = agreeing (suc k) m l a (omega arith) p f in
            record {
              pair = r.pair;
              before = λ j x y. r.before j x (omega arith);
              behind = λ j x y. r.behind j x (omega arith);
            })
        | inr f ↦ (let r : Agrees (suc k) m (give line l k) a =
            agreeing (suc k) m (give line l k) a (omega arith) g.pair f in
            record {
              pair = r.pair;
              before = λ j x y. r.before j x (omega arith) ∙ g.others j x (λ e. omega (arith, e, y));
              behind = λ j x y. r.behind j x (omega arith) ∙ g.others j x (λ e. omega (arith, e, y));
            })
      ]

  pub rising : (k m : ℕ) (l : Load) → k + m ≤ 2 * tasks line → IsPair line l → IsClear k m l
      → Rises line (spread line k m l)
  rising k zero l w p c = (λ b h. absurd h, tt)
  rising k (suc m) l w p c =
      let g : IsGiven l k (give line l k) = given l k p (omega arith) in
      rises_append line (spread line (suc k) m l) (spread line (suc k) m (give line l k))
      (rising (suc k) m l (omega arith) p (clear_on k m l c))
      (rising (suc k) m (give line l k) (omega arith) g.pair (clear_given k m l (give line l k) w g c))
      (λ a b f h.
      let r : Agrees (suc k) m l a = agreeing (suc k) m l a (omega arith) p f in
      let s : Agrees (suc k) m (give line l k) b = agreeing (suc k) m (give line l k) b (omega arith) g.pair h in
      record {
        at = k;
        within = omega arith;
        same = λ j x. r.before j (omega arith) (omega arith)
            ∙ (sym (g.others j (omega arith) (λ e. omega (arith, e, x)))
            ∙ sym (s.before j (omega arith) (omega arith)));
        absent = r.before k (omega arith) (omega arith) ∙ clear_here k m l c;
        present = s.before k (omega arith) (omega arith) ∙ g.there;
      })

  pairs_same : (a b : Load) → IsPair line a → IsPair line b
      → ((k : ℕ) → k < 2 * tasks line → truth line a k ≡ truth line b k) → a ≡ b
  pairs_same a b f g same = λ i. record {
    front = same_front line ranked a b same f.front g.front i;
    back = same_back line ranked a b same f.back g.back i;
  }

  pub spreading : (k m : ℕ) (l a : Load) → k + m ≤ 2 * tasks line → IsPair line l → IsClear k m l → Agrees k m l a
      → Amid a (spread line k m l)
  spreading k zero l a w p c h = inl (pairs_same a l h.pair p
      (λ j x. elim (cases_lt j k) [ inl y ↦ h.before j x y | inr y ↦ h.behind j x (omega arith) ]))
  spreading k (suc m) l a w p c h =
      let g : IsGiven l k (give line l k) = given l k p (omega arith) in
      elim (cases_Bool (truth line a k)) [
        | inl t ↦ amid_right a (spread line (suc k) m l) (spread line (suc k) m (give line l k))
            (spreading (suc k) m (give line l k) a (omega arith) g.pair (clear_given k m l (give line l k) w g c)
            (record {
              pair = h.pair;
              before = λ j x y. elim (cases_eq j k) [
                | inl e ↦ (let P : ℕ → Type 0 = λ z. truth line a z ≡ truth line (give line l k) z in
                    subst P (sym e) (t ∙ sym g.there))
                | inr n ↦ h.before j x (omega (arith, n, y)) ∙ sym (g.others j x n)
              ];
              behind = λ j x y. h.behind j x (omega arith) ∙ sym (g.others j x (λ e. omega (arith, e, y)));
            }))
        | inr f ↦ amid_left a (spread line (suc k) m l) (spread line (suc k) m (give line l k))
            (spreading (suc k) m l a (omega arith) p (clear_on k m l c) (record {
              pair = h.pair;
              before = λ j x y. elim (cases_eq j k) [
                | inl e ↦ (let P : ℕ → Type 0 = λ z. truth line a z ≡ truth line l z in
                    subst P (sym e) (f ∙ sym (clear_here k m l c)))
                | inr n ↦ h.before j x (omega (arith, n, y))
              ];
              behind = λ j x y. h.behind j x (omega arith);
            }))
      ]

  no_task : (i : ℕ) → has (full_to 0) i ≡ false
  no_task i = elim (cases_Bool (has (full_to 0) i)) [
    | inl t ↦ absurd (omega (arith, In-full_to_below 0 i t))
    | inr f ↦
        f
  ]

  pub no_tasks : IsTaskSet line (full_to 0)
  no_tasks = record { truths = length-full_to 0; tasks = λ i m. absurd (false≢true (sym (no_task i) ∙ m)) }

  nothing_pair : IsPair line nothing
  nothing_pair = record { front = no_tasks; back = no_tasks }

  pub nothing_false : (k : ℕ) → truth line nothing k ≡ false
  nothing_false k = elim (cases_lt k (tasks line)) [
    | inl f ↦ front_truth nothing k f ∙ no_task (at_rank line k)
    | inr b ↦ back_truth nothing k b ∙ no_task (at_rank line (2 * tasks line - 1 - k))
  ]

  nothing_clear : (k m : ℕ) → IsClear k m nothing
  nothing_clear k m j a b = nothing_false j

  -- what passes a test, of the pairs with nothing but at the m places from k on, is listed by picking it
  pub listed : (k m : ℕ) → k + m ≤ 2 * tasks line → (P : Load → Type 0) (p : Load → Bool)
      → ((a : Load) → IsPair line a → p a ≡ true → P a) → ((a : Load) → P a → p a ≡ true)
      → ((a : Load) → P a → Agrees k m nothing a) → Lists line P (pick p (spread line k m nothing))
  listed k m w P p is so within =
      lists_of line P (pick p (spread line k m nothing)) (picked_rise line p (spread line k m nothing)
      (rising k m nothing w nothing_pair (nothing_clear k m)))
      (λ a h. let r : Amid a (spread line k m nothing) × (p a ≡ true) = picked p a (spread line k m nothing) h in
      is a (agreeing k m nothing a w nothing_pair r.0).pair r.1)
      (λ a h. picks p a (spread line k m nothing) (spreading k m nothing a w nothing_pair (nothing_clear k m)
      (within a h)) (so a h))
