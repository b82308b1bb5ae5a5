-- The order of loads is total, and a list that goes from each load to the next has all of them.
use Rattle.std.proofs.Common.{◌≡◌, ℕ, zero, suc, ◌-◌, ◌*◌, ◌<◌, ◌≤◌, Bool, true, false, cond, List, [], ◌∷◌, ◌++◌, refl}
use Rattle.std.proofs.Common.{sym, ap, ◌∙◌, subst, ◌⊎◌, inl, inr, arith}
use Rattle.std.specs.List.{Contains}
use Rattle.line_instance.specs.Line.{Line, IsTaskSet, IsRanked, tasks, has, at_rank}
use Rattle.line_rules.specs.Loads.{IsLoad}
use Rattle.line_rules.specs.Order.{truth, Precedes, IsNext}
use Rattle.line_rules.specs.declared.types.Mode.{Mode}
use Rattle.line_rules.specs.declared.types.Load.{Load}
use Rattle.std.proofs.lemmas.Bool.{cases_Bool, cases_lt, cases_eq, lt-ltb, le-ltb}
use Rattle.std.proofs.lemmas.List.{ext_get_or}
use Rattle.std.proofs.lemmas.List.Elements.{Contains-append_left, Contains-push}

module _ (line : Line) (ranked : IsRanked line) where
  -- where a task stands among the truths
  pub in_front : (l : Load) (k : ℕ) → k < tasks line → truth line l k ≡ has l.front (at_rank line k)
  in_front l k h = ap (λ b. cond b (has l.front (at_rank line k)) (has l.back (at_rank line (2 * tasks line - 1 - k))))
      (lt-ltb k (tasks line) h)

  pub in_back : (l : Load) (k : ℕ) → k < tasks line → truth line l (2 * tasks line - 1 - k)
      ≡ has l.back (at_rank line k)
  in_back l k h =
      let e : 2 * tasks line - 1 - (2 * tasks line - 1 - k) ≡ k = omega arith in
      ap (λ b. cond b (has l.front (at_rank line (2 * tasks line - 1 - k)))
      (has l.back (at_rank line (2 * tasks line - 1 - (2 * tasks line - 1 - k)))))
      (le-ltb (2 * tasks line - 1 - k) (tasks line) (omega arith))
      ∙ ap (λ q. has l.back (at_rank line q)) e

agree_more : (line : Line) (a b : Load) (n : ℕ) → ((k : ℕ) → k < n → truth line a k ≡ truth line b k)
    → truth line a n ≡ truth line b n → (k : ℕ) → k < suc n → truth line a k ≡ truth line b k
agree_more line a b n same e k h = elim (cases_eq k n) [ inl q ↦ rw (q) e | inr d ↦ same k (omega arith) ]

outside : {line : Line} (s : List Bool) → IsTaskSet line s → (i : ℕ) → tasks line ≤ i → has s i ≡ false
outside s f i n = elim (cases_Bool (has s i)) [ inl t ↦ absurd (omega (arith, f.tasks i t)) | inr e ↦ e ]

at_place : (line : Line) (a b : Load) (n : ℕ) → n < 2 * tasks line → ((k : ℕ) → k < n → truth line a k ≡ truth line b k)
    → (x y : Bool) → truth line a n ≡ x → truth line b n ≡ y
    → ((k : ℕ) → k < suc n → truth line a k ≡ truth line b k) ⊎ (Precedes line a b ⊎ Precedes line b a)
at_place line a b n l same true true e f = inl (agree_more line a b n same (e ∙ sym f))
at_place line a b n l same false false e f = inl (agree_more line a b n same (e ∙ sym f))
at_place line a b n l same false true e f = inr (inl (record {
  at = n;
  within = l;
  same = same;
  absent = e;
  present = f;
}))
at_place line a b n l same true false e f = inr (inr (record {
  at = n;
  within = l;
  same = λ k h. sym (same k h);
  absent = f;
  present = e;
}))

-- up to a place, two loads agree, or one precedes the other
compare_below : (line : Line) (a b : Load) (n : ℕ) → n ≤ 2 * tasks line
    → ((k : ℕ) → k < n → truth line a k ≡ truth line b k) ⊎ (Precedes line a b ⊎ Precedes line b a)
compare_below line a b zero l = inl (λ k h. absurd (omega arith))
compare_below line a b (suc n) l = elim (compare_below line a b n (omega arith)) [
  | inl same ↦ at_place line a b n (omega arith) same (truth line a n) (truth line b n) refl refl
  | inr p ↦ inr p
]

pub compare : (line : Line) (a b : Load) → ((k : ℕ) → k < 2 * tasks line → truth line a k ≡ truth line b k)
    ⊎ (Precedes line a b ⊎ Precedes line b a)
compare line a b = compare_below line a b (2 * tasks line) (omega arith)

module _ (line : Line) (ranked : IsRanked line) (a b : Load)
    (same : (k : ℕ) → k < 2 * tasks line → truth line a k ≡ truth line b k) where
  pub same_front : IsTaskSet line a.front → IsTaskSet line b.front → a.front ≡ b.front
  same_front f g = ext_get_or false a.front b.front (f.truths ∙ sym g.truths) (λ i l. elim (cases_lt i (tasks line)) [
    | inl t ↦
        let r : (k : ℕ) × (k < tasks line) × (at_rank line k ≡ i) = ranked.rank i t in
        ap (λ x. has a.front x) (sym r.2) ∙ (sym (in_front line ranked a r.0 r.1)
        ∙ (same r.0 (omega (arith, r.1)) ∙ (in_front line ranked b r.0 r.1 ∙ ap (λ x. has b.front x) r.2)))
    | inr n ↦ outside a.front f i n ∙ sym (outside b.front g i n)
  ])

  pub same_back : IsTaskSet line a.back → IsTaskSet line b.back → a.back ≡ b.back
  same_back f g = ext_get_or false a.back b.back (f.truths ∙ sym g.truths) (λ i l. elim (cases_lt i (tasks line)) [
    | inl t ↦
        let r : (k : ℕ) × (k < tasks line) × (at_rank line k ≡ i) = ranked.rank i t in
        ap (λ x. has a.back x) (sym r.2) ∙ (sym (in_back line ranked a r.0 r.1)
        ∙ (same (2 * tasks line - 1 - r.0) (omega (arith, r.1))
        ∙ (in_back line ranked b r.0 r.1 ∙ ap (λ x. has b.back x) r.2)))
    | inr n ↦ outside a.back f i n ∙ sym (outside b.back g i n)
  ])

-- loads that agree are one
pub same_load : (line : Line) → IsRanked line → (c : ℕ) (mode : Mode) (R : List Bool) (a b : Load)
    → IsLoad line c mode R a → IsLoad line c mode R b
    → ((k : ℕ) → k < 2 * tasks line → truth line a k ≡ truth line b k) → a ≡ b
same_load line ranked c mode R a b f g same = λ i. record {
  front = same_front line ranked a b same f.front g.front i;
  back = same_back line ranked a b same f.back g.back i;
}

-- every load is among those that were given, or above the last of them
pub record Given (line : Line) (c : ℕ) (mode : Mode) (R : List Bool) (given : List Load) (last : Load) : Type 0 where
  pub all : (b : Load) → IsLoad line c mode R b → Contains given b ⊎ Precedes line last b

pub given_more : (line : Line) → IsRanked line → (c : ℕ) (mode : Mode) (R : List Bool) (given : List Load)
    (last new : Load) → Given line c mode R given last → IsNext line c mode R last new
    → Given line c mode R (given ++ new ∷ []) new
given_more line ranked c mode R given last new g n = record {
  all = λ b l. elim (g.all b l) [
    | inl h ↦ inl (Contains-append_left given (new ∷ []) b h)
    | inr above ↦ elim (compare line new b) [
      | inl same ↦ inl (let P : Load → Type 0 = λ x. Contains (given ++ new ∷ []) x in
          subst P (same_load line ranked c mode R new b n.load l same) (Contains-push given new))
      | inr order ↦ elim order [ inl up ↦ inr up | inr down ↦ absurd (n.least b l above down) ]
    ]
  ];
}

-- where none is above the last, every load was given
pub given_all : (line : Line) (c : ℕ) (mode : Mode) (R : List Bool) (given : List Load) (last : Load)
    → Given line c mode R given last → ((l : Load) → IsLoad line c mode R l → Precedes line last l → ⊥)
    → (b : Load) → IsLoad line c mode R b → Contains given b
given_all line c mode R given last g none b l = elim (g.all b l) [ inl h ↦ h | inr above ↦ absurd (none b l above) ]
