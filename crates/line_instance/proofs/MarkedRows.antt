-- Rows with more members: rows turned round, and rows of pairs. The rank of each task.
use Rattle.std.proofs.Common.{◌≡◌, ℕ, ◌+◌, ◌<◌, ◌≤◌, Bool, true, List, [], ◌∷◌, ◌++◌, length, get_or, set, refl, sym}
use Rattle.std.proofs.Common.{ap, ◌∙◌, subst, ◌⊎◌, inl, inr, arith}
use Rattle.std.specs.List.{Contains}
use Rattle.std.proofs.Math.ListN.{length-set}
use Rattle.std.proofs.lemmas.List.{get_or-set_same, get_or-set_other, get_or_read}
use Rattle.std.proofs.lemmas.List.Elements.{Contains-append_left, Contains-append_right, Contains-append_cases}
use Rattle.std.proofs.lemmas.Bool.{cases_eq, cases_lt}
use Rattle.line_instance.specs.Truths.{In, IsGreatestBelow}
use Rattle.line_instance.specs.Walks.{Leads, at, arc_at, ArePairs}
use Rattle.line_instance.specs.inner.Inside.{AreRows, AreEmpty, AreMarked, AreTurned, ArePaired, IsPermutation}
use Rattle.line_instance.specs.inner.Inside.{AreRanksOf, StandsBelow, LeadsIn, IsWhole}
use Rattle.line_instance.specs.declared.arcs.Prec.{Prec}
use Rattle.line_instance.proofs.JoinedRows.{marked, marked_kept, marked_here, marked_cases, marked_length, marked_rows}
use Rattle.line_instance.proofs.JoinedRows.{only_one}

-- the rows of the members from b on have the mark
pub record IsMarking (old : List (List Bool)) (chosen : List Bool) (mark : ℕ) (new : List (List Bool))
    (b : ℕ) : Type 0 where
  pub few : b ≤ 1024
  pub many : length new ≡ length old
  pub truths : (t : ℕ) → length (get_or new t []) ≡ length (get_or old t [])
  pub from : (i t : ℕ) → In (get_or new t []) i → In (get_or old t []) i ⊎ (In chosen t × (i ≡ mark))
  pub kept : (i t : ℕ) → In (get_or old t []) i → In (get_or new t []) i
  pub here : (t : ℕ) → b ≤ t → In chosen t → In (get_or new t []) mark

pub none_marked : (old : List (List Bool)) (chosen : List Bool) (mark : ℕ) → length old ≤ 1024
    → ((t : ℕ) → In chosen t → t < length old) → IsMarking old chosen mark old 1024
none_marked old chosen mark few h = record {
  few = omega arith;
  many = refl;
  truths = λ t. refl;
  from = λ i t m. inl m;
  kept = λ i t m. m;
  here = λ t l m. absurd (omega (arith, h t m));
}

pub one_marked : (old : List (List Bool)) (chosen : List Bool) (mark : ℕ) (new : List (List Bool)) (b t : ℕ)
    → mark < 1024 → ((u : ℕ) → u < length old → length (get_or old u []) ≡ 1024)
    → ((u : ℕ) → In chosen u → u < length old)
    → IsGreatestBelow chosen b t → IsMarking old chosen mark new b → IsMarking old chosen mark (marked new t mark) t
one_marked old chosen mark new b t small wide tasks g f =
    let within : t < length new = omega (arith, f.many, tasks t g.member) in
    record {
      few = omega (arith, g.below, f.few);
      many = length-set new t (set (get_or new t []) mark true) ∙ f.many;
      truths = λ u. marked_length new t mark within u ∙ f.truths u;
      from = λ i u m. elim (marked_cases new t mark within u i m) [
        | inl x ↦ f.from i u x
        | inr e ↦ (let P : ℕ → Type 0 = λ x. In chosen x in inr (subst P (sym e.0) g.member, e.1))
      ];
      kept = λ i u m. marked_kept new t mark within u i (f.kept i u m);
      here = λ u l m. elim (cases_eq u t) [
        | inl e ↦ (let P : ℕ → Type 0 = λ x. In (get_or (marked new t mark) x []) mark in
            subst P (sym e) (marked_here new t mark within (omega
            (arith, small, f.truths t, wide t (tasks t g.member)))))
        | inr n ↦ marked_kept new t mark within u mark (f.here u (elim (cases_lt u b) [
          | inl s ↦ absurd (n (omega (arith, g.greatest u m s)))
          | inr s ↦ s
        ]) m)
      ];
    }

pub all_marked : (old : List (List Bool)) (chosen : List Bool) (mark : ℕ) (new : List (List Bool)) (b : ℕ)
    → ((t : ℕ) → In chosen t → b ≤ t) → IsMarking old chosen mark new b → AreMarked old chosen mark new
all_marked old chosen mark new b h f = record {
  many = f.many;
  truths = f.truths;
  from = f.from;
  kept = f.kept;
  here = λ t m. f.here t (h t m) m;
}

-- the rows below j are turned round
pub record IsTurning (rows turned : List (List Bool)) (j : ℕ) : Type 0 where
  pub many : length turned ≡ length rows
  pub truths : (t : ℕ) → t < length rows → length (get_or turned t []) ≡ 1024
  pub only : (i t : ℕ) → LeadsIn turned t i → LeadsIn rows i t
  pub all : (i t : ℕ) → t < j → LeadsIn rows i t → LeadsIn turned t i

pub none_turned : (rows turned : List (List Bool)) → AreEmpty (length rows) turned → IsTurning rows turned 0
none_turned rows turned e = record {
  many = e.sets.many;
  truths = e.sets.truths;
  only = λ i t m. absurd (e.none t i m);
  all = λ i t l m. absurd (omega arith);
}

pub one_turned : (rows turned new : List (List Bool)) (j : ℕ) → AreMarked turned (get_or rows j []) j new
    → IsTurning rows turned j → IsTurning rows new (j + 1)
one_turned rows turned new j a f = record {
  many = a.many ∙ f.many;
  truths = λ t l. a.truths t ∙ f.truths t l;
  only = λ i t m. elim (a.from t i m) [
    | inl old ↦ f.only i t old
    | inr e ↦ (let P : ℕ → Type 0 = λ x. LeadsIn rows i x in subst P (sym e.1) e.0)
  ];
  all = λ i t l m. elim (cases_eq t j) [
    | inl e ↦ (let P : ℕ → Type 0 = λ x. LeadsIn new x i in
        let Q : ℕ → Type 0 = λ x. LeadsIn rows i x in
        subst P (sym e) (a.here i (subst Q e m)))
    | inr n ↦ a.kept t i (f.all i t (omega arith) m)
  ];
}

pub all_turned : (rows turned : List (List Bool)) → AreRows (length rows) rows → IsTurning rows turned (length rows)
    → AreTurned rows turned
all_turned rows turned r f = record {
  sets = record {
    many = f.many;
    truths = f.truths;
    tasks = λ i t m. let p : (t < length rows) × (i < length rows) = r.tasks t i (f.only t i m) in (p.1, p.0);
  };
  same = λ i j. (λ m. f.all i j (r.tasks i j m).1 m, λ m. f.only i j m);
}

pub no_pairs : (n : ℕ) (rows : List (List Bool)) → AreEmpty n rows → ArePaired n [] rows
no_pairs n rows e = record {
  sets = e.sets;
  there = λ i t g. absurd (elim g [ inl l ↦ omega (arith, l.1) | inr l ↦ omega (arith, l.1) ]);
  only = λ i t m. absurd (e.none i t m);
}

-- a pair that stands in the longer list stands in the list, or is the last
pair_cases : (pairs : List Prec) (a : Prec) (i j : ℕ) → Leads (pairs ++ a ∷ []) i j
    → Leads pairs i j ⊎ ((i ≡ a.first) × (j ≡ a.«then»))
pair_cases pairs a i j l = elim (Contains-append_cases pairs (a ∷ []) (record { first = i; «then» = j }) l) [
  | inl old ↦ inl old
  | inr new ↦ (let e : a ≡ record { first = i; «then» = j } = only_one a (record { first = i; «then» = j }) new in
      inr (ap (λ p. p.first) (sym e), ap (λ p. p.«then») (sym e)))
]

pair_kept : (pairs : List Prec) (a : Prec) (i j : ℕ) → Leads pairs i j → Leads (pairs ++ a ∷ []) i j
pair_kept pairs a i j l = Contains-append_left pairs (a ∷ []) (record { first = i; «then» = j }) l

pair_last : (pairs : List Prec) (a : Prec) (i j : ℕ) → i ≡ a.first → j ≡ a.«then» → Leads (pairs ++ a ∷ []) i j
pair_last pairs a i j e f =
    let Q : Prec → Type 0 = λ p. Contains (pairs ++ a ∷ []) p in
    let is : a ≡ record { first = i; «then» = j } = ap (λ x. record { first = x; «then» = a.«then» }) (sym e)
    ∙ ap (λ x. record { first = i; «then» = x }) (sym f) in
    subst Q is (Contains-append_right pairs (a ∷ []) a (0, omega arith, refl))

pub one_pair : (n : ℕ) (pairs : List Prec) (rows : List (List Bool)) (a : Prec) → n ≤ 1024 → ArePaired n pairs rows
    → a.first < n → a.«then» < n → ArePaired n (pairs ++ a ∷ [])
    (marked (marked rows a.«then» a.first) a.first a.«then»)
one_pair n pairs rows a m d f h =
    let half : List (List Bool) = marked rows a.«then» a.first in
    let new : List (List Bool) = marked half a.first a.«then» in
    let first : AreRows n half = marked_rows n rows a.«then» a.first d.sets h f in
    let in_rows : a.«then» < length rows = omega (arith, d.sets.many) in
    let in_half : a.first < length half = omega (arith, first.many) in
    let kept : (i t : ℕ) → In (get_or rows t []) i → In (get_or new t []) i =
    λ i t x. marked_kept half a.first a.«then» in_half t i (marked_kept rows a.«then» a.first in_rows t i x) in
    let Place : ℕ → ℕ → Type 0 = λ t i. In (get_or new t []) i in
    let one : In (get_or new a.«then» []) a.first = marked_kept half a.first a.«then» in_half a.«then» a.first
    (marked_here rows a.«then» a.first in_rows (omega (arith, d.sets.truths a.«then» h))) in
    let two : In (get_or new a.first []) a.«then» = marked_here half a.first a.«then» in_half
    (omega (arith, first.truths a.first f)) in
    let moved : (i t x y : ℕ) → In (get_or new y []) x → i ≡ x → t ≡ y → In (get_or new t []) i = λ i t x y w e g.
    (let P : ℕ → Type 0 = λ z. In (get_or new z []) i in let Q : ℕ → Type 0 = λ z. In (get_or new y []) z in
    subst P (sym g) (subst Q (sym e) w)) in
    record {
      sets = marked_rows n half a.first a.«then» first f h;
      there = λ i t g. elim g [
        | inl l ↦ elim (pair_cases pairs a i t l) [
          | inl old ↦ kept i t (d.there i t (inl old))
          | inr e ↦ moved i t a.first a.«then» one e.0 e.1
        ]
        | inr l ↦ elim (pair_cases pairs a t i l) [
          | inl old ↦ kept i t (d.there i t (inr old))
          | inr e ↦ moved i t a.«then» a.first two e.1 e.0
        ]
      ];
      only = λ i t x. elim (marked_cases half a.first a.«then» in_half t i x) [
        | inl y ↦ elim (marked_cases rows a.«then» a.first in_rows t i y) [
          | inl z ↦ elim (d.only i t z) [
            | inl l ↦ inl (pair_kept pairs a i t l)
            | inr l ↦ inr (pair_kept pairs a t i l)
          ]
          | inr e ↦ inl (pair_last pairs a i t e.1 e.0)
        ]
        | inr e ↦ inr (pair_last pairs a t i e.0 e.1)
      ];
    }

-- the place of a pair that leads on
pair_at : (n : ℕ) (pairs : List Prec) (i j : ℕ) → ArePairs n pairs → Leads pairs i j → i ≡ j → ⊥
pair_at n pairs i j h l e =
    let is : record { first = i; «then» = j } ≡ arc_at pairs l.0 =
    get_or_read pairs l.0 (record { first = i; «then» = j }) l.1 (sym l.2) (record { first = 0; «then» = 0 }) in
    (h l.0 l.1).1 (ap (λ p. p.first) (sym is) ∙ e ∙ ap (λ p. p.«then») is)

pub of_two : (n : ℕ) (pairs : List Prec) (rows : List (List Bool)) → ArePairs n pairs → ArePaired n pairs rows → (i : ℕ)
    → In (get_or rows i []) i → ⊥
of_two n pairs rows h p i m = elim (p.only i i m) [
  | inl l ↦ pair_at n pairs i i h l refl
  | inr l ↦
      pair_at n pairs i i h l refl
]

pub both_ways : (n : ℕ) (pairs : List Prec) (rows : List (List Bool)) → ArePaired n pairs rows → (i j : ℕ)
    → In (get_or rows j []) i → In (get_or rows i []) j
both_ways n pairs rows p i j m = p.there j i (elim (p.only i j m) [ inl l ↦ inr l | inr l ↦ inl l ])

-- the ranks below k are written
pub record IsRanking (order ranks : List ℕ) (k : ℕ) : Type 0 where
  pub many : length ranks ≡ length order
  pub written : (m : ℕ) → m < k → at ranks (at order m) ≡ m

pub one_ranked : (order ranks : List ℕ) (k : ℕ) → IsPermutation order → k < length order → IsRanking order ranks k
    → IsRanking order (set ranks (at order k) k) (k + 1)
one_ranked order ranks k o l f = record {
  many = length-set ranks (at order k) k ∙ f.many;
  written = λ m h. elim (cases_eq m k) [
    | inl e ↦ ap (λ x. at (set ranks (at order k) k) (at order x)) e
        ∙ get_or-set_same ranks (at order k) k 0 (omega (arith, f.many, o.small k l)) ∙ sym e
    | inr n ↦ get_or-set_other ranks (at order k) (at order m) k 0 (λ e. n (o.once m k (omega arith) l e))
        ∙ f.written m (omega arith)
  ];
}

pub all_ranked : (order ranks : List ℕ) → IsPermutation order → IsRanking order ranks (length order)
    → AreRanksOf order ranks
all_ranked order ranks o f = record {
  many = f.many;
  small = λ i l.
      let s : StandsBelow order (length order) i = o.stands i l in
      let e : at ranks i ≡ s.0 = ap (at ranks) (sym s.2) ∙ f.written s.0 s.1 in
      omega (arith, s.1, e);
  task = λ i l.
      let s : StandsBelow order (length order) i = o.stands i l in
      let e : at ranks i ≡ s.0 = ap (at ranks) (sym s.2) ∙ f.written s.0 s.1 in
      ap (at order) e ∙ s.2;
}

pub permutation : (direct : List (List Bool)) (order : List ℕ) → IsWhole direct order → IsPermutation order
permutation direct order o = record {
  small = λ k l. omega (arith, o.order_is.small k l, o.many);
  stands = λ t l. o.stands t (omega (arith, o.many));
  once = o.order_is.once;
}
