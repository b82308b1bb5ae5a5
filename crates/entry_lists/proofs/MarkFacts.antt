-- Marks of what is cited.
use Rattle.std.proofs.Common.{◌≡◌, ◌⊎◌, ℕ, zero, suc, ◌+◌, ◌<◌, ◌≤◌, Bool, true, false, List, [], ◌∷◌, ◌++◌, length}
use Rattle.std.proofs.Common.{get_or, set, take, drop, append-nil, replicate, Some, refl, sym, ap, ◌∙◌, subst, inl, inr}
use Rattle.std.proofs.Common.{arith, length-set}
use Rattle.std.specs.Prelude.{slice_get}
use Rattle.std.specs.List.{Contains}
use Rattle.std.proofs.lemmas.Bool.{cases_eq, false≢true}
use Rattle.std.proofs.lemmas.List.{take_more, take_all, length-replicate, drop_all}
use Rattle.std.proofs.lemmas.List.Elements.{Contains-push, Contains-push_cases, Contains-append_left}
use Rattle.std.proofs.lemmas.Option.{slice_get_within, same_Some}
use Rattle.line_rules.specs.lines.Truths.{In}
use Rattle.line_rules.proofs.about_lines.Members.{In-set_same, In-set_kept, In-set_cases, In-empty}
use Rattle.line_rules.specs.declared.types.Entry.{Entry}
use Rattle.entry_lists.specs.Trim.{cited_by, CitesEarlier, StandsOn, AreMarked, AreMarks, AreClosed}
use Rattle.entry_lists.specs.Trim.StandsOn.{itself, cited}

pub contains_at : {X : Type 0} (xs : List X) (k : ℕ) (x d : X) → k < length xs → get_or xs k d ≡ x → Contains xs x
contains_at xs k x d l e = (k, l, inside xs k x d l e)
  where
    inside : {Y : Type 0} (xs : List Y) (k : ℕ) (x d : Y) → k < length xs → get_or xs k d ≡ x → get_or xs k x ≡ x
    inside [] k x d l e = absurd (omega arith)
    inside (y ∷ ys) zero x d l e = e
    inside (y ∷ ys) (suc k) x d l e = inside ys k x d (omega arith) e

pub marked_none : (m : List Bool) → AreMarked m [] m
marked_none m = record {
  as_many = refl;
  each = λ i. (
    λ a. inl a,
    λ a. elim a [ inl b ↦ b | inr c ↦ absurd (omega (arith, c.1)) ],
  );
}

pub marked_more : (old new : List Bool) (cites : List ℕ) (k : ℕ) → k < length cites → get_or cites k 0 < length old
    → AreMarked old (take k cites) new → AreMarked old (take (k + 1) cites) (set new (get_or cites k 0) true)
marked_more old new cites k l b h = record {
  as_many = length-set new (get_or cites k 0) true ∙ h.as_many;
  each = λ i. (into i, back i);
}
  where
    x : ℕ
    x = get_or cites k 0

    more : take (k + 1) cites ≡ take k cites ++ get_or cites k 0 ∷ []
    more = take_more cites k 0 l

    into : (i : ℕ) → In (set new (get_or cites k 0) true) i → In old i ⊎ Contains (take (k + 1) cites) i
    into i m = elim (In-set_cases new (get_or cites k 0) i m) [
      | inl a ↦ elim ((h.each i).0 a) [
        | inl o ↦ inl o
        | inr c ↦ inr (let P : List ℕ → Type 0 = λ ys. Contains ys i in
            subst P (sym more) (Contains-append_left (take k cites) (get_or cites k 0 ∷ []) i c))
      ]
      | inr e ↦ inr (let P : List ℕ → Type 0 = λ ys. Contains ys i in let Q : ℕ
          → Type 0 = λ y. Contains (take k cites ++ get_or cites k 0 ∷ []) y in
          subst P (sym more) (subst Q (sym e) (Contains-push (take k cites) (get_or cites k 0))))
    ]

    back : (i : ℕ) → (In old i ⊎ Contains (take (k + 1) cites) i) → In (set new (get_or cites k 0) true) i
    back i a = elim a [
      | inl o ↦ In-set_kept new (get_or cites k 0) i ((h.each i).1 (inl o))
      | inr c ↦ (let P : List ℕ → Type 0 = λ ys. Contains ys i in
          elim (Contains-push_cases (take k cites) (get_or cites k 0) i (subst P more c)) [
            | inl before ↦ In-set_kept new (get_or cites k 0) i ((h.each i).1 (inr before))
            | inr e ↦ (let Q : ℕ → Type 0 = λ y. In (set new (get_or cites k 0) true) y in
                subst Q e (In-set_same new (get_or cites k 0) (omega (arith, h.as_many))))
          ])
    ]

-- one number marked
pub marked_one : (m : List Bool) (cite : ℕ) → cite < length m → AreMarked m (cite ∷ []) (set m cite true)
marked_one m cite l = marked_more m m (cite ∷ []) 0 (omega arith) l (marked_none m)

-- The pass over a list from its goal down: from the number `from` on, what a marked entry cites is marked.
pub record IsPassed (es : List Entry) (goal from : ℕ) (marks : List Bool) : Type 0 where
  pub as_many : length marks ≡ length es
  pub here : In marks goal
  pub sound : (i : ℕ) → In marks i → StandsOn es goal i
  pub closed : (k : ℕ) (e : Entry) (cite : ℕ) → from ≤ k → In marks k → slice_get es k ≡ Some e
      → Contains (cited_by e.why) cite → In marks cite

pub pass_begins : (es : List Entry) (goal from : ℕ) (m : List Bool) → m ≡ replicate (length es) false → from ≡ length es
    → goal < length es → IsPassed es goal from (set m goal true)
pass_begins es goal from m e f l =
    let long : length m ≡ length es = ap length e ∙ length-replicate (length es) false in
    record {
      as_many = length-set m goal true ∙ long;
      here = In-set_same m goal (omega arith);
      sound = λ i a. elim (In-set_cases m goal i a) [
        | inl b ↦ (let P : List Bool → Type 0 = λ s. In s i in absurd (In-empty (length es) i (subst P e b)))
        | inr s ↦ (let P : ℕ → Type 0 = λ n. StandsOn es goal n in subst P (sym s) itself)
      ];
      closed = λ k x cite h a at c. absurd (omega (arith, slice_get_within es k x at));
    }

-- an entry that isn't marked
pub pass_leaves : (es : List Entry) (goal k from : ℕ) (m : List Bool) → from ≡ k + 1 → get_or m k false ≡ false
    → IsPassed es goal from m → IsPassed es goal k m
pass_leaves es goal k from m f n h = record {
  as_many = h.as_many;
  here = h.here;
  sound = h.sound;
  closed = λ j x cite l a there c. elim (cases_eq j k) [
    | inl e ↦ absurd (false≢true (sym n ∙ (let P : ℕ → Type 0 = λ i. In m i in subst P e a)))
    | inr ne ↦ h.closed j x cite (omega arith) a there c
  ];
}

-- a marked entry, with what it cites
pub pass_marks : (es : List Entry) (goal k from : ℕ) (m new : List Bool) (e : Entry) → from ≡ k + 1 → In m k
    → slice_get es k ≡ Some e → CitesEarlier es → AreMarked m (cited_by e.why) new → IsPassed es goal from m
    → IsPassed es goal k new
pass_marks es goal k from m new e f here there earlier marked h = record {
  as_many = marked.as_many ∙ h.as_many;
  here = (marked.each goal).1 (inl h.here);
  sound = λ i a. elim ((marked.each i).0 a) [
    | inl b ↦ h.sound i b
    | inr c ↦ cited k e i (h.sound k here) there c
  ];
  closed = λ j x cite l a at c. elim (cases_eq j k) [
    | inl same ↦
        let P : ℕ → Type 0 = λ n. slice_get es n ≡ Some x in
        let x_is : Some e ≡ Some x = sym there ∙ subst P same at in
        let y : e ≡ x = same_Some e x x_is in
        let Q : Entry → Type 0 = λ z. Contains (cited_by z.why) cite in
        (marked.each cite).1 (inr (subst Q (sym y) c))
    | inr ne ↦ elim ((marked.each j).0 a) [
      | inl b ↦ (marked.each cite).1 (inl (h.closed j x cite (omega arith) b at c))
      | inr cj ↦ absurd (omega (arith, earlier k e there j cj))
    ]
  ];
}

-- a pass that went over all
pub pass_ends : (es : List Entry) (goal from : ℕ) (m : List Bool) → from ≡ 0 → IsPassed es goal from m
    → AreMarks es goal m
pass_ends es goal from m f h = record { as_many = h.as_many; each = λ i. (h.sound i, reached i) }
  where
    reached : (i : ℕ) → StandsOn es goal i → In m i
    reached i itself = h.here
    reached i (cited k e cite s there c) = h.closed k e cite (omega arith) (reached k s) there c

-- what an entry of the goal stands on comes before it, or is the goal
pub stands_within : (es : List Entry) (goal : ℕ) → CitesEarlier es → (i : ℕ) → StandsOn es goal i → i ≤ goal
stands_within es goal earlier i itself = omega arith
stands_within es goal earlier i (cited k e cite s there c) =
    omega (arith, stands_within es goal earlier k s, earlier k e there cite c)

-- marks of what the goal stands on are closed
pub marks_closed : (es : List Entry) (goal : ℕ) (m : List Bool) → goal < length es → CitesEarlier es
    → AreMarks es goal m → AreClosed es m
marks_closed es goal m l earlier h = record {
  there = omega (arith, h.as_many);
  closed = λ k e cite a at c. ((h.each cite).1 (cited k e cite ((h.each k).0 a) at c), earlier k e at cite c);
}

-- a list that was handed on and comes back whole
pub come_back : {X : Type 0} (len : ℕ) (new old before : List X) → length new ≡ length old → old ≡ before
    → length old ≡ len → take len (new ++ drop (length new) before) ≡ new
come_back len new old before e f g =
    let none : drop (length new) before ≡ [] = drop_all (length new) before (omega (arith, ap length f)) in
    ap (λ t. take len (new ++ t)) none ∙ ap (take len) (append-nil new) ∙ take_all len new (omega arith)

-- an index that was read
pub is_in : (s : List Bool) (k : ℕ) (v : Bool) → v ≡ get_or s k v → v ≡ true → k < length s → In s k
is_in [] k v e t l = absurd (omega arith)
is_in (b ∷ s) zero v e t l = sym e ∙ t
is_in (b ∷ s) (suc k) v e t l = is_in s k v e t (omega arith)
