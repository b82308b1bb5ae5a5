-- Going over the tasks that were found: which items are `one`, and what lies between.
use Rattle.std.proofs.Common.{◌≡◌, ℕ, Bool, true, false, ◌&&◌, List, [], ◌∷◌, get_or, sym, ◌∙◌, subst, ◌↔◌}
use Rattle.std.proofs.Common.{inl, inr}
use Rattle.std.proofs.lemmas.Bool.{false≢true, and_parts, or_cases}
use Rattle.line_instance.specs.Truths.{In, IsEmpty, IsSubset, union, minus, meet, members_of}
use Rattle.line_instance.specs.Line.{Line, Before, has, is_before}
use Rattle.line_instance.proofs.Members.{In-union_left, In-union_right, In-meet, In-minus_parts}
use Rattle.line_rules.specs.Pairs.{is_between}
use Rattle.line_rules.proofs.GoneOver.{AreOver, over_start, next_in, over_turn, over_end}
use Rattle.pair_search.specs.inner.Ones.{AreOnes}

-- what was gone over passes M too, where each that passes K does
over_as : {s : List Bool} {B K M : ℕ → Type 0} {left : List ℕ} → AreOver s B K left → ((i : ℕ) → K i → M i)
    → AreOver s B M left
over_as h f = record {
  members = h.members;
  others = λ j b. elim (h.others j b) [ inl l ↦ inl l | inr k ↦ inr (f j k) ];
}

-- task i shares with no task of two and none of `one`
pub record Parts (rows : List (List Bool)) (two one : List Bool) (i : ℕ) : Type 0 where
  pub apart : (j : ℕ) → In two j → In (get_or rows i []) j → ⊥
  pub ones : (j : ℕ) → In one j → In (get_or rows i []) j → ⊥

-- `one` has items outside two, and each task of two is to come or shares with no task of either
pub record OnesLeft (rows : List (List Bool)) (items two one : List Bool) (left : List ℕ) : Type 0 where
  pub within : (j : ℕ) → In one j → In items j × (has two j ≡ false)
  pub over : AreOver two (In two) (Parts rows two one) left

pub ones_start : (rows : List (List Bool)) (items two : List Bool) (left : List ℕ) (one : List Bool)
    → one ≡ minus items two → left ≡ members_of two → OnesLeft rows items two one left
ones_start rows items two left one e start = record {
  within = λ j m. In-minus_parts items two j (let P : List Bool → Type 0 = λ s. In s j in subst P e m);
  over = over_start two (In two) (Parts rows two one) left (λ j m. m) start;
}

-- the row of the next task meets no task of two, and is taken out of `one`
pub ones_turn : {rows : List (List Bool)} {items two one : List Bool} {left more : List ℕ} {i : ℕ}
    → OnesLeft rows items two one left → left ≡ i ∷ more → (row : List Bool) → row ≡ get_or rows i []
    → IsEmpty (meet row two) → (now : List Bool) → now ≡ minus one row → OnesLeft rows items two now more
ones_turn {rows} {items} {two} {one} {left} {more} {i} h e row f empty now g =
    let parts : (j : ℕ) → In now j → In one j × (has row j ≡ false) = λ j m.
    In-minus_parts one row j (let P : List Bool → Type 0 = λ s. In s j in subst P g m) in
    let fewer : (k : ℕ) → Parts rows two one k → Parts rows two now k = λ k p.
    record { apart = p.apart; ones = λ j m. p.ones j (parts j m).0 } in
    let shares : (j : ℕ) → In (get_or rows i []) j → In row j = λ j m.
    let P : List Bool → Type 0 = λ s. In s j in subst P (sym f) m in
    record {
      within = λ j m. h.within j (parts j m).0;
      over = over_turn (over_as h.over fewer) e (In two) (λ j m. m) (λ m. record {
        apart = λ j n k. empty j (In-meet row two j (shares j k) n);
        ones = λ j n k. false≢true (sym (parts j n).1 ∙ shares j k);
      });
    }

pub ones_end : {rows : List (List Bool)} {items two one : List Bool} {left : List ℕ} → OnesLeft rows items two one left
    → left ≡ [] → AreOnes rows items two one
ones_end h e = record {
  within = h.within;
  apart = λ i j m n. (over_end h.over e i m).apart j n;
  ones = λ i j m n. (over_end h.over e i m).ones j n;
}

pub ones_next : {rows : List (List Bool)} {items two one : List Bool} {left more : List ℕ} {i : ℕ}
    → OnesLeft rows items two one left → left ≡ i ∷ more → In two i
ones_next h e = next_in h.over e

-- what is after task i and before it was taken in
pub record Taken (line : Line) (after before : List Bool) (i : ℕ) : Type 0 where
  pub behind : (k : ℕ) → Before line i k → In after k
  pub ahead : (k : ℕ) → Before line k i → In before k

-- each of some tasks is to come, or what is after it and before it was taken in
abbrev pub HullLeft : Line → List Bool → List Bool → List Bool → List ℕ → Type 0
HullLeft line tasks after before left = AreOver tasks (In tasks) (Taken line after before) left

pub hull_start : (line : Line) (tasks after before : List Bool) (left : List ℕ) → left ≡ members_of tasks
    → HullLeft line tasks after before left
hull_start line tasks after before left e =
    over_start tasks (In tasks) (Taken line after before) left (λ j m. m) e

pub hull_turn : {line : Line} {tasks after before : List Bool} {left more : List ℕ} {i : ℕ}
    → HullLeft line tasks after before left → left ≡ i ∷ more → (behind ahead now then_ : List Bool)
    → ((k : ℕ) → In behind k ↔ Before line i k) → ((k : ℕ) → In ahead k ↔ Before line k i)
    → now ≡ union after behind → then_ ≡ union before ahead → HullLeft line tasks now then_ more
hull_turn {line} {tasks} {after} {before} {left} {more} {i} h e behind ahead now then_ b a f g =
    let P : (k : ℕ) → List Bool → Type 0 = λ k s. In s k in
    let grown : (j : ℕ) → Taken line after before j → Taken line now then_ j = λ j t. record {
      behind = λ k m. subst (P k) (sym f) (In-union_left after behind k (t.behind k m));
      ahead = λ k m. subst (P k) (sym g) (In-union_left before ahead k (t.ahead k m));
    } in
    over_turn (over_as h grown) e (In tasks) (λ j m. m) (λ m. record {
      behind = λ k m. subst (P k) (sym f) (In-union_right after behind k ((b k).1 m));
      ahead = λ k m. subst (P k) (sym g) (In-union_right before ahead k ((a k).1 m));
    })

-- so what lies between two of them is in the hull
pub hull_end : {line : Line} {tasks after before : List Bool} {left : List ℕ} → HullLeft line tasks after before left
    → left ≡ [] → (between hull : List Bool) → between ≡ meet after before → hull ≡ union tasks between → (i j k : ℕ)
    → In tasks i → In tasks j → is_between line i j k ≡ true → In hull k
hull_end {line} {tasks} {after} {before} {left} h e between hull f g i j k mi mj b =
    let P : List Bool → Type 0 = λ s. In s k in
    let here : In after k → In before k → In hull k = λ x y.
    subst P (sym g) (In-union_right tasks between k (subst P (sym f) (In-meet after before k x y))) in
    elim (or_cases (is_before line i k && is_before line k j) (is_before line j k && is_before line k i) b) [
      | inl l ↦ (
          let q : Before line i k × Before line k j = and_parts (is_before line i k) (is_before line k j) l in
          here ((over_end h e i mi).behind k q.0) ((over_end h e j mj).ahead k q.1)
          )
      | inr r ↦ (
          let q : Before line j k × Before line k i = and_parts (is_before line j k) (is_before line k i) r in
          here ((over_end h e j mj).behind k q.0) ((over_end h e i mi).ahead k q.1)
          )
    ]

pub hull_within : (tasks between hull : List Bool) → hull ≡ union tasks between → IsSubset tasks hull
hull_within tasks between hull g i m =
    let P : List Bool → Type 0 = λ s. In s i in subst P (sym g) (In-union_left tasks between i m)
