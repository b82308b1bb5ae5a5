-- Counts by size sets, and what they tell of the bound.
use Rattle.std.proofs.Common.{◌≡◌, ◌↔◌, IsTrue, refl, sym, ℕ, suc, ◌+◌, ◌*◌, ◌<◌, ◌≤◌, max, Bool, true}
use Rattle.std.proofs.Common.{false, cond, ◌&&◌, nat_eq, nat_le, nat_lt, List, [], ◌∷◌, length, get_or, ap, ◌∙◌}
use Rattle.std.proofs.Common.{◌-◌, inl, inr, arith, set, subst, replicate}
use Rattle.std.proofs.lemmas.Bool.{false≢true, cases_eq, cases_lt, false_from_ne_true, ltb-true, lt-ltb}
use Rattle.std.proofs.lemmas.Bool.{le-leb, leb-true, eq-eqb, eqb-true}
use Rattle.line_instance.specs.Truths.{In, IsEmpty, count, meet, minus}
use Rattle.line_instance.specs.Line.{Line, has, tasks, time}
use Rattle.line_instance.specs.Sums.{weigh, sum_where, count_where}
use Rattle.line_instance.proofs.Counts.{count_first}
use Rattle.line_instance.proofs.Members.{In-empty, In-minus, In-minus_parts, In-set_same, In-set_kept, In-set_cases}
use Rattle.line_instance.proofs.Sums.{weigh-none}
use Rattle.line_rules.specs.Bounds.{up, sixths, lm1, lm2, lm3, chained, bound}
use Rattle.line_rules.specs.Times.{AreCounts}
use Rattle.line_rules.specs.declared.types.LineKind.{LineKind}
use Rattle.line_rules.proofs.BoundCases.{below_bound, long_bound, parts_bound}
use Rattle.line_rules.proofs.BoundIsTrue.{up_le}
use Rattle.line_rules.proofs.SizeClasses.{sixths_steps}
use Rattle.line_rules.proofs.SumsOverMembers.{weightless}
use Rattle.lower_bounds.specs.declared.by_size.SizeSets.{SizeSets}
use Rattle.lower_bounds.specs.Sizes.{AreSizeSets, FitsBySizes}

-- what a truth counts for
abbrev one : Bool → ℕ
one b = cond b 1 0

once : (x y b : Bool) → (y ≡ true → b ≡ true) → (b ≡ true → y ≡ true) → one (x && y) ≡ cond x (one b) 0
once false y b h k = refl
once true true true h k = refl
once true true false h k = absurd (false≢true (h refl))
once true false true h k = absurd (false≢true (k refl))
once true false false h k = refl

never : (x y : Bool) → (y ≡ true → ⊥) → one (x && y) ≡ 0
never false y h = refl
never true true h = absurd (h refl)
never true false h = refl

-- where F has exactly the tasks whose times pass the test, R has as many members in common with it as tasks that pass
pub common : (test : ℕ → Bool) (ts : List ℕ) (R F : List Bool)
    → ((i : ℕ) → In F i ↔ (i < length ts) × (test (get_or ts i 0) ≡ true))
    → count (meet R F) ≡ count_where test (has R) ts
common test ts [] F h = sym (weigh-none (λ t. cond (test t) 1 0) (has []) (λ i. refl) ts)
common test ts (x ∷ xs) [] h = sym (weightless (λ t. cond (test t) 1 0) (has (x ∷ xs)) ts (λ i l _.
    ap (λ b. cond b 1 0) (false_from_ne_true (test (get_or ts i 0)) (λ e. false≢true ((h i).1 (l, e))))))
common test [] (x ∷ xs) (y ∷ ys) h =
    let off : one (x && y) ≡ 0 = never x y (λ e. omega (arith, ((h 0).0 e).0)) in
    omega (
      arith,
      off,
      count_first (x && y) (meet xs ys),
      common test [] xs ys (λ i. (
        λ m. absurd (omega (arith, ((h (suc i)).0 m).0)),
        λ p. absurd (omega (arith, p.0)),
      )),
    )
common test (t ∷ ts) (x ∷ xs) (y ∷ ys) h =
    let first : one (x && y) ≡ cond x (one (test t)) 0 =
    once x y (test t) (λ e. ((h 0).0 e).1) (λ e. (h 0).1 (omega arith, e)) in
    omega (
      arith,
      first,
      count_first (x && y) (meet xs ys),
      common test ts xs ys (λ i. (
        λ m. (omega (arith, ((h (suc i)).0 m).0), ((h (suc i)).0 m).1),
        λ p. (h (suc i)).1 (omega (arith, p.0), p.1),
      )),
    )

-- the sixths of the tasks, in four steps
picked : (b : Bool) (s w x y z : ℕ) → 2 * w + x + y + 2 * z ≡ s
    → cond b s 0 ≡ 2 * cond b w 0 + cond b x 0 + cond b y 0 + 2 * cond b z 0
picked true s w x y z e = omega (arith, e)
picked false s w x y z e = omega arith

six_parts : (c : ℕ) → 1 ≤ c → (p : ℕ → Bool) (ts : List ℕ)
    → weigh (sixths c) p ts ≡ 2 * count_where (λ t. nat_le c (3 * t)) p ts + count_where (λ t. nat_lt c (3 * t)) p ts
    + count_where (λ t. nat_le (2 * c) (3 * t)) p ts + 2 * count_where (λ t. nat_lt (2 * c) (3 * t)) p ts
six_parts c o p [] = omega arith
six_parts c o p (t ∷ ts) = omega (
  arith,
  picked (p 0) (sixths c t) (cond (nat_le c (3 * t)) 1 0) (cond (nat_lt c (3 * t)) 1 0)
      (cond (nat_le (2 * c) (3 * t)) 1 0) (cond (nat_lt (2 * c) (3 * t)) 1 0) (sixths_steps c t o),
  six_parts c o (λ i. p (suc i)) ts,
)

-- a test in place of what it tells
tested : {M L P Q : Type 0} → M ↔ L × P → (P → Q) → (Q → P) → M ↔ L × Q
tested h f g = (λ m. ((h.0 m).0, f (h.0 m).1), λ p. h.1 (p.0, g p.1))

module _ {line : Line} {c : ℕ} {sets : SizeSets} (are : AreSizeSets line c sets) (R : List Bool) where
  longer_common : (parts limit : ℕ) (F : List Bool)
      → ((i : ℕ) → In F i ↔ (i < tasks line) × (limit < parts * time line i))
      → count (meet R F) ≡ count_where (λ t. nat_lt limit (parts * t)) (has R) line.times
  longer_common parts limit F h = common (λ t. nat_lt limit (parts * t)) line.times R F (λ i.
      tested (h i) (lt-ltb limit (parts * time line i)) (ltb-true limit (parts * time line i)))

  least_common : (limit : ℕ) (F : List Bool) → ((i : ℕ) → In F i ↔ (i < tasks line) × (limit ≤ 3 * time line i))
      → count (meet R F) ≡ count_where (λ t. nat_le limit (3 * t)) (has R) line.times
  least_common limit F h = common (λ t. nat_le limit (3 * t)) line.times R F (λ i.
      tested (h i) (le-leb limit (3 * time line i)) (leb-true limit (3 * time line i)))

  -- the counts by the sets are those of the tasks
  pub counted : {long above half third more two top six : ℕ} → long ≡ count (meet R sets.too_long)
      → above ≡ count (meet R sets.above_half) → half ≡ count (meet R sets.at_half)
      → third ≡ count (meet R sets.third) → more ≡ count (meet R sets.above_third)
      → two ≡ count (meet R sets.two_thirds) → top ≡ count (meet R sets.above_two_thirds)
      → six ≡ 2 * third + more + two + 2 * top → above ≤ 1024 → half ≤ 1024 → third ≤ 1024 → more ≤ 1024
      → two ≤ 1024 → top ≤ 1024 → AreCounts line c R long above half six
  counted {long} {above} {half} {third} {more} {two} {top} {six} el ea eh et em ew ep es la lh lt lm lw lp = record {
    too_long = el ∙ common (λ t. nat_lt c t) line.times R sets.too_long (λ i.
        tested (are.too_long i) (lt-ltb c (time line i)) (ltb-true c (time line i)));
    above_half = ea ∙ longer_common 2 c sets.above_half are.above_half;
    at_half = eh ∙ common (λ t. nat_eq (2 * t) c) line.times R sets.at_half (λ i.
        tested (are.at_half i) (eq-eqb (2 * time line i) c) (eqb-true (2 * time line i) c));
    sixths = omega (
      arith,
      es,
      et,
      em,
      ew,
      ep,
      least_common c sets.third are.third,
      longer_common 3 c sets.above_third are.above_third,
      least_common (2 * c) sets.two_thirds are.two_thirds,
      longer_common 3 (2 * c) sets.above_two_thirds are.above_two_thirds,
      six_parts c are.some (has R) line.times,
    );
    most_halves = la;
    most_half = lh;
    most_sixths = omega (arith, es, lt, lm, lw, lp);
  }

-- nothing weighs anything in an empty set
weigh_empty : (w : ℕ → ℕ) (R : List Bool) (ts : List ℕ) → IsEmpty R → weigh w (has R) ts ≡ 0
weigh_empty w R ts h = weigh-none w (has R) (λ i. false_from_ne_true (has R i) (h i)) ts

module _ {line : Line} {c : ℕ} {R : List Bool} {long above half six : ℕ}
    (counts : AreCounts line c R long above half six) where
  -- LM2 and LM3 by the counts
  lm2_is : lm2 line c R ≡ above + up half 2
  unfolding lm2
  lm2_is =
      ap (λ n. n + up (count_where (λ t. nat_eq (2 * t) c) (has R) line.times) 2) (sym counts.above_half)
      ∙ ap (λ n. above + up n 2) (sym counts.at_half)

  lm3_is : lm3 line c R ≡ up six 6
  unfolding lm3
  lm3_is = ap (λ n. up n 6) (sym counts.sixths)

  -- what of the counts exceeds a number, and what doesn't
  pub long_over : (kind : LineKind) (most : ℕ) → most < 1025 → 0 < long → most < bound kind line c R
  long_over kind most small more =
      let some : IsEmpty R → ⊥ = λ h.
      omega (arith, more, counts.too_long, weigh_empty (λ t. cond (nat_lt c t) 1 0) R line.times h) in
      omega (arith, small, long_bound kind line c R some (omega (arith, more, counts.too_long)))

  pub parts_over : (kind : LineKind) (most : ℕ) → most < 1025 → most < max (above + up half 2) (up six 6)
      → most < bound kind line c R
  parts_over kind most small more =
      let some : IsEmpty R → ⊥ = λ h.
      let a : above ≡ 0 = counts.above_half ∙ weigh_empty (λ t. cond (nat_lt c (2 * t)) 1 0) R line.times h in
      let b : up half 2 ≡ 0 =
      ap (λ n. up n 2) (counts.at_half ∙ weigh_empty (λ t. cond (nat_eq (2 * t) c) 1 0) R line.times h) in
      let d : up six 6 ≡ 0 = ap (λ n. up n 6) (counts.sixths ∙ weigh_empty (sixths c) R line.times h) in
      omega (arith, more, a, b, d) in
      below_bound kind line c R some most small (λ _. omega (arith, more, lm2_is, lm3_is))

  pub sizes_fit : (most : ℕ) → long ≤ 0 → max (above + up half 2) (up six 6) ≤ most → FitsBySizes line c R most
  sizes_fit most none less = record {
    none_long = omega (arith, none, counts.too_long);
    halves = omega (arith, less, lm2_is);
    sixths = omega (arith, less, lm3_is);
  }

-- a total time of no more than so many cycles needs no more stations
first_part : (line : Line) (c : ℕ) (R : List Bool) (total most : ℕ) → 1 ≤ c → total ≡ sum_where (has R) line.times
    → total ≤ most * c → lm1 line c R ≤ most
unfolding lm1
first_part line c R total most o e l =
    let P : ℕ → Type 0 = λ n. up n c ≤ most in subst P e (up_le total c most o l)

-- where neither the total time nor the sizes exceed it, what the head and the tail of a task need decides
pub chains_tell : (kind : LineKind) (line : Line) (c : ℕ) (R : List Bool) → (IsEmpty R → ⊥) → {total most m : ℕ}
    {longer : Bool} → m ≡ most → 1 ≤ c → total ≡ sum_where (has R) line.times → total ≤ most * c
    → FitsBySizes line c R most → (IsTrue longer ↔ m < chained kind line c R) → 1 ≤ most
    → IsTrue longer ↔ most < bound kind line c R
chains_tell kind line c R some {total} {most} {m} {longer} same o sum within fits tells one =
    let whole = parts_bound kind line c R some fits.none_long in
    let first = first_part line c R total most o sum within in (
      λ e. omega (arith, same, whole, tells.0 e),
      λ l. tells.1 (omega (arith, same, l, whole, first, fits.halves, fits.sixths, one)),
    )

-- S has those of the tasks below n of which so many times the time is more than the limit
abbrev pub Gathered : Line → ℕ → ℕ → List Bool → ℕ → Type 0
Gathered line parts limit S n = (k : ℕ) → In S k ↔ (k < n) × (limit < parts * time line k)

pub gathered_more : (line : Line) (parts limit : ℕ) (S N : List Bool) (n : ℕ) → Gathered line parts limit S n
    → length S ≡ 1024 → n < 1024 → (limit < parts * time line n → N ≡ set S n true)
    → (parts * time line n ≤ limit → N ≡ S) → Gathered line parts limit N (n + 1)
gathered_more line parts limit S N n h len small more less = λ k.
    elim (cases_lt limit (parts * time line n)) [
      | inl l ↦ (
        λ m. elim (In-set_cases S n k (ap (λ s. has s k) (sym (more l)) ∙ m)) [
          | inl i ↦ (omega (arith, ((h k).0 i).0), ((h k).0 i).1)
          | inr e ↦ (omega (arith, e), let P : ℕ → Type 0 = λ j. limit < parts * time line j in subst P (sym e) l)
        ],
        λ p. ap (λ s. has s k) (more l) ∙ elim (cases_eq k n) [
          | inl e ↦ (let P : ℕ → Type 0 = λ j. In (set S n true) j in
              subst P (sym e) (In-set_same S n (omega (arith, len, small))))
          | inr d ↦ In-set_kept S n k ((h k).1 (omega (arith, p.0, d), p.1))
        ],
      )
      | inr g ↦ (
        λ m. let i : In S k = ap (λ s. has s k) (sym (less g)) ∙ m in
            (omega (arith, ((h k).0 i).0), ((h k).0 i).1),
        λ p. ap (λ s. has s k) (less g) ∙ elim (cases_eq k n) [
          | inl e ↦ (let P : ℕ → Type 0 = λ j. limit < parts * time line j in
              absurd (omega (arith, g, subst P e p.1)))
          | inr d ↦ (h k).1 (omega (arith, p.0, d), p.1)
        ],
      )
    ]

pub gathered_none : (line : Line) (parts limit : ℕ) (S : List Bool) → S ≡ replicate 1024 false
    → Gathered line parts limit S 0
gathered_none line parts limit S e = λ k. (
  λ m. absurd (In-empty 1024 k (ap (λ s. has s k) (sym e) ∙ m)),
  λ p. absurd (omega (arith, p.0)),
)

pub gathered_all : (line : Line) (parts limit : ℕ) (S : List Bool) (n : ℕ) → Gathered line parts limit S n
    → n ≡ tasks line → (k : ℕ) → In S k ↔ (k < tasks line) × (limit < parts * time line k)
gathered_all line parts limit S n h e = λ k. (
  λ m. (omega (arith, e, ((h k).0 m).0), ((h k).0 m).1),
  λ p. (h k).1 (omega (arith, e, p.0), p.1),
)

-- the sets that are made are the size sets
pub made : (line : Line) (c : ℕ) (L A B H T M W P : List Bool) → 1 ≤ c
    → ((i : ℕ) → In L i ↔ (i < tasks line) × (c < 1 * time line i))
    → ((i : ℕ) → In A i ↔ (i < tasks line) × (c < 2 * time line i))
    → ((i : ℕ) → In B i ↔ (i < tasks line) × (c - 1 < 2 * time line i)) → H ≡ minus B A
    → ((i : ℕ) → In T i ↔ (i < tasks line) × (c - 1 < 3 * time line i))
    → ((i : ℕ) → In M i ↔ (i < tasks line) × (c < 3 * time line i))
    → ((i : ℕ) → In W i ↔ (i < tasks line) × (2 * c - 1 < 3 * time line i))
    → ((i : ℕ) → In P i ↔ (i < tasks line) × (2 * c < 3 * time line i))
    → AreSizeSets line c (record {
      too_long = L;
      above_half = A;
      at_half = H;
      third = T;
      above_third = M;
      two_thirds = W;
      above_two_thirds = P;
    })
made line c L A B H T M W P o hl ha hb eh ht hm hw hp = record {
  some = o;
  too_long = λ i. tested (hl i) (λ l. omega (arith, l)) (λ l. omega (arith, l));
  above_half = ha;
  at_half = λ i. (
    λ m. let q : In B i × (get_or A i false ≡ false) = In-minus_parts B A i (ap (λ s. has s i) (sym eh) ∙ m) in
        let b : (i < tasks line) × (c - 1 < 2 * time line i) = (hb i).0 q.0 in (
          b.0,
          elim (cases_lt c (2 * time line i)) [
            | inl l ↦ absurd (false≢true (sym q.1 ∙ (ha i).1 (b.0, l)))
            | inr g ↦ omega (arith, o, g, b.1)
          ],
        ),
    λ p. ap (λ s. has s i) eh ∙ In-minus B A i ((hb i).1 (p.0, omega (arith, o, p.1)))
        (false_from_ne_true (get_or A i false) (λ m. omega (arith, p.1, ((ha i).0 m).1))),
  );
  third = λ i. tested (ht i) (λ l. omega (arith, o, l)) (λ l. omega (arith, o, l));
  above_third = hm;
  two_thirds = λ i. tested (hw i) (λ l. omega (arith, o, l)) (λ l. omega (arith, o, l));
  above_two_thirds = hp;
}
