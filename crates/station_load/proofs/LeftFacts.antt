-- Marks are gone over from the last one down: each turn, and what changes of them on the way.
use Rattle.std.proofs.Common.{◌≡◌, ◌≢◌, ◌∙◌, ℕ, ◌+◌, ◌-◌, ◌*◌, ◌^◌, ◌/◌, ◌%◌, ◌<◌, ◌≤◌, ◌⊎◌, ◌↔◌, Bool, false, List}
use Rattle.std.proofs.Common.{set, get_or, sym, ap, subst, inl, inr, arith, bit_and, w64}
use Rattle.std.proofs.lemmas.Bool.{cases_eq, cases_lt}
use Rattle.std.proofs.lemmas.Nat.Bits.{bit_at_clear_same, bit_at_clear_other, bit_at-zero}
use Rattle.std.specs.Int.{bit_at, bit_not}
use lib.Count.{count_leading_zeros}
use Rattle.line_instance.specs.Truths.{In, IsGreatestBelow, AreWords, truths_of}
use Rattle.line_instance.specs.Line.{Line, IsRanked, tasks}
use Rattle.line_instance.proofs.Bits.{bit_in, member_word}
use Rattle.line_instance.proofs.HighestBits.{IsTop, top_bit, kept_bits, lost_bits}
use Rattle.line_rules.specs.declared.types.Side.{Side}
use Rattle.line_rules.specs.Sides.{Ahead, task_at}
use Rattle.line_rules.specs.Ends.{AreMarked}
use Rattle.line_rules.proofs.SideFacts.{ahead_below, task_once}
use Rattle.line_rules.proofs.SidePlaces.{clear_in}
use Rattle.station_load.specs.inner.Marked.{IsLeft}

-- a bit of a word of marks, and a mark
bit_is_mark : (ws : List ℕ) (k i : ℕ) → k < 16 → i < 64 → bit_at (get_or ws k 0) i ≡ 1 ↔ In (truths_of ws) (64 * k + i)
bit_is_mark ws k i l h = (
  bit_in ws k i l h,
  λ m.
      let f : (64 * k + i < 1024) × (bit_at (get_or ws ((64 * k + i) / 64) 0) ((64 * k + i) % 64) ≡ 1) =
      member_word ws (64 * k + i) m in
      let q : (64 * k + i) / 64 ≡ k = omega arith in
      let r : (64 * k + i) % 64 ≡ i = omega arith in
      let P : ℕ → Type 0 = λ x. bit_at (get_or ws x 0) ((64 * k + i) % 64) ≡ 1 in
      let Q : ℕ → Type 0 = λ x. bit_at (get_or ws k 0) x ≡ 1 in
      subst Q r (subst P q f.1),
)

-- the bits below n of the word that n falls into
pub part_left : (ws : List ℕ) (n i : ℕ) → n / 64 < 16 → i < 64
    → bit_at (bit_and (get_or ws (n / 64) 0) (1 * 2 ^ (n % 64) % 2 ^ 64 - 1)) i ≡ 1
    ↔ In (truths_of ws) (64 * (n / 64) + i) × (64 * (n / 64) + i < n)
part_left ws n i l h = (
  λ e. elim (cases_lt i (n % 64)) [
    | inl under ↦ (
      (bit_is_mark ws (n / 64) i l h).0 (sym (kept_bits (get_or ws (n / 64) 0) (n % 64) i (omega arith) under) ∙ e),
      omega arith,
    )
    | inr over ↦
        let z : bit_at (bit_and (get_or ws (n / 64) 0) (1 * 2 ^ (n % 64) % 2 ^ 64 - 1)) i ≡ 0 =
        lost_bits (get_or ws (n / 64) 0) (n % 64) i (omega arith) over in
        absurd (omega (arith, z, e))
  ],
  λ m. kept_bits (get_or ws (n / 64) 0) (n % 64) i (omega arith) (omega (arith, m.1))
      ∙ (bit_is_mark ws (n / 64) i l h).1 m.0,
)

-- the last bit of the word is the last mark that is left
module _ {s : List Bool} {below base word : ℕ} (h : IsLeft s below base word) (some : 0 < word) where
  last : ℕ
  last = 63 - count_leading_zeros 64 word

  top : IsTop word (63 - count_leading_zeros 64 word)
  top = top_bit word some h.fits

  mark : In s (base + (63 - count_leading_zeros 64 word)) × (base + (63 - count_leading_zeros 64 word) < below)
  mark = (h.bits (63 - count_leading_zeros 64 word) top.within).0 top.bit

  under_top : (i : ℕ) → bit_at word i ≡ 1 → i ≤ 63 - count_leading_zeros 64 word
  under_top i e = elim (cases_lt (63 - count_leading_zeros 64 word) i) [
    | inl above ↦ let z : bit_at word i ≡ 0 = top.above i above in absurd (omega (arith, z, e))
    | inr le ↦ le
  ]

  pub last_left : IsGreatestBelow s below (base + (63 - count_leading_zeros 64 word))
  last_left = record {
    member = mark.0;
    below = mark.1;
    greatest = λ k m b. elim (cases_lt k base) [
      | inl under ↦ omega arith
      | inr from ↦
          let within : k < base + 64 = h.high k m b in
          let is : base + (k - base) ≡ k = omega arith in
          let P : ℕ → Type 0 = λ x. In s x × (x < below) in
          let t : k - base ≤ 63 - count_leading_zeros 64 word =
          under_top (k - base) ((h.bits (k - base) (omega arith)).1 (subst P (sym is) (m, b))) in
          omega (arith, t)
    ];
  }

  pub rest_left : (rest : ℕ) → rest < 2 ^ 64
      → rest ≡ bit_and word (bit_not w64 (1 * 2 ^ (63 - count_leading_zeros 64 word) % 2 ^ 64))
      → IsLeft s (base + (63 - count_leading_zeros 64 word)) base rest
  rest_left rest fits is =
      let t : ℕ = 63 - count_leading_zeros 64 word in
      record {
        even = h.even;
        most = h.most;
        low = omega arith;
        high = λ p m b. omega (arith, b, top.within);
        fits = fits;
        bits = λ i l. elim (cases_eq i (63 - count_leading_zeros 64 word)) [
          | inl e ↦ (
            λ one.
                let z : bit_at rest i ≡ 0 = ap (λ x. bit_at rest x) e ∙ (ap (λ x. bit_at x
                (63 - count_leading_zeros 64 word)) is
                ∙ bit_at_clear_same w64 word (63 - count_leading_zeros 64 word) top.within) in
                absurd (omega (arith, z, one)),
            λ m. absurd (omega (arith, m.1, e)),
          )
          | inr n ↦
              let same : bit_at rest i ≡ bit_at word i = ap (λ x. bit_at x i) is
              ∙ bit_at_clear_other w64 word (63 - count_leading_zeros 64 word) top.within i l n in (
                λ one.
                    let q : In s (base + i) × (base + i < below) = (h.bits i l).0 (sym same ∙ one) in
                    (q.0, omega (arith, n, under_top i (sym same ∙ one))),
                λ m. same ∙ (h.bits i l).1 (m.0, omega (arith, m.1, mark.1)),
              )
        ];
      }

-- a lower word, above which nothing is left
pub word_left : {s : List Bool} {below base word : ℕ} (ws : List ℕ) (k : ℕ) → IsLeft s below base word
    → AreWords ws → truths_of ws ≡ s → k < base / 64 → ((p : ℕ) → In s p → p < below → p < 64 * k + 64)
    → IsLeft s below (64 * k) (get_or ws k 0)
word_left {s} {below} {base} {word} ws k h are is l none =
    let w : k < 16 = omega (arith, h.most) in
    let S : (i : ℕ) → List Bool → Type 0 = λ i b. bit_at (get_or ws k 0) i ≡ 1 ↔ In b (64 * k + i) in
    record {
      even = omega arith;
      most = omega arith;
      low = omega (arith, h.low);
      high = none;
      fits = are.fit k;
      bits = λ i b.
          let q : bit_at (get_or ws k 0) i ≡ 1 ↔ In s (64 * k + i) = subst (S i) is (bit_is_mark ws k i w b) in (
            λ e. (q.0 e, omega (arith, h.low)),
            λ m. q.1 m.0,
          );
    }

-- nothing is left of the word in hand
pub none_in_word : {s : List Bool} {below base word : ℕ} → IsLeft s below base word → word ≡ 0 → (p : ℕ) → In s p
    → p < below → p < base
none_in_word {s} {below} {base} {word} h e p m b = elim (cases_lt p base) [
  | inl under ↦ under
  | inr from ↦
      let within : p < base + 64 = h.high p m b in
      let is : base + (p - base) ≡ p = omega arith in
      let P : ℕ → Type 0 = λ x. In s x × (x < below) in
      let one : bit_at word (p - base) ≡ 1 = (h.bits (p - base) (omega arith)).1 (subst P (sym is) (m, b)) in
      let z : bit_at word (p - base) ≡ 0 = ap (λ x. bit_at x (p - base)) e ∙ bit_at-zero (p - base) in
      absurd (omega (arith, one, z))
]

-- where a task is given up, the marks below its place stay
pub left_kept : {line : Line} {s : Side} {here free P N F Q : List Bool} {place base word t : ℕ} → IsRanked line
    → IsLeft P place base word → AreMarked line s here free P → AreMarked line s N F Q → place < tasks line
    → t ≡ task_at line s place → N ≡ set here t false
    → ((i : ℕ) → In F i ↔ (In free i ⊎ (i ≡ t)) × (Ahead line s t i → ⊥)) → IsLeft Q place base word
left_kept {line} {s} {here} {free} {P} {N} {F} {Q} {place} {base} {word} {t} ranked h old new within is gone isF =
    let other : (j : ℕ) → j < tasks line → j < place → task_at line s j ≢ t = λ j l b e.
    let z : j ≡ place = task_once line ranked s j place l within (e ∙ is) in omega (arith, z, b) in
    let behind : (j : ℕ) → j < tasks line → j < place → Ahead line s t (task_at line s j) → ⊥ = λ j l b a.
    let A : ℕ → Type 0 = λ x. Ahead line s x (task_at line s j) in
    let z : place < j = ahead_below line ranked s place j within l (subst A is a) in omega (arith, z, b) in
    let back : (j : ℕ) → j < place → In Q j → In P j = λ j b m.
    let q = (new.is j).0 m in
    (old.is j).1 (
      q.0,
      elim q.1 [
        | inl n ↦ inl ((clear_in here N t gone (task_at line s j)).0 n).0
        | inr f ↦ elim ((isF (task_at line s j)).0 f).0 [ inl x ↦ inr x | inr e ↦ absurd (other j q.0 b e) ]
      ],
    ) in
    let on : (j : ℕ) → j < place → In P j → In Q j = λ j b m.
    let q = (old.is j).0 m in
    (new.is j).1 (
      q.0,
      elim q.1 [
        | inl x ↦ inl ((clear_in here N t gone (task_at line s j)).1 (x, other j q.0 b))
        | inr x ↦ inr ((isF (task_at line s j)).1 (inl x, behind j q.0 b))
      ],
    ) in
    record {
      even = h.even;
      most = h.most;
      low = h.low;
      high = λ p m b. h.high p (back p b m) b;
      fits = h.fits;
      bits = λ i l. (
        λ e. let q = (h.bits i l).0 e in (on (base + i) q.1 q.0, q.1),
        λ m. (h.bits i l).1 (back (base + i) m.1 m.0, m.1),
      );
    }
