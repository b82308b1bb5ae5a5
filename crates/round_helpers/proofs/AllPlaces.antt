-- Rising places among which each from a number on stands once are all from there on.
use Rattle.std.proofs.Common.{◌≡◌, ◌≢◌, ℕ, zero, suc, ◌+◌, ◌-◌, ◌<◌, ◌≤◌, cond, List, [], ◌∷◌, length, refl, ap, ◌∙◌}
use Rattle.std.proofs.Common.{subst, inl, inr, arith, Some}
use Rattle.std.proofs.lemmas.Bool.{cases_lt}
use Rattle.std.proofs.lemmas.Bool.Decides.{nat_tests}
use Rattle.std.specs.List.{range_with_len}
use Rattle.std.specs.Prelude.{slice_get, nat_eq}
use Rattle.lemma_core.specs.History.{Item, AreOwn}
use Rattle.book_share.specs.Places.{times, once_from, AreAllFrom, Rises}

-- in a rising list each later place is above the first
later_above : (y : ℕ) (ys : List ℕ)
    → ((k a b : ℕ) → slice_get (y ∷ ys) k ≡ Some a → slice_get (y ∷ ys) (suc k) ≡ Some b → a < b)
    → (k x : ℕ) → slice_get ys k ≡ Some x → y < x
later_above y [] rises k x e = absurd (cc)
later_above y (z ∷ zs) rises zero x e = rises 0 y x refl e
later_above y (z ∷ zs) rises (suc k) x e =
    let l : y < z = rises 0 y z refl refl in
    let m : z < x = later_above z zs (λ j a b f g. rises (suc j) a b f g) k x e in
    omega (arith, l, m)

rises_so : (lo hi : ℕ) (ps : List ℕ) → lo ≤ hi → ((k x : ℕ) → slice_get ps k ≡ Some x → lo ≤ x)
    → ((k a b : ℕ) → slice_get ps k ≡ Some a → slice_get ps (suc k) ≡ Some b → a < b)
    → ((k a : ℕ) → slice_get ps k ≡ Some a → a < hi)
    → Rises lo ps hi
rises_so lo hi [] l from rises within = l
rises_so lo hi (y ∷ ys) l from rises within = (
  from 0 y refl,
  rises_so (suc y) hi ys (let m : y < hi = within 0 y refl in omega (arith, m))
      (λ k x e. let m : y < x = later_above y ys rises k x e in omega (arith, m))
      (λ k a b e f. rises (suc k) a b e f)
      (λ k a e. within (suc k) a e),
)

rises_up : (lo hi : ℕ) (ps : List ℕ) → Rises lo ps hi → lo ≤ hi
rises_up lo hi [] r = r
rises_up lo hi (y ∷ ys) r = omega (arith, r.0, rises_up (suc y) hi ys r.1)

other_place : (x y : ℕ) → x ≢ y → cond {A = ℕ} (nat_eq x y) 1 0 ≡ 0
other_place x y n = grind (arith, nat_tests, n)

none_below : (lo hi x : ℕ) (ps : List ℕ) → Rises lo ps hi → x < lo → times x ps ≡ 0
none_below lo hi x [] r l = refl
none_below lo hi x (y ∷ ys) r l =
    let a : times x ys ≡ 0 = none_below (suc y) hi x ys r.1 (omega (arith, l, r.0)) in
    let b : cond {A = ℕ} (nat_eq x y) 1 0 ≡ 0 = other_place x y (λ e. omega (arith, e, l, r.0)) in
    omega (arith, a, b)

once_at : (lo hi : ℕ) → lo < hi → once_from lo hi lo ≡ 1
once_at lo hi l = grind (arith, nat_tests, l)

once_later : (lo hi x : ℕ) → suc lo ≤ x → once_from lo hi x ≡ once_from (suc lo) hi x
once_later lo hi x l = grind (arith, nat_tests, l)

all_range : (ps : List ℕ) (lo hi : ℕ) → Rises lo ps hi → ((x : ℕ) → lo ≤ x → times x ps ≡ once_from lo hi x)
    → ps ≡ range_with_len lo (hi - lo)
all_range [] lo hi r all = elim (cases_lt lo hi) [
  | inl l ↦ (let e : 0 ≡ once_from lo hi lo = all lo (omega arith) in absurd (omega (arith, e, once_at lo hi l)))
  | inr l ↦ (let e : 0 ≡ hi - lo = omega (arith, l) in ap (λ (n : ℕ). range_with_len lo n) e)
]
all_range (y ∷ ys) lo hi r all =
    let up : suc y ≤ hi = rises_up (suc y) hi ys r.1 in
    let same : y ≡ lo =
    elim (cases_lt lo y) [
      | inl l ↦
          (let e : times lo (y ∷ ys) ≡ once_from lo hi lo = all lo (omega arith) in
          let a : times lo ys ≡ 0 = none_below (suc y) hi lo ys r.1 (omega (arith, l)) in
          let b : cond {A = ℕ} (nat_eq lo y) 1 0 ≡ 0 = other_place lo y (λ q. omega (arith, q, l)) in
          absurd (omega (arith, e, a, b, once_at lo hi (omega (arith, up, l)))))
      | inr l ↦ omega (arith, l, r.0)
    ] in
    let R : ℕ → Type 0 = λ z. Rises (suc z) ys hi in
    let rest : ys ≡ range_with_len (suc lo) (hi - suc lo) =
    all_range ys (suc lo) hi (subst R same r.1) (λ x l.
    let b : cond {A = ℕ} (nat_eq x y) 1 0 ≡ 0 = other_place x y (λ q. omega (arith, q, l, same)) in
    let e : times x (y ∷ ys) ≡ once_from lo hi x = all x (omega (arith, l)) in
    omega (arith, e, b, once_later lo hi x l)) in
    let n : suc (hi - suc lo) ≡ hi - lo = omega (arith, up, same) in
    let m : suc lo ≡ lo + 1 = omega arith in
    (λ i. same i ∷ rest i)
    ∙ (ap (λ (z : ℕ). lo ∷ range_with_len z (hi - suc lo)) m ∙ ap (λ (z : ℕ). range_with_len lo z) n)

-- so the own places of the pass that has all parts are the places of the history from the start on
pub all_own : (from : ℕ) (h : List Item) (own : List ℕ) → from ≤ length h → AreOwn h own
    → ((k place : ℕ) → slice_get own k ≡ Some place → from ≤ place)
    → AreAllFrom from (length h) own
    → own ≡ range_with_len from (length h - from)
all_own from h own l are behind all =
    all_range own from (length h) (rises_so from (length h) own l behind are.rises are.within) (λ x m. all x)
