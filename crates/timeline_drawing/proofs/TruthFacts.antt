-- The picture of a timeline is true.
use Rattle.std.proofs.Common.{Bool, true, false, cond, nat_eq, ◌≡◌, ℕ, zero, suc, ◌+◌, ◌-◌, ◌<◌, ◌≤◌, List, [], ◌∷◌}
use Rattle.std.proofs.Common.{◌++◌, length, get_or, drop, refl}
use Rattle.std.proofs.Common.{sym, ap, ◌∙◌, subst, inl, inr, arith, add-one, sum}
use Rattle.std.specs.Prelude.{◌&&◌}
use Rattle.std.proofs.lemmas.Bool.{cases_eq}
use Rattle.std.proofs.lemmas.Bool.Decides.{nat_tests}
use Rattle.std.proofs.lemmas.List.{drop_more, get_or_append_left}
use Rattle.std.proofs.lemmas.List.Sums.{sum_by-cons}
use Rattle.std.proofs.Math.Seq.{get_or-append_seam}
use Rattle.combined_graph.specs.Mixes.{model_at}
use Rattle.utility_work.specs.Utility.{utility_from, work_at}
use Rattle.timeline_drawing.specs.Visits.{Course, bar_end, row_to, row_utility, start_at, visit_at, work_end}
use Rattle.timeline_drawing.specs.Figures.{figures_of, position, red_width, scale_of}
use Rattle.timeline_drawing.specs.Figures.{station_sum, sums_from, units_of}
use Rattle.timeline_drawing.specs.Rows.{has_utility, has_work}
use Rattle.timeline_drawing.specs.Facts.{shown_at, AreTrueShapes, IsTruePicture, IsTrueRow, IsTrueWidth}
use Rattle.timeline_drawing.specs.Facts.{column_utility, rows_utility}
use Rattle.timeline_drawing.specs.declared.visits.Visit.{Visit}
use Rattle.timeline_drawing.specs.declared.figures.Figures.{Figures}
use Rattle.timeline_drawing.proofs.Positions.{between_above, between_below, most, rises}
use Rattle.timeline_drawing.proofs.VisitFacts.{row_length, start_within}
use Rattle.timeline_drawing.proofs.FigureFacts.{row_fits}

-- the visit at each station of a row
visit_in : (d : Course) (j n k : ℕ) (v : Visit) → k < n → get_or (row_to d j n) k v ≡ visit_at d k j
visit_in d j zero k v l = absurd (omega (arith, l))
visit_in d j (suc n) k v l =
    let before : List Visit = row_to d j n in
    let here : Visit = visit_at d n j in
    elim (cases_eq k n) [
      | inl s ↦ ap (λ i. get_or (before ++ here ∷ []) i v) (s ∙ sym (row_length d j n))
          ∙ get_or-append_seam before here [] v
          ∙ ap (λ i. visit_at d i j) (sym s)
      | inr x ↦ get_or_append_left before (here ∷ []) v k (omega (arith, l, x, row_length d j n))
          ∙ visit_in d j n k v (omega (arith, l, x))
    ]

-- of one visit: whether it is of a station
other_station : (a k : ℕ) (b : Bool) → (a ≡ k → ⊥) → cond {A = ℕ} (nat_eq a k && b) 1 0 ≡ 0
other_station a k true h = grind (arith, nat_tests, h)
other_station a k false h = grind (arith, nat_tests, h)

same_station : (a k : ℕ) (b : Bool) → a ≡ k → cond {A = ℕ} (nat_eq a k && b) 1 0 ≡ cond {A = ℕ} b 1 0
same_station a k true h = grind (arith, nat_tests, h)
same_station a k false h = grind (arith, nat_tests, h)

shown_more : (p : Visit → Bool) (k : ℕ) (row : List Visit) (v : Visit)
    → shown_at p k (row ++ v ∷ []) ≡ shown_at p k row + cond {A = ℕ} (nat_eq v.station k && p v) 1 0
shown_more p k [] v = omega arith
shown_more p k (w ∷ row) v = omega (arith, shown_more p k row v)

-- none of the first stations is a later one
not_yet : (p : Visit → Bool) (d : Course) (j n k : ℕ) → n ≤ k → shown_at p k (row_to d j n) ≡ 0
not_yet p d j zero k l = refl
not_yet p d j (suc n) k l =
    omega (
      arith,
      shown_more p k (row_to d j n) (visit_at d n j),
      not_yet p d j n k (omega (arith, l)),
      other_station n k (p (visit_at d n j)) (λ e. omega (arith, l, e)),
    )

shown_once : (p : Visit → Bool) (d : Course) (j n k : ℕ) → k < n
    → shown_at p k (row_to d j n) ≡ cond {A = ℕ} (p (visit_at d k j)) 1 0
shown_once p d j zero k l = absurd (omega (arith, l))
shown_once p d j (suc n) k l = elim (cases_eq k n) [
  | inl s ↦
      let here : cond {A = ℕ} (p (visit_at d n j)) 1 0 ≡ cond {A = ℕ} (p (visit_at d k j)) 1 0 =
      ap (λ (i : ℕ). cond {A = ℕ} (p (visit_at d i j)) 1 0) (sym s) in
      omega (
        arith,
        shown_more p k (row_to d j n) (visit_at d n j),
        not_yet p d j n k (omega (arith, s)),
        same_station n k (p (visit_at d n j)) (sym s),
        here,
      )
  | inr x ↦ omega (
    arith,
    shown_more p k (row_to d j n) (visit_at d n j),
    shown_once p d j n k (omega (arith, l, x)),
    other_station n k (p (visit_at d n j)) (λ e. x (sym e)),
  )
]

true_row : (d : Course) (j : ℕ) → IsTrueRow d j
true_row d j = record {
  each = row_length d j d.balance.stations;
  visit = λ k v l. visit_in d j d.balance.stations k v l;
  bars = λ k l. shown_once has_work d j d.balance.stations k l;
  reds = λ k l. shown_once has_utility d j d.balance.stations k l;
}

-- the width between the positions of two times
true_width : (m a b : ℕ) → a ≤ b → b ≤ m → 1 ≤ m → IsTrueWidth m (position m b - position m a) (b - a)
true_width m a b h l some =
    let w : ℕ = position m b - position m a in
    let t : ℕ = b - a in
    let whole : a + t ≡ b = omega (arith, h) in
    let up : position m a ≤ position m b = rises m a b l h in
    let e : position m (a + t) ≡ position m a + w = ap (λ x. position m x) whole ∙ omega (arith, up) in
    record { above = between_above m a t w some e; below = between_below m a t w some e }

shapes : (f : Figures) (v : Visit) → v.utility ≡ v.start + v.work - f.reach → v.start ≤ f.reach → work_end v ≤ f.scale
    → AreTrueShapes f v
shapes f v is within fits =
    let m : ℕ = f.scale in
    let bar : v.start ≤ bar_end v = omega (arith, is, within) in
    let red : bar_end v ≤ work_end v = omega arith in
    let first : position m v.start ≤ position m (bar_end v) = rises m v.start (bar_end v) (omega (arith, red, fits)) bar in
    let second : position m (bar_end v) ≤ position m (work_end v) = rises m (bar_end v) (work_end v) fits red in
    let last : position m (work_end v) ≤ 120 = most m (work_end v) fits in
    let own : work_end v - bar_end v ≡ v.utility = omega (arith, is, within) in
    let P : ℕ → Type 0 = λ t. IsTrueWidth m (red_width f v) t in
    record {
      meet = omega (arith, first);
      bar_within = omega (arith, first, second, last);
      red_within = omega (arith, first, second, last);
      red_begins = λ some. ap (λ t. position m t) (omega (arith, is, some));
      together = omega (arith, is, within);
      bar_width = λ some. true_width m v.start (bar_end v) bar (omega (arith, red, fits)) some;
      red_width = λ some. subst P own (true_width m (bar_end v) (work_end v) red fits some);
    }

true_shapes : (d : Course) (k j : ℕ) → k < d.balance.stations → j < units_of d
    → AreTrueShapes (figures_of d) (visit_at d k j)
true_shapes d k j lk lj =
    let v : Visit = visit_at d k j in
    let P : Visit → Type 0 = λ w. work_end w ≤ scale_of d in
    let fits : work_end v ≤ scale_of d =
    subst P (visit_in d j d.balance.stations k v lk)
    (row_fits d j lj k v (omega (arith, lk, row_length d j d.balance.stations))) in
    shapes (figures_of d) v refl (start_within d k j) fits

-- the utility work of the units from unit j on, behind that of those before
column_from : (d : Course) (k : ℕ) (n : ℕ) → n ≤ units_of d
    → column_utility d k n + utility_from d.reach d.interval
    (λ m. work_at d.balance.place (k + 1) (model_at d.mix.models m)) (start_at d k n) (drop n d.units)
    ≡ station_sum d k
column_from d k zero h = omega arith
column_from d k (suc n) h =
    let W : ℕ → ℕ = λ m. work_at d.balance.place (k + 1) (model_at d.mix.models m) in
    let rest : drop n d.units ≡ get_or d.units n 0 ∷ drop (suc n) d.units =
    drop_more d.units n 0 (omega (arith, h)) ∙ ap (λ i. get_or d.units n 0 ∷ drop i d.units) (add-one n) in
    let parted = ap (λ (us : List ℕ). utility_from d.reach d.interval W (start_at d k n) us) rest in
    omega (arith, parted, column_from d k n (omega (arith, h)))

no_more : (xs : List ℕ) (n : ℕ) → length xs ≡ n → drop n xs ≡ []
no_more [] zero e = refl
no_more [] (suc n) e = absurd (omega (arith, e))
no_more (x ∷ xs) zero e = absurd (omega (arith, e))
no_more (x ∷ xs) (suc n) e = no_more xs n (omega (arith, e))

column_all : (d : Course) (k : ℕ) → column_utility d k (units_of d) ≡ station_sum d k
column_all d k =
    let W : ℕ → ℕ = λ m. work_at d.balance.place (k + 1) (model_at d.mix.models m) in
    let none = ap (λ (us : List ℕ). utility_from d.reach d.interval W (start_at d k (units_of d)) us)
    (no_more d.units (units_of d) refl) in
    omega (arith, none, column_from d k (units_of d) (omega arith))

row_more : (row : List Visit) (v : Visit) → row_utility (row ++ v ∷ []) ≡ row_utility row + v.utility
row_more [] v = omega arith
row_more (w ∷ row) v = omega (arith, row_more row v)

-- the utility work of the first m units at the first n stations, station by station
columns : Course → ℕ → ℕ → ℕ
columns d m zero = 0
columns d m (suc n) = columns d m n + column_utility d n m

one_row : (d : Course) (m n : ℕ) → columns d (suc m) n ≡ columns d m n + row_utility (row_to d m n)
unfolding columns
one_row d m zero = omega arith
one_row d m (suc n) = omega (arith, one_row d m n, row_more (row_to d m n) (visit_at d n m))

none_yet : (d : Course) (n : ℕ) → columns d 0 n ≡ 0
unfolding columns
none_yet d zero = refl
none_yet d (suc n) = omega (arith, none_yet d n)

by_rows : (d : Course) (m : ℕ) → rows_utility d m ≡ columns d m d.balance.stations
by_rows d zero = sym (none_yet d d.balance.stations)
by_rows d (suc m) = omega (arith, by_rows d m, one_row d m d.balance.stations)

sums_more : (d : Course) (k n : ℕ) → sum (sums_from d k (suc n)) ≡ sum (sums_from d k n) + station_sum d (k + n)
sums_more d k zero =
    let here : station_sum d k ≡ station_sum d (k + 0) = ap (λ i. station_sum d i) (omega arith) in
    omega (arith, sum_by-cons (λ x. x) (station_sum d k) [], here)
sums_more d k (suc n) =
    let there : station_sum d (suc k + n) ≡ station_sum d (k + suc n) = ap (λ i. station_sum d i) (omega arith) in
    omega (
      arith,
      sum_by-cons (λ x. x) (station_sum d k) (sums_from d (suc k) (suc n)),
      sum_by-cons (λ x. x) (station_sum d k) (sums_from d (suc k) n),
      sums_more d (suc k) n,
      there,
    )

by_stations : (d : Course) (n : ℕ) → sum (sums_from d 0 n) ≡ columns d (units_of d) n
unfolding columns
by_stations d zero = refl
by_stations d (suc n) =
    let here : station_sum d (0 + n) ≡ station_sum d n = ap (λ i. station_sum d i) (omega arith) in
    omega (arith, sums_more d 0 n, by_stations d n, column_all d n, here)

pub picture_true : (d : Course) → IsTruePicture d
picture_true d = record {
  rows = λ j. true_row d j;
  shapes = λ k j lk lj. true_shapes d k j lk lj;
  sums = record {
    below = λ k. column_all d k;
    rows = by_rows d (units_of d) ∙ sym (by_stations d d.balance.stations);
  };
}
