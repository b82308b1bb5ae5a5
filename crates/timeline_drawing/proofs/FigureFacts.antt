-- The numbers that stand for the whole line.
use Rattle.std.proofs.Common.{◌≡◌, ℕ, zero, suc, ◌+◌, ◌<◌, ◌≤◌, Bool, true, false, List, [], ◌∷◌, length, get_or, refl}
use Rattle.std.proofs.Common.{ap, ◌∙◌, arith, cond}
use Rattle.std.specs.Prelude.{All, nat_lt}
use Rattle.line_rules.proofs.SumsOverMembers.{below_at}
use Rattle.timeline_drawing.specs.Visits.{Course, latest_of, row_of, row_utility, work_end}
use Rattle.timeline_drawing.specs.Figures.{late_to, scale_of, station_sum, sums_from, units_of}
use Rattle.timeline_drawing.specs.declared.visits.Visit.{Visit}
use Rattle.timeline_drawing.specs.declared.figures.Figures.{Figures}

-- figures by their numbers
abbrev pub figures : ℕ → ℕ → ℕ → ℕ → ℕ → ℕ → ℕ → ℕ → ℕ → Figures
figures stations units interval reach scale total late left right =
    record {
      stations = stations;
      units = units;
      interval = interval;
      reach = reach;
      scale = scale;
      total = total;
      late = late;
      left = left;
      right = right;
    }

-- no work of a row ends behind its latest end
latest_most : (row : List Visit) → All (λ v. work_end v ≤ latest_of row) row
latest_most [] i v l = absurd (omega (arith, l))
latest_most (w ∷ row) zero v l = omega arith
latest_most (w ∷ row) (suc i) v l = omega (arith, latest_most row i v (omega (arith, l)))

-- the work of each unit at each station ends within the scale
pub row_fits : (d : Course) (j : ℕ) → j < units_of d → All (λ v. work_end v ≤ scale_of d) (row_of d j)
row_fits d j h i v l = omega (
  arith,
  latest_most (row_of d j) i v l,
  below_at (units_of d) (λ k. latest_of (row_of d k)) j h,
)

one_or_none : (b : Bool) → cond {A = ℕ} b 1 0 ≤ 1
one_or_none true = omega arith
one_or_none false = omega arith

-- no more units have utility work than there are
pub late_few : (d : Course) (n : ℕ) → late_to d n ≤ n
late_few d zero = omega arith
late_few d (suc n) = omega (arith, late_few d n, one_or_none (nat_lt 0 (row_utility (row_of d n))))

-- the sums of the stations, as a list
pub sums_are : (d : Course) (k n : ℕ) (per : List ℕ) → length per ≡ n
    → ((j : ℕ) → j < n → get_or per j 0 ≡ station_sum d (j + k)) → per ≡ sums_from d k n
sums_are d k zero [] e h = refl
sums_are d k zero (u ∷ per) e h = absurd (omega (arith, e))
sums_are d k (suc n) [] e h = absurd (omega (arith, e))
sums_are d k (suc n) (u ∷ per) e h =
    let at : ℕ → ℕ = λ s. station_sum d s in
    let first : u ≡ at k = h 0 (omega arith) ∙ ap at (omega arith) in
    let rest : per ≡ sums_from d (suc k) n =
    sums_are d (suc k) n per (omega (arith, e))
    (λ j less. h (suc j) (omega (arith, less)) ∙ ap at (omega arith)) in
    ap (λ (x : ℕ). x ∷ per) first ∙ ap (λ (xs : List ℕ). at k ∷ xs) rest

-- figures with the same numbers
pub same_figures : (stations units interval reach : ℕ) {s s′ t t′ l l′ x x′ r r′ : ℕ} → s ≡ s′ → t ≡ t′ → l ≡ l′
    → x ≡ x′
    → r ≡ r′
    → figures stations units interval reach s t l x r ≡ figures stations units interval reach s′ t′ l′ x′ r′
same_figures n k c m {s} {s′} {t} {t′} {l} {l′} {x} {x′} {r} {r′} a b d e f =
    ap (λ (i : ℕ). figures n k c m i t l x r) a
    ∙ ap (λ (i : ℕ). figures n k c m s′ i l x r) b
    ∙ ap (λ (i : ℕ). figures n k c m s′ t′ i x r) d
    ∙ ap (λ (i : ℕ). figures n k c m s′ t′ l′ i r) e
    ∙ ap (λ (i : ℕ). figures n k c m s′ t′ l′ x′ i) f
