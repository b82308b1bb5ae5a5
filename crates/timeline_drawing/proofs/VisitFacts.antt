-- The units at the stations.
use Rattle.std.proofs.Common.{◌≡◌, ℕ, zero, suc, ◌+◌, ◌<◌, ◌≤◌, List, [], ◌∷◌, ◌++◌, length, map, get_or, refl}
use Rattle.std.proofs.Common.{sym, ap, ◌∙◌, subst, inl, inr, arith, length-append, add-one}
use Rattle.std.proofs.lemmas.Bool.{cases_eq}
use Rattle.std.proofs.lemmas.List.{get_or_append_left, length-map, map-append}
use Rattle.std.proofs.Math.Seq.{get_or-append_seam}
use Rattle.timeline_drawing.specs.Visits.{AreStarts, Course, row_of, row_to, start_at, visit_at}
use Rattle.timeline_drawing.specs.declared.visits.Visit.{Visit}

-- a unit is begun within the station
pub start_within : (d : Course) (k j : ℕ) → start_at d k j ≤ d.reach
start_within d k zero = omega arith
start_within d k (suc j) = omega arith

-- a row has a visit for each station
pub row_length : (d : Course) (j n : ℕ) → length (row_to d j n) ≡ n
row_length d j zero = refl
row_length d j (suc n) = omega (arith, length-append (row_to d j n) (visit_at d n j ∷ []), row_length d j n)

-- where the next unit is begun, at each station of a row
nexts : List Visit → List ℕ
nexts row = map (λ v. v.next) row

next_at : (d : Course) (j n k : ℕ) → k < n → get_or (map (λ v. v.next) (row_to d j n)) k 0 ≡ start_at d k (suc j)
next_at d j zero k l = absurd (omega (arith, l))
next_at d j (suc n) k l =
    let before : List ℕ = map (λ v. v.next) (row_to d j n) in
    let here : ℕ = start_at d n (suc j) in
    let parted : map (λ v. v.next) (row_to d j (suc n)) ≡ before ++ here ∷ [] =
    map-append (λ v. v.next) (row_to d j n) (visit_at d n j ∷ []) in
    let long : length before ≡ n = length-map (row_to d j n) (λ v. v.next) ∙ row_length d j n in
    ap (λ (xs : List ℕ). get_or xs k 0) parted
    ∙ elim (cases_eq k n) [
      | inl s ↦ ap (λ i. get_or (before ++ here ∷ []) i 0) (s ∙ sym long) ∙ get_or-append_seam before here [] 0
          ∙ ap (λ i. start_at d i (suc j)) (sym s)
      | inr x ↦ get_or_append_left before (here ∷ []) 0 k (omega (arith, l, x, long))
          ∙ next_at d j n k (omega (arith, l, x))
    ]

-- the starts behind a row are those of the next unit
pub after_row : (d : Course) (j : ℕ) (row : List Visit) (starts : List ℕ) → row ≡ row_of d j
    → starts ≡ map (λ v. v.next) row → AreStarts d (j + 1) starts
after_row d j row starts e s =
    let P : List ℕ → Type 0 = λ xs. AreStarts d (j + 1) xs in
    let told : starts ≡ map (λ v. v.next) (row_of d j) = s ∙ ap (λ vs. map (λ v. v.next) vs) e in
    subst P (sym told) (record {
      each = length-map (row_of d j) (λ v. v.next) ∙ row_length d j d.balance.stations;
      start = λ k l. next_at d j d.balance.stations k l ∙ ap (λ i. start_at d k i) (sym (add-one j));
    })
