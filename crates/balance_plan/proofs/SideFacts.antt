-- The turns of a side, task by task, and those at the back as ones that follow each other.
use Rattle.std.proofs.Common.{◌≡◌, ℕ, suc, ◌+◌, ◌-◌, ◌<◌, Bool, true, false, cond, List, [], ◌∷◌, ◌++◌}
use Rattle.std.proofs.Common.{length, get_or, drop, refl, sym, ap, ◌∙◌, arith, add-one}
use Rattle.std.specs.Prelude.{filter, map}
use Rattle.std.proofs.lemmas.List.{drop_more, map-append}
use Rattle.line_instance.specs.Line.{Line, time}
use Rattle.line_rules.specs.declared.types.Side.TheVariants.{Front, Back}
use Rattle.line_rules.specs.declared.types.Seatplace.{Seatplace}
use Rattle.line_drawing.specs.Segments.{times_of}
use Rattle.sheet_rows.proofs.SheetFacts.{rows_after}
use Rattle.sheet_rows.specs.SheetRows.{Sheet, with_rows}
use Rattle.balance_plan.specs.Plan.{Turn, back_turns, front_turns, plan_record, turns_at, turns_from}
use Rattle.balance_plan.specs.inner.Sides.{turn_of, turns_on}

-- the turns in front follow each other
pub front_on : (line : Line) (k sum : ℕ) (is : List ℕ)
    → turns_on line (record { station = k; side = Front }) sum is ≡ front_turns line k sum is
front_on line k sum [] = refl
front_on line k sum (i ∷ is) =
    ap (λ (t : List Turn). turn_of line (record { station = k; side = Front }) i sum ∷ t)
    (front_on line k (sum + time line i) is)

-- so do those at the back, from as long before the end of the cycle as they take together
pub back_on : (line : Line) (c k start : ℕ) (is : List ℕ) → start + times_of line is ≡ c
    → turns_on line (record { station = k; side = Back }) start is ≡ back_turns line c k is
back_on line c k start [] e = refl
back_on line c k start (i ∷ is) e =
    let begins : start ≡ c - times_of line is - time line i = omega (arith, e) in
    let rest = back_on line c k (start + time line i) is (omega (arith, e)) in
    ap (λ (t : List Turn). turn_of line (record { station = k; side = Back }) i start ∷ t) rest
    ∙ ap (λ n. turn_of line (record { station = k; side = Back }) i n ∷ back_turns line c k is) begins

-- one task more of those that are gone over
module _ (line : Line) (f : ℕ → Bool) where
  times_if : (b : Bool) (x : ℕ) (is : List ℕ) → times_of line (cond b (x ∷ is) is)
      ≡ cond b (time line x) 0 + times_of line is
  times_if true x is = refl
  times_if false x is = omega arith

  -- the times of those that are left
  pub times_left : (xs : List ℕ) (k x : ℕ) (there : Bool) → k < length xs → x ≡ get_or xs k 0 → there ≡ f x
      → times_of line (filter f (drop k xs)) ≡ cond there (time line x) 0
      + times_of line (filter f (drop (k + 1) xs))
  times_left xs k x there l is passes =
      let rest : List ℕ = filter f (drop (k + 1) xs) in
      let left : filter f (drop k xs) ≡ cond there (x ∷ rest) rest =
      ap (filter f) (drop_more xs k 0 l)
      ∙ ap (λ y. cond (f y) (y ∷ rest) rest) (sym is)
      ∙ ap (λ b. cond b (x ∷ rest) rest) (sym passes) in
      ap (times_of line) left ∙ times_if there x rest

-- both sides of a station, one behind the other
pub station_put : (line : Line) (names : List (List ℕ)) (c k start : ℕ) (fs bs : List ℕ) (old mid new : Sheet)
    → start + times_of line bs ≡ c
    → mid ≡ with_rows old (map (plan_record line names) (turns_on line (record { station = k; side = Front }) 0 fs))
    → new ≡ with_rows mid (map (plan_record line names) (turns_on line (record { station = k; side = Back }) start bs))
    → new ≡ with_rows old (map (plan_record line names) (front_turns line k 0 fs ++ back_turns line c k bs))
station_put line names c k start fs bs old mid new e front back =
    let record_of : Turn → List (List ℕ) = plan_record line names in
    let a : List Turn = front_turns line k 0 fs in
    let b : List Turn = back_turns line c k bs in
    back
    ∙ ap (λ s. with_rows s (map record_of (turns_on line (record { station = k; side = Back }) start bs))) front
    ∙ ap (λ (t : List Turn). with_rows (with_rows old
    (map record_of (turns_on line (record { station = k; side = Front }) 0 fs))) (map record_of t))
    (back_on line c k start bs e)
    ∙ ap (λ (t : List Turn). with_rows (with_rows old (map record_of t)) (map record_of b)) (front_on line k 0 fs)
    ∙ sym (rows_after old (map record_of a) (map record_of b))
    ∙ ap (with_rows old) (sym (map-append record_of a b))

-- one station more
pub station_turn : (line : Line) (names : List (List ℕ)) (c : ℕ) (places : List Seatplace) (k m n : ℕ)
    (old new whole : Sheet) → m ≡ suc n
    → new ≡ with_rows old (map (plan_record line names) (turns_at line c places k))
    → with_rows old (map (plan_record line names) (turns_from line c places k m)) ≡ whole
    → with_rows new (map (plan_record line names) (turns_from line c places (k + 1) n)) ≡ whole
station_turn line names c places k m n old new whole e put so_far =
    let record_of : Turn → List (List ℕ) = plan_record line names in
    let a : List Turn = turns_at line c places k in
    let b : List Turn = turns_from line c places (suc k) n in
    ap (λ s. with_rows s (map record_of (turns_from line c places (k + 1) n))) put
    ∙ ap (λ j. with_rows (with_rows old (map record_of a)) (map record_of (turns_from line c places j n))) (add-one k)
    ∙ sym (rows_after old (map record_of a) (map record_of b))
    ∙ ap (with_rows old) (sym (map-append record_of a b))
    ∙ sym (ap (λ j. with_rows old (map record_of (turns_from line c places k j))) e)
    ∙ so_far
