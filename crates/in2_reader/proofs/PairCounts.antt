-- There are at most 524,288 covering pairs: with each one turned round, they are distinct pairs of tasks.
use Rattle.std.proofs.Common.{◌≡◌, ℕ, zero, suc, ◌+◌, ◌*◌, ◌<◌, ◌≤◌, false, List, [], ◌∷◌, length, get_or, refl, sym}
use Rattle.std.proofs.Common.{◌∙◌, subst, arith, inl, inr}
use Rattle.std.proofs.Math.Dec.{eqb}
use Rattle.std.proofs.lemmas.Bool.{cases_lt}
use Rattle.std.proofs.lemmas.Bool.Decides.{nat_tests}
use Rattle.std.proofs.lemmas.Map.Steps.{length-le_from_distinct_below}
use Rattle.std.specs.List.{IsDistinct, AllByRecursion}
use Rattle.line_instance.specs.declared.arcs.Prec.{Prec}
use Rattle.line_instance.specs.Line.{Line, IsLine, Before}
use Rattle.line_instance.specs.Walks.{arc_at}
use Rattle.in2_reader.specs.Written.{StandsBefore, AreCovers}
use Rattle.in2_reader.proofs.CollectedPairs.{first_task, last_task}
use Rattle.in2_reader.proofs.Acyclic.{any_below}

-- a number for each pair and for each turned round
codes : List Prec → List ℕ
codes [] = []
codes (a ∷ ps) = (a.first * 1024 + a.«then») ∷ (a.«then» * 1024 + a.first) ∷ codes ps

-- two different tasks
pub record AreTwo (x y : ℕ) : Type 0 where
  pub first : x < 1024
  pub last : y < 1024
  pub differ : x ≡ y → ⊥

-- the pair is neither x and y nor y and x
pub record IsOther (x y : ℕ) (a : Prec) : Type 0 where
  pub same : x ≡ a.first → y ≡ a.«then» → ⊥
  pub turned : x ≡ a.«then» → y ≡ a.first → ⊥

one_code : (x y a b : ℕ) → x < 1024 → y < 1024 → a < 1024 → b < 1024 → (x ≡ a → y ≡ b → ⊥)
    → eqb (x * 1024 + y) (a * 1024 + b) ≡ false
one_code x y a b h k l m n =
    let differ : x * 1024 + y ≡ a * 1024 + b → ⊥ = λ e. (let f : x ≡ a = omega arith in let s : y ≡ b = omega arith in
    n f s) in
    grind (arith, nat_tests)

not_among : (x y : ℕ) (ps : List Prec) → x < 1024 → y < 1024
    → ((k : ℕ) → k < length ps → AreTwo (arc_at ps k).first (arc_at ps k).«then»)
    → ((k : ℕ) → k < length ps → IsOther x y (arc_at ps k))
    → AllByRecursion (λ c. eqb (x * 1024 + y) c ≡ false) (codes ps)
unfolding codes
not_among x y [] h l two other = tt
not_among x y (a ∷ ps) h l two other =
    let t = two 0 (omega arith) in
    let o = other 0 (omega arith) in (
      one_code x y a.first a.«then» h l t.first t.last o.same,
      (
        one_code x y a.«then» a.first h l t.last t.first o.turned,
        not_among x y ps h l (λ k m. two (suc k) (omega arith)) (λ k m. other (suc k) (omega arith)),
      ),
    )

distinct : (ps : List Prec) → ((k : ℕ) → k < length ps → AreTwo (arc_at ps k).first (arc_at ps k).«then»)
    → ((k m : ℕ) → k < m → m < length ps → IsOther (arc_at ps k).first (arc_at ps k).«then» (arc_at ps m))
    → IsDistinct eqb (codes ps)
unfolding codes IsDistinct
distinct [] two other = tt
distinct (a ∷ ps) two other =
    let t = two 0 (omega arith) in
    let tail : (k : ℕ) → k < length ps → AreTwo (arc_at ps k).first (arc_at ps k).«then» =
    λ k l. two (suc k) (omega arith) in
    let turned : (k : ℕ) → k < length ps → IsOther a.«then» a.first (arc_at ps k) =
    λ k l. (let o = other 0 (suc k) (omega arith) (omega arith) in
    record { same = λ e f. o.turned f e; turned = λ e f. o.same f e }) in (
      (
        one_code a.first a.«then» a.«then» a.first t.first t.last t.last t.first (λ e f. t.differ e),
        not_among a.first a.«then» ps t.first t.last tail (λ k l. other 0 (suc k) (omega arith) (omega arith)),
      ),
      (
        not_among a.«then» a.first ps t.last t.first tail turned,
        distinct ps tail (λ k m l h. other (suc k) (suc m) (omega arith) (omega arith)),
      ),
    )

below : (ps : List Prec) → ((k : ℕ) → k < length ps → AreTwo (arc_at ps k).first (arc_at ps k).«then») → (k : ℕ)
    → k < length (codes ps) → get_or (codes ps) k 0 < 1048576
unfolding codes
below [] two k l = absurd (omega arith)
below (a ∷ ps) two zero l = let t = two 0 (omega arith) in omega (arith, t.first, t.last)
below (a ∷ ps) two (suc zero) l = let t = two 0 (omega arith) in omega (arith, t.first, t.last)
below (a ∷ ps) two (suc (suc k)) l = below ps (λ m h. two (suc m) (omega arith)) k (omega arith)

length-codes : (ps : List Prec) → length (codes ps) ≡ 2 * length ps
unfolding codes
length-codes [] = refl
length-codes (a ∷ ps) = omega (arith, length-codes ps)

far : (a b c : Prec) → StandsBefore a b → StandsBefore b c → StandsBefore a c
far a b c (inl l) (inl m) = inl (omega arith)
far a b c (inl l) (inr m) = inl (omega (arith, m.0))
far a b c (inr l) (inl m) = inl (omega (arith, l.0))
far a b c (inr l) (inr m) = inr (l.0 ∙ m.0, omega (arith, l.1, m.1))

rises_on : (ps : List Prec) → ((k : ℕ) → k + 1 < length ps → StandsBefore (arc_at ps k) (arc_at ps (k + 1))) → (k m : ℕ)
    → k < m → m < length ps → StandsBefore (arc_at ps k) (arc_at ps m)
rises_on ps r k zero l h = absurd (omega arith)
rises_on ps r k (suc m) l h =
    let P : ℕ → Type 0 = λ x. StandsBefore (arc_at ps m) (arc_at ps x) in
    let next : m + 1 ≡ suc m = omega arith in
    let step : StandsBefore (arc_at ps m) (arc_at ps (suc m)) = subst P next (r m (omega arith)) in
    elim (cases_lt k m) [
      | inl a ↦ far (arc_at ps k) (arc_at ps m) (arc_at ps (suc m)) (rises_on ps r k m a (omega arith)) step
      | inr a ↦ (let same : m ≡ k = omega arith in let Q : ℕ
          → Type 0 = λ x. StandsBefore (arc_at ps x) (arc_at ps (suc m)) in subst Q same step)
    ]

not_same : (a b : Prec) → StandsBefore a b → a.first ≡ b.first → a.«then» ≡ b.«then» → ⊥
not_same a b (inl l) e f = omega arith
not_same a b (inr l) e f = omega (arith, l.1)

pub few_covers : (line : Line) (ps : List Prec) → IsLine line → AreCovers line ps → length ps ≤ 524288
few_covers line ps s c =
    let before : (k : ℕ) → k < length ps → Before line (arc_at ps k).first (arc_at ps k).«then» =
    λ k l. (c.right k l).before in
    let two : (k : ℕ) → k < length ps → AreTwo (arc_at ps k).first (arc_at ps k).«then» = λ k l. record {
      first = omega (arith, s.small, first_task line (arc_at ps k).first (arc_at ps k).«then» s (before k l));
      last = omega (arith, s.small, last_task line (arc_at ps k).first (arc_at ps k).«then» s (before k l));
      differ = λ e. (let P : ℕ → Type 0 = λ x. Before line x (arc_at ps k).«then» in
          s.not_itself (arc_at ps k).«then» (subst P e (before k l)));
    } in
    let other : (k m : ℕ) → k < m → m < length ps → IsOther (arc_at ps k).first (arc_at ps k).«then» (arc_at ps m) =
    λ k m l h. record {
      same = not_same (arc_at ps k) (arc_at ps m) (rises_on ps c.rises k m l h);
      turned = λ e f. (let P : ℕ → Type 0 = λ x. Before line (arc_at ps k).first x in
          let Q : ℕ → Type 0 = λ x. Before line (arc_at ps m).first x in
          s.not_itself (arc_at ps k).first (s.leads_on (arc_at ps k).first (arc_at ps m).first (arc_at ps k).first
          (subst P f (before k (omega arith))) (subst Q (sym e) (before m h))));
    } in
    omega (
      arith,
      length-codes ps,
      length-le_from_distinct_below (codes ps) 1048576 (distinct ps two other)
          (any_below (codes ps) 1048576 (below ps two)),
    )
