-- What is drawn makes a line: so many times within the limit, and arcs that lead on and so in no ring.
use Rattle.std.proofs.Common.{◌≡◌, ℕ, zero, suc, ◌+◌, ◌-◌, ◌/◌, ◌%◌, ◌<◌, ◌≤◌, Bool, true, false, cond, List, [], ◌∷◌}
use Rattle.std.proofs.Common.{◌++◌, length, get_or, refl, sym, ap, arith, inl, inr, length-append}
use Rattle.std.specs.Prelude.{nat_eq}
use Rattle.std.specs.List.{Contains}
use Rattle.std.proofs.lemmas.Nat.{mod_below}
use Rattle.std.proofs.lemmas.Bool.{cases_lt}
use Rattle.std.proofs.lemmas.List.{get_or_past}
use Rattle.std.proofs.lemmas.List.Elements.{Contains-push_cases, Contains-append_cases, Contains-get_or}
use Rattle.line_instance.specs.declared.arcs.Prec.{Prec}
use Rattle.line_instance.specs.Made.{AreTimes}
use Rattle.line_instance.specs.Walks.{AreArcs, arc_at, IsRing, at}
use Rattle.rand_core.specs.Pcg32Seed.{pcg32_seed}
use Rattle.rand_pcg.specs.Pcg.{pcg32_of_seed}
use Rattle.line_generator.specs.Drawn.{word, next, in_front, time_of, arc_of, times_of, arcs_of}

-- the turns of what is drawn
pub front_none : (seed : ℕ) → in_front seed 0 ≡ pcg32_of_seed (pcg32_seed 16 seed)
unfolding in_front
front_none seed = refl

pub front_first : (seed : ℕ) → in_front seed 1 ≡ next (in_front seed 0)
unfolding in_front
front_first seed = refl

pub front_more : (seed t : ℕ) → 0 < t → in_front seed (t + 1) ≡ next (next (in_front seed t))
unfolding in_front
front_more seed zero l = absurd (omega (arith, l))
front_more seed (suc t) l = let e : suc t + 1 ≡ suc (suc t) = omega arith in rw e refl

pub times_more : (seed t : ℕ) → times_of seed (t + 1) ≡ times_of seed t ++ time_of seed t ∷ []
unfolding times_of
times_more seed t = let e : t + 1 ≡ suc t = omega arith in rw e refl

pub times_first : (seed : ℕ) → times_of seed 1 ≡ time_of seed 0 ∷ []
unfolding times_of
times_first seed = refl

pub arcs_first : (seed : ℕ) → arcs_of seed 1 ≡ []
unfolding arcs_of
arcs_first seed = refl

pub arcs_more : (seed t : ℕ) → 0 < t → arcs_of seed (t + 1) ≡ arcs_of seed t ++ arc_of seed t
unfolding arcs_of
arcs_more seed zero l = absurd (omega (arith, l))
arcs_more seed (suc t) l = let e : suc t + 1 ≡ suc (suc t) = omega arith in rw e refl

-- the times
pub many_times : (seed n : ℕ) → length (times_of seed n) ≡ n
unfolding times_of
many_times seed zero = refl
many_times seed (suc n) = omega (arith, length-append (times_of seed n) (time_of seed n ∷ []), many_times seed n)

short : (seed n x : ℕ) → Contains (times_of seed n) x → x ≤ 100
unfolding times_of
short seed zero x (k, l, e) = omega (arith, l)
short seed (suc n) x m = elim (Contains-push_cases (times_of seed n) (time_of seed n) x m) [
  | inl before ↦ short seed n x before
  | inr e ↦ omega (arith, e)
]

pub are_times : (seed n : ℕ) → 1 ≤ n → n ≤ 1024 → AreTimes (times_of seed n)
are_times seed n some few = record {
  some = omega (arith, some, many_times seed n);
  few = omega (arith, few, many_times seed n);
  limit = λ i. elim (cases_lt i (length (times_of seed n))) [
    | inl l ↦ omega (arith, short seed n (get_or (times_of seed n) i 0) (Contains-get_or (times_of seed n) i 0 l))
    | inr g ↦ omega (arith, get_or_past (times_of seed n) i 0 g)
  ];
}

-- an arc to a task comes from an earlier one
one_on : (b : Bool) (v t : ℕ) (p : Prec) → 0 < t → Contains (cond b (record { first = v / 2 % t; «then» = t } ∷ []) [])
    p → (p.first < p.«then») × (p.«then» ≡ t)
one_on true v t p o (zero, l, e) =
    let f : v / 2 % t ≡ p.first = ap (λ (q : Prec). q.first) e in
    let s : t ≡ p.«then» = ap (λ (q : Prec). q.«then») e in
    (omega (arith, mod_below (v / 2) t o, f, s), sym s)
one_on true v t p o (suc k, l, e) = omega (arith, l)
one_on false v t p o (k, l, e) = omega (arith, l)

lead_on : (seed n : ℕ) (p : Prec) → Contains (arcs_of seed n) p → (p.first < p.«then») × (p.«then» < n)
unfolding arcs_of
lead_on seed zero p (k, l, e) = omega (arith, l)
lead_on seed (suc zero) p (k, l, e) = omega (arith, l)
lead_on seed (suc (suc n)) p m = elim (Contains-append_cases (arcs_of seed (suc n)) (arc_of seed (suc n)) p m) [
  | inl before ↦ (let h = lead_on seed (suc n) p before in (h.0, omega (arith, h.1)))
  | inr here ↦ (let v = word (next (in_front seed (suc n))) in
      let h = one_on (nat_eq (v % 2) 0) v (suc n) p (omega arith) here in (h.0, omega (arith, h.1)))
]

pub are_arcs : (seed n : ℕ) → AreArcs n (arcs_of seed n)
are_arcs seed n = λ k l.
    let h = lead_on seed n (arc_at (arcs_of seed n) k) (Contains-get_or (arcs_of seed n) k
    (record { first = 0; «then» = 0 }) l) in
    (omega (arith, h.0, h.1), h.1)

-- the last arc of a ring leads to its least task
pub no_ring : (seed n : ℕ) (ring : List ℕ) → IsRing (arcs_of seed n) ring → ⊥
no_ring seed n ring r =
    let last : ℕ = length ring - 1 in
    let some = r.some in
    let lead = lead_on seed n (record { first = at ring last; «then» = at ring 0 })
    (r.closes last (omega (arith, some))) in
    omega (arith, lead.0, r.least last (omega (arith, some)))
