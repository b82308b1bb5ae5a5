-- When listed tasks are done, by their places in the lists.
use Rattle.std.proofs.Common.{◌≡◌, ℕ, zero, suc, ◌+◌, ◌-◌, ◌<◌, ◌≤◌, List, [], ◌∷◌, length, take, drop}
use Rattle.std.proofs.Common.{Some, refl, sym, ap, ◌∙◌, subst, arith, add-one}
use Rattle.std.specs.Prelude.{slice_get}
use Rattle.std.proofs.lemmas.Option.{same_Some}
use Rattle.line_instance.specs.Line.{Line, time}
use Rattle.line_rules.specs.declared.types.Side.TheVariants.{Front, Back}
use Rattle.line_drawing.specs.Segments.{times_of}
use Rattle.balance_plan.specs.Plan.{Turn, back_turns, front_turns}

module _ (line : Line) where
  times_split : (is : List ℕ) (p : ℕ) → times_of line (take p is) + times_of line (drop p is) ≡ times_of line is
  times_split [] zero = omega arith
  times_split [] (suc p) = omega arith
  times_split (i ∷ is) zero = omega arith
  times_split (i ∷ is) (suc p) = omega (arith, times_split is p)

  times_take : (is : List ℕ) (p q : ℕ) → p ≤ q → times_of line (take p is) ≤ times_of line (take q is)
  times_take [] zero q h = omega arith
  times_take [] (suc p) zero h = omega arith
  times_take [] (suc p) (suc q) h = omega arith
  times_take (i ∷ is) zero q h = omega arith
  times_take (i ∷ is) (suc p) zero h = absurd (omega arith)
  times_take (i ∷ is) (suc p) (suc q) h = omega (arith, times_take is p q (omega (arith, h)))

  times_drop : (is : List ℕ) (p q : ℕ) → p ≤ q → times_of line (drop q is) ≤ times_of line (drop p is)
  times_drop is p q h = omega (arith, times_split is p, times_split is q, times_take is p q h)

none_left : (line : Line) (is : List ℕ) (n : ℕ) → length is ≤ n → times_of line (drop n is) ≡ 0
none_left line [] zero l = refl
none_left line [] (suc n) l = refl
none_left line (i ∷ is) zero l = absurd (omega arith)
none_left line (i ∷ is) (suc n) l = none_left line is n (omega (arith, l))

module _ (line : Line) (k : ℕ) where
  -- the turn at place p of tasks in front, behind tasks of a sum
  pub record IsFrontAt (sum : ℕ) (is : List ℕ) (p : ℕ) (t : Turn) : Type 0 where
    pub task : slice_get is p ≡ Some t.task
    pub station : t.station ≡ k
    pub side : t.side ≡ Front
    pub start : t.start ≡ sum + times_of line (take p is)
    pub finish : t.finish ≡ sum + times_of line (take (suc p) is)
    pub lasts : t.finish ≡ t.start + time line t.task

  pub front_at : (sum : ℕ) (is : List ℕ) (p : ℕ) (t : Turn) → slice_get (front_turns line k sum is) p ≡ Some t
      → IsFrontAt sum is p t
  front_at sum [] p t e = absurd (cc)
  front_at sum (i ∷ is) zero t e =
      subst (λ r. IsFrontAt sum (i ∷ is) zero r) (same_Some _ t e)
      (record {
        task = refl;
        station = refl;
        side = refl;
        start = omega arith;
        finish = omega arith;
        lasts = refl;
      })
  front_at sum (i ∷ is) (suc p) t e =
      let h = front_at (sum + time line i) is p t e in
      record {
        task = h.task;
        station = h.station;
        side = h.side;
        start = omega (arith, h.start);
        finish = omega (arith, h.finish);
        lasts = h.lasts;
      }

  pub front_has : (sum : ℕ) (is : List ℕ) (p i : ℕ) → slice_get is p ≡ Some i
      → (t : Turn) × ((slice_get (front_turns line k sum is) p ≡ Some t) × (t.task ≡ i))
  front_has sum [] p i e = absurd (cc)
  front_has sum (j ∷ is) zero i e = (_, (refl, same_Some j i e))
  front_has sum (j ∷ is) (suc p) i e = front_has (sum + time line j) is p i e

  pub length-fronts : (sum : ℕ) (is : List ℕ) → length (front_turns line k sum is) ≡ length is
  length-fronts sum [] = refl
  length-fronts sum (i ∷ is) = ap suc (length-fronts (sum + time line i) is)

module _ (line : Line) (c k : ℕ) where
  -- the turn at place p of tasks at the back
  pub record IsBackAt (is : List ℕ) (p : ℕ) (t : Turn) : Type 0 where
    pub task : slice_get is p ≡ Some t.task
    pub station : t.station ≡ k
    pub side : t.side ≡ Back
    pub start : t.start ≡ c - times_of line (drop (suc p) is) - time line t.task
    pub lasts : t.finish ≡ t.start + time line t.task
    pub both : times_of line (drop p is) ≡ time line t.task + times_of line (drop (suc p) is)

  pub back_at : (is : List ℕ) (p : ℕ) (t : Turn) → slice_get (back_turns line c k is) p ≡ Some t → IsBackAt is p t
  back_at [] p t e = absurd (cc)
  back_at (i ∷ is) zero t e =
      subst (λ r. IsBackAt (i ∷ is) zero r) (same_Some _ t e)
      (record {
        task = refl;
        station = refl;
        side = refl;
        start = refl;
        lasts = refl;
        both = refl;
      })
  back_at (i ∷ is) (suc p) t e =
      let h = back_at is p t e in
      record {
        task = h.task;
        station = h.station;
        side = h.side;
        start = h.start;
        lasts = h.lasts;
        both = h.both;
      }

  pub back_has : (is : List ℕ) (p i : ℕ) → slice_get is p ≡ Some i
      → (t : Turn) × ((slice_get (back_turns line c k is) p ≡ Some t) × (t.task ≡ i))
  back_has [] p i e = absurd (cc)
  back_has (j ∷ is) zero i e = (_, (refl, same_Some j i e))
  back_has (j ∷ is) (suc p) i e = back_has is p i e

  pub length-backs : (is : List ℕ) → length (back_turns line c k is) ≡ length is
  length-backs [] = refl
  length-backs (i ∷ is) = ap suc (length-backs is)

  module _ (fs bs : List ℕ) (fit : times_of line fs + times_of line bs ≤ c) where
    pub front_to : (p : ℕ) (t : Turn) → IsFrontAt line k 0 fs p t → t.finish ≤ times_of line fs
    front_to p t h = omega (arith, h.finish, times_split line fs (suc p))

    -- a turn at the back begins and ends as long before the end of the cycle as what is left takes
    back_start : (p : ℕ) (t : Turn) → IsBackAt bs p t → t.start + times_of line (drop p bs) ≡ c
    back_start p t h = omega (arith, h.start, h.both, times_split line bs p, fit)

    back_finish : (p : ℕ) (t : Turn) → IsBackAt bs p t → t.finish + times_of line (drop (suc p) bs) ≡ c
    back_finish p t h = omega (arith, h.lasts, h.both, back_start p t h)

    pub front_within : (p : ℕ) (t : Turn) → IsFrontAt line k 0 fs p t → t.finish ≤ c
    front_within p t h = omega (arith, front_to p t h, fit)

    pub back_within : (p : ℕ) (t : Turn) → IsBackAt bs p t → t.finish ≤ c
    back_within p t h = omega (arith, back_finish p t h)

    -- a turn ends where, or before, one further on begins
    pub front_clear : (p q : ℕ) (s t : Turn) → IsFrontAt line k 0 fs p s → IsFrontAt line k 0 fs q t → p < q
        → s.finish ≤ t.start
    front_clear p q s t h g l =
        omega (arith, h.finish, g.start, times_take line fs (suc p) q (omega (arith, l)))

    pub back_clear : (p q : ℕ) (s t : Turn) → IsBackAt bs p s → IsBackAt bs q t → p < q → s.finish ≤ t.start
    back_clear p q s t h g l =
        omega (arith, back_finish p s h, back_start q t g, times_drop line bs (suc p) q (omega (arith, l)))

    pub both_clear : (p q : ℕ) (s t : Turn) → IsFrontAt line k 0 fs p s → IsBackAt bs q t → s.finish ≤ t.start
    both_clear p q s t h g =
        omega (arith, front_to p s h, back_start q t g, times_split line bs q, fit)

    pub front_meet : (p : ℕ) (s t : Turn) → IsFrontAt line k 0 fs p s → IsFrontAt line k 0 fs (p + 1) t
        → s.finish ≡ t.start
    front_meet p s t h g =
        h.finish ∙ ap (λ n. 0 + times_of line (take n fs)) (sym (add-one p)) ∙ sym g.start

    pub back_meet : (p : ℕ) (s t : Turn) → IsBackAt bs p s → IsBackAt bs (p + 1) t → s.finish ≡ t.start
    back_meet p s t h g =
        let same : times_of line (drop (p + 1) bs) ≡ times_of line (drop (suc p) bs) =
        ap (λ n. times_of line (drop n bs)) (add-one p) in
        omega (arith, back_finish p s h, back_start (p + 1) t g, same)

    pub front_first : (t : Turn) → IsFrontAt line k 0 fs 0 t → t.start ≡ 0
    front_first t h = omega (arith, h.start)

    pub back_last : (p : ℕ) (s : Turn) → IsBackAt bs p s → p + 1 ≡ length bs → s.finish ≡ c
    back_last p s h e = omega (arith, back_finish p s h, none_left line bs (suc p) (omega (arith, e)))
