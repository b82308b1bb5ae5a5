-- The parts of an instance make one: what walks lead to, ranks that rise along them, and the rank as its definition.
use Rattle.std.proofs.Common.{◌≡◌, ℕ, zero, suc, ◌+◌, ◌<◌, ◌≤◌, Bool, false, List, [], length, get_or, refl, sym, ap}
use Rattle.std.proofs.Common.{◌∙◌, subst, ◌⊎◌, inl, inr, arith}
use Rattle.std.proofs.lemmas.List.{get_or_past}
use Rattle.std.proofs.lemmas.Bool.{cases_lt, false≢true}
use Rattle.line_instance.specs.Truths.{In}
use Rattle.line_instance.specs.Line.{Line, IsLine, IsRanked, IsTaskSet}
use Rattle.line_instance.specs.Walks.{Leads, Walk, arc, on, IsRow, IsRing, IsRingOf, ArePairs, at, AreArcs}
use Rattle.line_instance.specs.Ranks.{AreRanks}
use Rattle.line_instance.specs.Made.{AreTimes, IsInstanceOf}
use Rattle.line_instance.specs.inner.Inside.{AreDirect, IsJoined, AreJoined, IsWhole, StandsBelow, LeadsIn, IsSound}
use Rattle.line_instance.specs.inner.Inside.{AreEmpty, AreRows, AreTurned, AreRanksOf, ArePartners, ArePaired, of_rows}
use Rattle.line_instance.proofs.MarkedRows.{both_ways, of_two}
use Rattle.line_instance.specs.declared.partners.Kept.{Kept}
use Rattle.line_instance.proofs.KeptPartners.{partners_along}
use Rattle.line_instance.specs.declared.arcs.Prec.{Prec}

-- a walk after a walk
pub walk_on : (arcs : List Prec) {i j k : ℕ} → Walk arcs i j → Walk arcs j k → Walk arcs i k
walk_on arcs v (arc l) = on v l
walk_on arcs v (on w l) = on (walk_on arcs v w) l

module _ (n : ℕ) (arcs : List Prec) (direct : List (List Bool)) (order : List ℕ) (before : List (List Bool))
    (d : AreDirect n arcs direct) (o : IsWhole direct order) (b : AreJoined direct before) where
  task_of : (k : ℕ) → k < length order → at order k < n
  task_of k l = omega (arith, o.order_is.small k l, d.sets.many)

  -- what a walk leads from has a lower rank
  lower : {i j : ℕ} → Walk arcs i j → (k : ℕ) → k < length order → at order k ≡ j → StandsBelow order k i
  lower {i} {j} (arc l) k h e =
      let P : ℕ → Type 0 = λ x. LeadsIn direct i x in
      o.order_is.ready k i h (subst P (sym e) (d.there i j l))
  lower {i} {j} (on {j = mid} w l) k h e =
      let P : ℕ → Type 0 = λ x. LeadsIn direct mid x in
      let near : StandsBelow order k mid = o.order_is.ready k mid h (subst P (sym e) (d.there mid j l)) in
      let far : StandsBelow order near.0 i = lower w near.0 (omega (arith, near.1)) near.2 in
      (far.0, omega (arith, far.1, near.1), far.2)

  rows : (t : ℕ) → t < n → IsJoined (get_or direct t []) before (get_or before t [])
  rows t l = b.joined t (omega (arith, d.sets.many))

  all : {i t : ℕ} → Walk arcs i t → In (get_or before t []) i
  all {i} {t} (arc l) = let m : LeadsIn direct i t = d.there i t l in
      (rows t (d.sets.tasks i t m).1).all i i m (inl refl)
  all {i} {t} (on {j = j} w l) = let m : LeadsIn direct j t = d.there j t l in
      (rows t (d.sets.tasks j t m).1).all i j m (inr (all w))

  walks : (k t : ℕ) → k ≤ length order → StandsBelow order k t → (i : ℕ) → In (get_or before t []) i → Walk arcs i t
  walks zero t l s i m = absurd (omega (arith, s.1))
  walks (suc k) t l s i m =
      let task : t < n = omega (arith, s.1, s.2, task_of s.0 (omega (arith, s.1))) in
      let f : (j : ℕ) × LeadsIn direct j t × ((i ≡ j) ⊎ In (get_or before j []) i) = (rows t task).from i m in
      let last : Leads arcs f.0 t = d.only f.0 t f.1 in
      elim f.2 [
        | inl e ↦ (let P : ℕ → Type 0 = λ x. Walk arcs x t in subst P (sym e) (arc last))
        | inr v ↦ (let P : ℕ → Type 0 = λ x. LeadsIn direct f.0 x in
            let near : StandsBelow order s.0 f.0 = o.order_is.ready s.0 f.0 (omega (arith, s.1))
            (subst P (sym s.2) f.1) in
            on (walks k f.0 (omega arith) (near.0, omega (arith, near.1, s.1), near.2) i v) last)
      ]

  stands : (t : ℕ) → t < n → StandsBelow order (length order) t
  stands t l = o.stands t (omega (arith, d.sets.many))

  pub row : (t : ℕ) → t < n → IsRow arcs (get_or before t []) t
  row t l = record { walks = walks (length order) t (omega arith) (stands t l); all = λ i w. all w }

  in_rows : (i t : ℕ) → In (get_or before t []) i → t < n
  in_rows i t m = elim (cases_lt t n) [
    | inl l ↦ l
    | inr g ↦ absurd (false≢true (sym (ap (λ r. get_or r i false)
        (get_or_past before t [] (omega (arith, b.many, d.sets.many)))) ∙ m))
  ]

  walk_of : (i t : ℕ) → In (get_or before t []) i → Walk arcs i t
  walk_of i t m = (row t (in_rows i t m)).walks i m

  first_task : {i t : ℕ} → Walk arcs i t → i < n
  first_task {i} {t} (arc l) = (d.sets.tasks i t (d.there i t l)).0
  first_task (on w l) = first_task w

  pub before_rows : AreRows (length before) before
  before_rows = record {
    many = refl;
    truths = λ t l. (rows t (omega (arith, b.many, d.sets.many))).truths;
    tasks = λ i t m. (
      omega (arith, b.many, d.sets.many, first_task (walk_of i t m)),
      omega (arith, b.many, d.sets.many, in_rows i t m),
    );
  }

  module _ (times : List ℕ) (apart : List (List Bool)) (many : length times ≡ n) (right : AreTimes times)
      (none : AreEmpty n apart) where
    abbrev pub line : Line
    line = record { times = times; before = before; apart = apart; order = order }

    sets : (t : ℕ) → t < n → IsTaskSet line (get_or before t [])
    sets t l = record { truths = (rows t l).truths; tasks = λ i m. omega (arith, many, first_task (walk_of i t m)) }

    ranked : IsRanked line
    ranked = record {
      many = omega (arith, o.many, d.sets.many, many);
      task = λ k l. omega (arith, many, task_of k (omega (arith, o.many, d.sets.many, many)));
      rank = λ i l. let s : StandsBelow order (length order) i = stands i (omega (arith, many)) in
          (s.0, omega (arith, s.1, o.many, d.sets.many, many), s.2);
      once = λ k m l h e. o.order_is.once k m (omega (arith, o.many, d.sets.many, many))
          (omega (arith, o.many, d.sets.many, many)) e;
      rises = λ k m l h w.
          let s : StandsBelow order m (at order k) = lower (walk_of (at order k) (at order m) w) m
          (omega (arith, o.many, d.sets.many, many)) refl in
          omega (
            arith,
            s.1,
            o.order_is.once s.0 k (omega (arith, s.1, o.many, d.sets.many, many))
                (omega (arith, o.many, d.sets.many, many)) s.2,
          );
    }

    not_itself : (i : ℕ) → In (get_or before i []) i → ⊥
    not_itself i m =
        let s : StandsBelow order (length order) i = stands i (in_rows i i m) in
        let p : StandsBelow order s.0 i = lower (walk_of i i m) s.0 s.1 s.2 in
        omega (arith, p.1, o.order_is.once p.0 s.0 (omega (arith, p.1, s.1)) s.1 (p.2 ∙ sym s.2))

    line_is : IsLine line
    line_is = record {
      some = right.some;
      small = right.few;
      times = right.limit;
      before_rows = omega (arith, b.many, d.sets.many, many);
      before = λ j l. sets j (omega (arith, many));
      leads_on = λ i j k v w. all (walk_on arcs (walk_of i j v) (walk_of j k w));
      not_itself = not_itself;
      apart_rows = omega (arith, none.sets.many, many);
      apart = λ j l. record {
        truths = none.sets.truths j (omega (arith, many));
        tasks = λ i m. absurd (none.none i j m);
      };
      both_ways = λ i j m. absurd (none.none i j m);
      of_two = λ i m. absurd (none.none i i m);
    }

    ranks : AreRanks line
    ranks = record {
      many = omega (arith, o.many, d.sets.many, many);
      free = λ k l. record {
        task = omega (arith, many, task_of k (omega (arith, o.many, d.sets.many, many)));
        new = λ p. omega (
          arith,
          p.1,
          o.order_is.once p.0 k (omega (arith, p.1, o.many, d.sets.many, many))
              (omega (arith, o.many, d.sets.many, many)) p.2,
        );
        ready = λ i m. lower (walk_of i (at order k) m) k (omega (arith, o.many, d.sets.many, many)) refl;
      };
      least = λ k t l f. o.order_is.least k t (omega (arith, o.many, d.sets.many, many))
          (omega (arith, f.task, d.sets.many, many)) f.new (λ i m. f.ready i (all (arc (d.only i t m))));
    }

    pub sound : (after : List (List Bool)) (places : List ℕ) (partners : List Kept) → AreTurned before after
        → AreRanksOf order places → ArePartners (of_rows times before apart) partners
        → IsSound after places partners line
    sound after places partners t r p = record {
      line_is = line_is;
      ranked = ranked;
      turned = t;
      rank_is = r;
      partners_are = partners_along line partners p;
    }

    pub instance_is : AreArcs (length times) arcs → IsInstanceOf times arcs line
    instance_is named = record {
      right = right;
      named = named;
      times = refl;
      before = λ t l. row t (omega (arith, many));
      apart = λ i j m. none.none i j m;
      ranks = ranks;
      line_is = line_is;
    }

-- a ring of direct rows is a ring of arcs
pub arcs_ring : (n : ℕ) (arcs : List Prec) (direct : List (List Bool)) (ring : List ℕ) → AreDirect n arcs direct
    → IsRingOf (LeadsIn direct) ring → IsRing arcs ring
arcs_ring n arcs direct ring d r = record {
  some = r.some;
  leads = λ k l. d.only (at ring k) (at ring (k + 1)) (r.leads k l);
  closes = λ k l. d.only (at ring k) (at ring 0) (r.closes k l);
  once = r.once;
  least = r.least;
}

-- other pairs are apart
pub parted : (after : List (List Bool)) (places : List ℕ) (old partners : List Kept) (times : List ℕ)
    (before apart new : List (List Bool)) (order : List ℕ) (pairs : List Prec) → ArePairs (length times) pairs
    → IsSound after places old (record { times = times; before = before; apart = apart; order = order })
    → ArePaired (length times) pairs new → ArePartners (of_rows times before new) partners
    → IsSound after places partners (record { times = times; before = before; apart = new; order = order })
parted after places old partners times before apart new order pairs h s p k = record {
  line_is = record {
    some = s.line_is.some;
    small = s.line_is.small;
    times = s.line_is.times;
    before_rows = s.line_is.before_rows;
    before = λ j l. let b = s.line_is.before j l in record { truths = b.truths; tasks = b.tasks };
    leads_on = s.line_is.leads_on;
    not_itself = s.line_is.not_itself;
    apart_rows = p.sets.many;
    apart = λ j l. record { truths = p.sets.truths j l; tasks = λ i m. (p.sets.tasks i j m).0 };
    both_ways = λ i j m. both_ways (length times) pairs new p i j m;
    of_two = λ i m. of_two (length times) pairs new h p i m;
  };
  ranked = record {
    many = s.ranked.many;
    task = s.ranked.task;
    rank = s.ranked.rank;
    once = s.ranked.once;
    rises = s.ranked.rises;
  };
  turned = s.turned;
  rank_is = s.rank_is;
  partners_are = partners_along (record { times = times; before = before; apart = new; order = order }) partners k;
}
