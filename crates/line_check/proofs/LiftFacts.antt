-- The entries and frames of a part, lifted behind earlier entries: what follows in the part follows there.
use Rattle.std.proofs.Common.{◌≡◌, ℕ, zero, suc, ◌+◌, ◌-◌, ◌<◌, ◌≤◌, Bool, List, [], ◌∷◌, ◌++◌, length, map, take, refl}
use Rattle.std.proofs.Common.{sym, ap, ◌∙◌, subst, inl, inr, arith, Some}
use Rattle.std.specs.Prelude.{slice_get}
use Rattle.std.proofs.lemmas.Bool.{cases_lt}
use Rattle.std.proofs.lemmas.List.{map-append, length-map, take-append-le}
use Rattle.line_instance.specs.Line.{Line}
use Rattle.line_rules.specs.Accepted.{HasTrail}
use Rattle.line_rules.specs.Loads.{IsLoad, rest}
use Rattle.line_rules.specs.Bounds.{bound}
use Rattle.line_rules.specs.Balance.{all_tasks}
use Rattle.line_rules.specs.Order.{Precedes, UpTo, Counts}
use Rattle.line_rules.specs.Entries.{IsOpen, Cites, Covers, FollowsBy, Follows, IsDerived, HasAnswer}
use Rattle.line_rules.specs.Pairs.{IsRefutedByPairs}
use Rattle.line_rules.specs.Trails.{IsPassed, Leads, IsTrail}
use Rattle.line_rules.specs.Units.{UnitsBy, UnitsOf, UnitsIn}
use Rattle.line_rules.specs.declared.types.LineKind.{LineKind}
use Rattle.line_rules.specs.declared.types.Load.{Load}
use Rattle.line_rules.specs.declared.types.Ask.{Ask}
use Rattle.line_rules.specs.declared.types.Entry.{Entry}
use Rattle.line_rules.specs.declared.types.Why.{Why}
use Rattle.line_rules.specs.declared.types.Why.TheVariants as why
use Rattle.line_rules.specs.declared.types.OpenFrame.{OpenFrame}
use Rattle.entry_lists.specs.Lift.{raised, lifted_why, lifted_entry, lifted_frame, trail_at}
use Rattle.line_rules.proofs.ListFacts.{take_map, take_behind, get_front, get_behind, get_unmap, get_map}

get_take : {X : Type 0} (xs : List X) (j k : ℕ) (x : X) → slice_get (take j xs) k ≡ Some x → slice_get xs k ≡ Some x
get_take xs zero k x e = absurd (cc)
get_take [] (suc j) k x e = absurd (cc)
get_take (y ∷ xs) (suc j) zero x e = e
get_take (y ∷ xs) (suc j) (suc k) x e = get_take xs j k x e

-- all entries are at the cycle
abbrev pub AreAt : ℕ → List Entry → Type 0
AreAt c es = (k : ℕ) (e : Entry) → slice_get es k ≡ Some e → e.cycle ≡ c

at_taken : (c : ℕ) (es : List Entry) (j : ℕ) → AreAt c es → AreAt c (take j es)
at_taken c es j at k e h = at k e (get_take es j k e h)

-- entries, lifted behind earlier ones
abbrev pub behind : List Entry → ℕ → List Entry → List Entry
behind pre c es = pre ++ map (lifted_entry c (length pre)) es

module _ (kind : LineKind) (line : Line) (pre : List Entry) (c : ℕ) where
  abbrev up : Entry → Entry
  up e = lifted_entry c (length pre) e

  up_there : (es : List Entry) (k : ℕ) (e : Entry) → slice_get es k ≡ Some e
      → slice_get (behind pre c es) (k + length pre) ≡ Some (up e)
  up_there es k e h = get_behind pre (map up es) k ∙ get_map up es k e h

  cites_up : (es : List Entry) → AreAt c es → (cite : ℕ) (T : List Bool) (r d : ℕ) → Cites es cite T r d
      → Cites (behind pre c es) (cite + length pre) T r d
  cites_up es at cite T r d h = record {
    entry = up h.entry;
    there = up_there es cite h.entry h.there;
    part = h.part;
    stations = h.stations;
    cycle = subst (λ z. d ≤ z) (at cite h.entry h.there) h.cycle;
  }

  pub covers_up : (es : List Entry) → AreAt c es → (P : Load → Type 0) (R : List Bool) (most d : ℕ) (cites : List ℕ)
      → Covers line P es R most d cites → Covers line P (behind pre c es) R most d (raised (length pre) cites)
  covers_up es at P R most d cites h = record {
    loads = h.loads;
    listed = h.listed;
    as_many = length-map cites (λ cite. cite + length pre) ∙ h.as_many;
    cited = λ p cite l a b. (
        let x : (n : ℕ) × (slice_get cites p ≡ Some n) × (cite ≡ n + length pre) =
        get_unmap (λ n. n + length pre) cites p cite a in
        let Q : ℕ → Type 0 = λ z. Cites (behind pre c es) z (rest R l) (most - 1) d in
        subst Q (sym x.2) (cites_up es at x.0 (rest R l) (most - 1) d (h.cited p x.0 l x.1 b)));
  }

  by_up : (es : List Entry) → AreAt c es → (e : Entry) → e.cycle ≡ c → (w : Why) → FollowsBy kind line es e w
      → FollowsBy kind line (behind pre c es) (up e) (lifted_why (length pre) w)
  by_up es at e s why.Bound f = (let P : ℕ → Type 0 = λ z. e.most < bound kind line z e.set in subst P s f)
  by_up es at e s (why.Branch mode cites) f = record {
    some = f.some;
    stations = f.stations;
    belongs = f.belongs;
    covers =
        let P : ℕ → Type 0 = λ z. Covers line (IsOpen kind line z mode e.set e.most) (behind pre c es) e.set e.most z
        (raised (length pre) cites) in
        subst P s (covers_up es at (IsOpen kind line e.cycle mode e.set e.most) e.set e.most e.cycle cites f.covers);
  }
  by_up es at e s (why.Swap cite out into) f = record {
    entry = up f.entry;
    there = up_there es cite f.entry f.there;
    stations = f.stations;
    cycle = omega arith;
    out_in = f.out_in;
    task = f.task;
    into_out = f.into_out;
    set = f.set;
    time = f.time;
    before = f.before;
    after = f.after;
    apart = f.apart;
  }
  by_up es at e s (why.Pairs two) f =
      (let P : ℕ → Type 0 = λ z. IsRefutedByPairs kind line z e.set e.most two in subst P s f)

  follows_up : (es : List Entry) → AreAt c es → (e : Entry) → e.cycle ≡ c → Follows kind line es e
      → Follows kind line (behind pre c es) (up e)
  follows_up es at e s f = record { set = f.set; cycle = subst (λ z. 1 ≤ z) s f.cycle; by = by_up es at e s e.why f.by }

  -- the entries of a derived part are derived behind derived entries
  pub derived_up : (es : List Entry) → AreAt c es → IsDerived kind line pre → IsDerived kind line es
      → IsDerived kind line (behind pre c es)
  derived_up es at before d k e h = elim (cases_lt k (length pre)) [
    | inl under ↦
        let P : List Entry → Type 0 = λ l. Follows kind line l e in
        subst P (sym (take-append-le k pre (map up es) (omega (arith, under))))
        (before k e (sym (get_front pre (map up es) k under) ∙ h))
    | inr over ↦
        let j : ℕ = k - length pre in
        let s : j + length pre ≡ k = omega (arith, over) in
        let there : slice_get (map up es) j ≡ Some e = sym (get_behind pre (map up es) j)
        ∙ (ap (λ n. slice_get (behind pre c es) n) s ∙ h) in
        let x : (y : Entry) × (slice_get es j ≡ Some y) × (e ≡ up y) = get_unmap up es j e there in
        let front : take k (behind pre c es) ≡ behind pre c (take j es) =
        ap (λ n. take n (behind pre c es)) (sym s) ∙ (take_behind pre (map up es) j
        ∙ ap (λ l. pre ++ l) (take_map up es j)) in
        let P : List Entry → Type 0 = λ l. Follows kind line l e in
        let Q : Entry → Type 0 = λ z. Follows kind line (behind pre c (take j es)) z in
        subst P (sym front) (subst Q (sym x.2) (follows_up (take j es) (at_taken c es j at) x.0 (at j x.0 x.1)
        (d j x.0 x.1)))
  ]

  -- an entry that answers, does so when it is lifted
  pub answer_up : (es : List Entry) → AreAt c es → (set : List Bool) (most d : ℕ) → HasAnswer es set most d
      → HasAnswer (behind pre c es) set most d
  answer_up es at set most d h = (
    h.0 + length pre,
    up h.1,
    (
      up_there es h.0 h.1 h.2.0,
      record {
        same = h.2.1.same;
        stations = h.2.1.stations;
        long = subst (λ z. d ≤ z) (at h.0 h.1 h.2.0) h.2.1.long;
      },
    ),
  )

  -- frames
  abbrev pub low : OpenFrame → OpenFrame
  low f = lifted_frame (length pre) f

  passed_up : (X : ℕ) (es : List Entry) → AreAt c es → (f : OpenFrame) (l : Load) → IsPassed kind line X es f l
      → IsPassed kind line X (behind pre c es) (low f) l
  passed_up X es at f l h = record {
    belongs = h.belongs;
    stations = h.stations;
    last = h.last;
    load = h.load;
    full = h.full;
    covers = covers_up es at (λ k. IsOpen kind line X f.mode f.set f.most k × Precedes line k l) f.set f.most X f.cites
        h.covers;
  }

  leads_up : (X : ℕ) (es : List Entry) → AreAt c es → (R : List Bool) (most : ℕ) (fs : List OpenFrame) (R' : List Bool)
      (most' : ℕ) → Leads kind line X es R most fs R' most'
      → Leads kind line X (behind pre c es) R most (map low fs) R' most'
  leads_up X es at R most [] R' most' h = h
  leads_up X es at R most (f ∷ fs) R' most' h = (
    h.0,
    (
      h.1.0,
      h.1.1,
      passed_up X es at f h.0 h.1.2,
      leads_up X es at (rest f.set h.0) (f.most - 1) fs R' most' h.1.3,
    ),
  )

  trail_up : (X : ℕ) (es : List Entry) → AreAt c es → (R : List Bool) (most : ℕ) (fs : List OpenFrame)
      → IsTrail kind line X es R most fs → IsTrail kind line X (behind pre c es) R most (map low fs)
  trail_up X es at R most fs h = record {
    passed = map low h.passed;
    deepest = low h.deepest;
    all = ap (map low) h.all ∙ map-append low h.passed (h.deepest ∷ []);
    leads = leads_up X es at R most h.passed h.deepest.set h.deepest.most h.leads;
    deep = record {
      belongs = h.deep.belongs;
      last = h.deep.last;
      covers = covers_up es at (λ k. IsOpen kind line X h.deepest.mode h.deepest.set h.deepest.most k
          × UpTo line h.deepest.last k) h.deepest.set h.deepest.most X h.deepest.cites h.deep.covers;
    };
  }

  -- the trail of a part, where there is one, is valid over the lifted entries
  pub has_trail_up : (a : Ask) (lower upper : ℕ) (es : List Entry) → AreAt c es → (fs : List OpenFrame)
      → HasTrail kind line a lower upper es (trail_at c fs)
      → HasTrail kind line a lower upper (behind pre c es) (trail_at c (map low fs))
  has_trail_up a lower upper es at [] h = h
  has_trail_up a lower upper es at (f ∷ fs) h = (h.0, h.1, trail_up c es at (all_tasks line) h.0 (f ∷ fs) h.2)

-- units stay, whatever the cites are raised by
module _ (line : Line) (c n : ℕ) where
  units_by_same : (e : Entry) → e.cycle ≡ c → (w : Why) (u : ℕ) → UnitsBy line e w u
      → UnitsBy line (lifted_entry c n e) (lifted_why n w) u
  units_by_same e s why.Bound u h = h
  units_by_same e s (why.Branch mode cites) u h = (let P : ℕ → Type 0 = λ z. Counts line (IsLoad line z mode e.set) u in
      subst P s h)
  units_by_same e s (why.Swap cite out into) u h = h
  units_by_same e s (why.Pairs two) u h = h

  pub units_same : (es : List Entry) → AreAt c es → (u : ℕ) → UnitsOf line es u
      → UnitsOf line (map (lifted_entry c n) es) u
  units_same [] at u h = h
  units_same (e ∷ es) at u h = (
    h.0,
    h.1,
    (
      units_by_same e (at 0 e refl) e.why h.0 h.2.0,
      units_same es (λ k x g. at (suc k) x g) h.1 h.2.1,
      h.2.2,
    ),
  )

  pub frames_same : (fs : List OpenFrame) (u : ℕ) → UnitsIn line c fs u → UnitsIn line c (map (lifted_frame n) fs) u
  frames_same [] u h = h
  frames_same (f ∷ fs) u h = (h.0, h.1, (h.2.0, frames_same fs h.1 h.2.1, h.2.2))
