-- Entries behind those of an earlier list: what follows in their list follows there, with cites raised.
use Rattle.std.proofs.Common.{◌≡◌, ℕ, suc, ◌+◌, ◌-◌, ◌<◌, ◌⊎◌, Bool, true, false, List, [], ◌∷◌, ◌++◌}
use Rattle.std.proofs.Common.{length, map, take, drop, refl, sym, ap, ◌∙◌, subst, inl, inr, arith, Some}
use Rattle.std.proofs.Common.{length-append, get_or}
use Rattle.std.specs.Prelude.{slice_get, nat_eq}
use Rattle.std.proofs.lemmas.Option.{slice_get-get_or}
use Rattle.std.proofs.lemmas.Bool.{cases_lt, cases_Bool, eqb-true}
use Rattle.std.proofs.lemmas.List.{map-append, length-map, take-append-le, drop-map}
use Rattle.std.proofs.Math.Seq.{drop-append-add}
use Rattle.line_instance.specs.Line.{Line}
use Rattle.line_rules.specs.Loads.{IsLoad, rest}
use Rattle.line_rules.specs.Order.{Precedes, UpTo, After}
use Rattle.line_rules.specs.Entries.{IsOpen, Cites, Covers, FollowsBy, Follows, IsDerived, IsFresh, IsFreshAt}
use Rattle.line_rules.specs.Entries.{HasAnswer}
use Rattle.line_rules.specs.Ranges.{AreCites, IsWhy}
use Rattle.line_rules.specs.Trails.{IsPassed, Leads, IsTrail, IsOpenOver}
use Rattle.line_rules.specs.Units.{UnitsBy, UnitsOf, UnitsIn, entries_at}
use Rattle.line_rules.specs.declared.types.LineKind.{LineKind}
use Rattle.line_rules.specs.declared.types.Load.{Load}
use Rattle.line_rules.specs.declared.types.Entry.{Entry}
use Rattle.line_rules.specs.declared.types.Why.{Why}
use Rattle.line_rules.specs.declared.types.Why.TheVariants as why
use Rattle.line_rules.specs.declared.types.OpenFrame.{OpenFrame}
use Rattle.line_rules.proofs.ListFacts.{get_longer, take_map, take_behind, get_front, get_behind, get_map, get_unmap}
use Rattle.lemma_core.specs.Own.{AreStatable}
use Rattle.entry_lists.specs.Lift.{raised, lifted_why, lifted_frame}
use Rattle.cycle_search.specs.inner.Joined.{raised_entry, behind, HaveCites, HaveFrameCites}
use Rattle.entry_lists.proofs.RaisedFacts.{frames_none, why_none}
use Rattle.round_run.proofs.Endings.{at_both}
use Rattle.line_rules.proofs.ListUnits.{units_both}

entries_none : (es : List Entry) → map (raised_entry 0) es ≡ es
entries_none [] = refl
entries_none (e ∷ es) =
    λ i. record { set = e.set; most = e.most; cycle = e.cycle; why = why_none e.why i } ∷ entries_none es i

-- behind no entry stands the list itself
pub behind_none : (before es : List Entry) → length before ≡ 0 → es ≡ behind before es
behind_none [] es z = sym (entries_none es)
behind_none (b ∷ before) es z = absurd (omega (arith, z))

pub frames_behind_none : (n : ℕ) (frames : List OpenFrame) → n ≡ 0 → frames ≡ map (lifted_frame n) frames
frames_behind_none n frames z =
    sym (frames_none frames) ∙ ap (λ (k : ℕ). map (lifted_frame k) frames) (sym z)

module _ (kind : LineKind) (line : Line) (pre : List Entry) where
  abbrev up : Entry → Entry
  up e = raised_entry (length pre) e

  there_up : (es : List Entry) (k : ℕ) (e : Entry) → slice_get es k ≡ Some e
      → slice_get (behind pre es) (k + length pre) ≡ Some (up e)
  there_up es k e h = get_behind pre (map up es) k ∙ get_map up es k e h

  cites_up : (es : List Entry) (cite : ℕ) (T : List Bool) (r d : ℕ) → Cites es cite T r d
      → Cites (behind pre es) (cite + length pre) T r d
  cites_up es cite T r d h = record {
    entry = up h.entry;
    there = there_up es cite h.entry h.there;
    part = h.part;
    stations = h.stations;
    cycle = h.cycle;
  }

  covers_up : (es : List Entry) (P : Load → Type 0) (R : List Bool) (most d : ℕ) (cites : List ℕ)
      → Covers line P es R most d cites → Covers line P (behind pre es) R most d (raised (length pre) cites)
  covers_up es P R most d cites h = record {
    loads = h.loads;
    listed = h.listed;
    as_many = length-map cites (λ cite. cite + length pre) ∙ h.as_many;
    cited = λ p cite l a b.
        let x : (n : ℕ) × (slice_get cites p ≡ Some n) × (cite ≡ n + length pre) =
        get_unmap (λ n. n + length pre) cites p cite a in
        let Q : ℕ → Type 0 = λ z. Cites (behind pre es) z (rest R l) (most - 1) d in
        subst Q (sym x.2) (cites_up es x.0 (rest R l) (most - 1) d (h.cited p x.0 l x.1 b));
  }

  by_up : (es : List Entry) (e : Entry) (w : Why) → FollowsBy kind line es e w
      → FollowsBy kind line (behind pre es) (up e) (lifted_why (length pre) w)
  by_up es e why.Bound f = f
  by_up es e (why.Branch mode cites) f = record {
    some = f.some;
    stations = f.stations;
    belongs = f.belongs;
    covers = covers_up es (IsOpen kind line e.cycle mode e.set e.most) e.set e.most e.cycle cites f.covers;
  }
  by_up es e (why.Swap cite out into) f = record {
    entry = up f.entry;
    there = there_up es cite f.entry f.there;
    stations = f.stations;
    cycle = f.cycle;
    out_in = f.out_in;
    task = f.task;
    into_out = f.into_out;
    set = f.set;
    time = f.time;
    before = f.before;
    after = f.after;
    apart = f.apart;
  }
  by_up es e (why.Pairs two) f = f

  follows_up : (es : List Entry) (e : Entry) → Follows kind line es e → Follows kind line (behind pre es) (up e)
  follows_up es e f = record { set = f.set; cycle = f.cycle; by = by_up es e e.why f.by }

  -- derived entries are derived behind derived entries
  pub derived_up : (es : List Entry) → IsDerived kind line pre → IsDerived kind line es
      → IsDerived kind line (behind pre es)
  derived_up es before d k e h = elim (cases_lt k (length pre)) [
    | inl under ↦
        let P : List Entry → Type 0 = λ l. Follows kind line l e in
        subst P (sym (take-append-le k pre (map up es) (omega (arith, under))))
        (before k e (sym (get_front pre (map up es) k under) ∙ h))
    | inr over ↦
        let j : ℕ = k - length pre in
        let s : j + length pre ≡ k = omega (arith, over) in
        let there : slice_get (map up es) j ≡ Some e =
        sym (get_behind pre (map up es) j) ∙ (ap (λ n. slice_get (behind pre es) n) s ∙ h) in
        let x : (y : Entry) × (slice_get es j ≡ Some y) × (e ≡ up y) = get_unmap up es j e there in
        let front : take k (behind pre es) ≡ behind pre (take j es) =
        ap (λ n. take n (behind pre es)) (sym s)
        ∙ (take_behind pre (map up es) j ∙ ap (λ l. pre ++ l) (take_map up es j)) in
        let P : List Entry → Type 0 = λ l. Follows kind line l e in
        let Q : Entry → Type 0 = λ z. Follows kind line (behind pre (take j es)) z in
        subst P (sym front) (subst Q (sym x.2) (follows_up (take j es) x.0 (d j x.0 x.1)))
  ]

  passed_up : (X : ℕ) (es : List Entry) (f : OpenFrame) (l : Load) → IsPassed kind line X es f l
      → IsPassed kind line X (behind pre es) (lifted_frame (length pre) f) l
  passed_up X es f l h = record {
    belongs = h.belongs;
    stations = h.stations;
    last = h.last;
    load = h.load;
    full = h.full;
    covers = covers_up es (λ k. IsOpen kind line X f.mode f.set f.most k × Precedes line k l) f.set f.most X f.cites
        h.covers;
  }

  leads_up : (X : ℕ) (es : List Entry) (R : List Bool) (most : ℕ) (fs : List OpenFrame) (R' : List Bool) (most' : ℕ)
      → Leads kind line X es R most fs R' most'
      → Leads kind line X (behind pre es) R most (map (lifted_frame (length pre)) fs) R' most'
  leads_up X es R most [] R' most' h = h
  leads_up X es R most (f ∷ fs) R' most' h = (
    h.0,
    (
      h.1.0,
      h.1.1,
      passed_up X es f h.0 h.1.2,
      leads_up X es (rest f.set h.0) (f.most - 1) fs R' most' h.1.3,
    ),
  )

  -- a valid trail is one over the longer list
  pub trail_up : (X : ℕ) (es : List Entry) (R : List Bool) (most : ℕ) (fs : List OpenFrame)
      → IsTrail kind line X es R most fs
      → IsTrail kind line X (behind pre es) R most (map (lifted_frame (length pre)) fs)
  trail_up X es R most fs h = record {
    passed = map (lifted_frame (length pre)) h.passed;
    deepest = lifted_frame (length pre) h.deepest;
    all = ap (map (lifted_frame (length pre))) h.all
        ∙ map-append (lifted_frame (length pre)) h.passed (h.deepest ∷ []);
    leads = leads_up X es R most h.passed h.deepest.set h.deepest.most h.leads;
    deep = record {
      belongs = h.deep.belongs;
      last = h.deep.last;
      covers = covers_up es
          (λ k. IsOpen kind line X h.deepest.mode h.deepest.set h.deepest.most k × UpTo line h.deepest.last k)
          h.deepest.set h.deepest.most X h.deepest.cites h.deep.covers;
    };
  }

-- the entries of a longer list
module _ (pre es : List Entry) where
  -- an entry of it is one of the first list, or is raised from one of the second
  pub cases_behind : (k : ℕ) (e : Entry) → slice_get (behind pre es) k ≡ Some e
      → (slice_get pre k ≡ Some e)
      ⊎ ((j : ℕ) × (y : Entry) × (slice_get es j ≡ Some y) × (e ≡ raised_entry (length pre) y) × (k ≡ j + length pre))
  cases_behind k e h = elim (cases_lt k (length pre)) [
    | inl under ↦ inl (sym (get_front pre (map (raised_entry (length pre)) es) k under) ∙ h)
    | inr over ↦
        let j : ℕ = k - length pre in
        let s : j + length pre ≡ k = omega (arith, over) in
        let there : slice_get (map (raised_entry (length pre)) es) j ≡ Some e =
        sym (get_behind pre (map (raised_entry (length pre)) es) j) ∙ (ap (λ n. slice_get (behind pre es) n) s ∙ h) in
        let x : (y : Entry) × (slice_get es j ≡ Some y) × (e ≡ raised_entry (length pre) y) =
        get_unmap (raised_entry (length pre)) es j e there in
        inr (j, x.0, x.1, x.2, sym s)
  ]

  pub length_behind : length (behind pre es) ≡ length pre + length es
  length_behind =
      length-append pre (map (raised_entry (length pre)) es)
      ∙ ap (λ (n : ℕ). length pre + n) (length-map es (raised_entry (length pre)))

  pub statable_behind : AreStatable pre → AreStatable es → AreStatable (behind pre es)
  statable_behind p s k e h = elim (cases_behind k e h) [
    | inl a ↦ p k e a
    | inr (j, y, there, same, at) ↦
        let x = s j y there in
        record {
          most = omega (arith, x.most, ap (λ (z : Entry). z.most) same);
          cycle = record {
            some = omega (arith, x.cycle.some, ap (λ (z : Entry). z.cycle) same);
            limit = omega (arith, x.cycle.limit, ap (λ (z : Entry). z.cycle) same);
          };
        }
  ]

  pub answer_before : (set : List Bool) (most d : ℕ) → HasAnswer pre set most d → HasAnswer (behind pre es) set most d
  answer_before set most d h =
      (h.0, h.1, (get_longer pre (map (raised_entry (length pre)) es) h.0 h.1 h.2.0, h.2.1))

  pub answer_behind : (set : List Bool) (most d : ℕ) → HasAnswer es set most d → HasAnswer (behind pre es) set most d
  answer_behind set most d h = (
    h.0 + length pre,
    raised_entry (length pre) h.1,
    (
      get_behind pre (map (raised_entry (length pre)) es) h.0 ∙ get_map (raised_entry (length pre)) es h.0 h.1 h.2.0,
      record { same = h.2.1.same; stations = h.2.1.stations; long = h.2.1.long },
    ),
  )

  -- of a fresh list behind one without entries at X, no entry at X is answered by an earlier one at X
  pub fresh_behind : (X : ℕ) → ((k : ℕ) (e : Entry) → slice_get pre k ≡ Some e → e.cycle ≡ X → ⊥) → IsFresh es
      → IsFreshAt X (behind pre es)
  fresh_behind X none fresh j k a b l p q s t r = elim (cases_behind j a p) [
    | inl x ↦ none j a x s
    | inr (i, y, there, same, at) ↦ elim (cases_behind k b q) [
      | inl x ↦ none k b x t
      | inr (m, z, there', same', at') ↦
          fresh i m y z (omega (arith, l, at, at')) there there' (record {
            same = sym (ap (λ (w : Entry). w.set) same) ∙ (r.same ∙ ap (λ (w : Entry). w.set) same');
            stations = omega (arith, r.stations, ap (λ (w : Entry). w.most) same, ap (λ (w : Entry). w.most) same');
            long = omega (arith, r.long, ap (λ (w : Entry). w.cycle) same, ap (λ (w : Entry). w.cycle) same');
          })
    ]
  ]

  -- a trail that is open over a list is open over it behind one without entries at X
  pub opens_behind : (line : Line) (X : ℕ) (fs : List OpenFrame)
      → ((k : ℕ) (e : Entry) → slice_get pre k ≡ Some e → e.cycle ≡ X → ⊥) → IsOpenOver line X es fs
      → IsOpenOver line X (behind pre es) (map (lifted_frame (length pre)) fs)
  opens_behind line X fs none o = record {
    unanswered = λ k f h j e p q r.
        let g : (y : OpenFrame) × (slice_get fs k ≡ Some y) × (f ≡ lifted_frame (length pre) y) =
        get_unmap (lifted_frame (length pre)) fs k f h in
        elim (cases_behind j e p) [
          | inl x ↦ none j e x q
          | inr (i, y, there, same, at) ↦
              o.unanswered k g.0 g.1 i y there (sym (ap (λ (w : Entry). w.cycle) same) ∙ q) (record {
                same = sym (ap (λ (w : Entry). w.set) same) ∙ (r.same ∙ ap (λ (w : OpenFrame). w.set) g.2);
                stations = omega (
                  arith,
                  r.stations,
                  ap (λ (w : Entry). w.most) same,
                  ap (λ (w : OpenFrame). w.most) g.2,
                );
                long = omega (arith, r.long, ap (λ (w : Entry). w.cycle) same);
              })
        ];
    further = λ k f h n.
        let g : (y : OpenFrame) × (slice_get fs k ≡ Some y) × (f ≡ lifted_frame (length pre) y) =
        get_unmap (lifted_frame (length pre)) fs k f h in
        let P : OpenFrame → Type 0 = λ z. (l : Load) × IsLoad line X z.mode z.set l × After line z.last l in
        let m : length fs ≡ suc k = sym (length-map fs (lifted_frame (length pre))) ∙ n in
        subst P (sym g.2) (o.further k g.0 g.1 m);
  }

-- units stay, whatever the cites are raised by
module _ (line : Line) (n : ℕ) where
  units_by_same : (e : Entry) (w : Why) (u : ℕ) → UnitsBy line e w u
      → UnitsBy line (raised_entry n e) (lifted_why n w) u
  units_by_same e why.Bound u h = h
  units_by_same e (why.Branch mode cites) u h = h
  units_by_same e (why.Swap cite out into) u h = h
  units_by_same e (why.Pairs two) u h = h

  pub units_raised : (es : List Entry) (u : ℕ) → UnitsOf line es u → UnitsOf line (map (raised_entry n) es) u
  units_raised [] u h = h
  units_raised (e ∷ es) u h = (h.0, h.1, (units_by_same e e.why h.0 h.2.0, units_raised es h.1 h.2.1, h.2.2))

  pub frames_raised : (X : ℕ) (fs : List OpenFrame) (u : ℕ) → UnitsIn line X fs u
      → UnitsIn line X (map (lifted_frame n) fs) u
  frames_raised X [] u h = h
  frames_raised X (f ∷ fs) u h = (h.0, h.1, (h.2.0, frames_raised X fs h.1 h.2.1, h.2.2))

-- the entries at X of two lists
at_more : (X : ℕ) (x : Entry) (xs ys : List Entry) (t : Bool) → nat_eq x.cycle X ≡ t
    → entries_at X (xs ++ ys) ≡ entries_at X xs ++ entries_at X ys
    → entries_at X (x ∷ (xs ++ ys)) ≡ entries_at X (x ∷ xs) ++ entries_at X ys
at_more X x xs ys true e h = rw e (ap (λ (l : List Entry). x ∷ l) h)
at_more X x xs ys false e h = rw e h

-- none is at X
pub none_at : (X : ℕ) (es : List Entry) → ((k : ℕ) (e : Entry) → slice_get es k ≡ Some e → e.cycle ≡ X → ⊥)
    → entries_at X es ≡ []
none_at X [] h = refl
none_at X (e ∷ es) h = elim (cases_Bool (nat_eq e.cycle X)) [
  | inl t ↦ absurd (h 0 e refl (eqb-true e.cycle X t))
  | inr f ↦ rw f (none_at X es (λ k x g. h (suc k) x g))
]

raised_more : (X n : ℕ) (e : Entry) (es : List Entry) (t : Bool) → nat_eq e.cycle X ≡ t
    → entries_at X (map (raised_entry n) es) ≡ map (raised_entry n) (entries_at X es)
    → entries_at X (map (raised_entry n) (e ∷ es)) ≡ map (raised_entry n) (entries_at X (e ∷ es))
raised_more X n e es true q h = rw q (ap (λ (l : List Entry). raised_entry n e ∷ l) h)
raised_more X n e es false q h = rw q h

at_raised : (X n : ℕ) (es : List Entry)
    → entries_at X (map (raised_entry n) es) ≡ map (raised_entry n) (entries_at X es)
at_raised X n [] = refl
at_raised X n (e ∷ es) = raised_more X n e es (nat_eq e.cycle X) refl (at_raised X n es)

-- the units of both lists, and those at a cycle that the first list hasn't
module _ (line : Line) (pre es : List Entry) where
  pub units_behind : (u v : ℕ) → UnitsOf line pre u → UnitsOf line es v → UnitsOf line (behind pre es) (u + v)
  units_behind u v p q =
      units_both line pre (map (raised_entry (length pre)) es) u v p (units_raised line (length pre) es v q)

  pub units_at_behind : (X u : ℕ) → ((k : ℕ) (e : Entry) → slice_get pre k ≡ Some e → e.cycle ≡ X → ⊥)
      → UnitsOf line (entries_at X es) u → UnitsOf line (entries_at X (behind pre es)) u
  units_at_behind X u none h =
      let same : entries_at X (behind pre es) ≡ map (raised_entry (length pre)) (entries_at X es) =
      at_both X pre (map (raised_entry (length pre)) es)
      ∙ (ap (λ (l : List Entry). l ++ entries_at X (map (raised_entry (length pre)) es)) (none_at X pre none)
      ∙ at_raised X (length pre) es) in
      let P : List Entry → Type 0 = λ l. UnitsOf line l u in
      subst P (sym same) (units_raised line (length pre) (entries_at X es) u h)

  -- the units at a cycle of the entries from a place of the second list on
  pub units_from_behind : (X u n : ℕ) → UnitsOf line (entries_at X (drop n es)) u
      → UnitsOf line (entries_at X (drop (length pre + n) (behind pre es))) u
  units_from_behind X u n h =
      let left : drop (length pre + n) (behind pre es) ≡ map (raised_entry (length pre)) (drop n es) =
      drop-append-add pre (map (raised_entry (length pre)) es) n ∙ drop-map (raised_entry (length pre)) n es in
      let same : entries_at X (drop (length pre + n) (behind pre es))
      ≡ map (raised_entry (length pre)) (entries_at X (drop n es)) =
      ap (λ (l : List Entry). entries_at X l) left ∙ at_raised X (length pre) (drop n es) in
      let P : List Entry → Type 0 = λ l. UnitsOf line l u in
      subst P (sym same) (units_raised line (length pre) (entries_at X (drop n es)) u h)

-- the item at hand of a list cites entries of it
pub item_cites : (count i : ℕ) (es items : List Entry) (e : Entry) → HaveCites (length es) es → items ≡ es
    → count ≡ length es → i < length items → e ≡ get_or items i e → (n : ℕ) × IsWhy n count e.why
item_cites count i es items e h s c l q =
    let w : (n : ℕ) × IsWhy n (length es) e.why =
    h i e (ap (λ z. slice_get z i) (sym s) ∙ slice_get-get_or items i e l ∙ ap (λ z. Some z) (sym q)) in
    let P : ℕ → Type 0 = λ k. IsWhy w.0 k e.why in
    (w.0, subst P (sym c) w.1)

pub frame_cites : (count i : ℕ) (fs items : List OpenFrame) (f : OpenFrame) → HaveFrameCites count fs → items ≡ fs
    → i < length items → f ≡ get_or items i f → AreCites count f.cites
frame_cites count i fs items f h s l q =
    h i f (ap (λ z. slice_get z i) (sym s) ∙ slice_get-get_or items i f l ∙ ap (λ z. Some z) (sym q))
