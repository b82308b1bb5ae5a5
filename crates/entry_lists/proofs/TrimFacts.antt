-- What is so of a trimmed list where it is so of the list: derived, fresh, within the ranges; and the answer is there.
use Rattle.std.proofs.Common.{◌≡◌, ℕ, zero, suc, ◌+◌, ◌-◌, ◌<◌, ◌≤◌, Bool, List, [], ◌∷◌, length, take, map, Some, refl}
use Rattle.std.proofs.Common.{sym, ap, ◌∙◌, subst, inl, inr, Result, Ok, Err, IfOk, arith}
use Rattle.std.specs.Prelude.{slice_get}
use Rattle.std.specs.List.{Contains}
use Rattle.std.proofs.lemmas.Bool.{cases_eq, cases_lt}
use Rattle.std.proofs.lemmas.Option.{slice_get_within, slice_get_read, same_Some}
use Rattle.line_rules.specs.lines.Truths.{In, IsSubset, members_of}
use Rattle.line_rules.proofs.about_lines.ListedMembers.{listed}
use Rattle.line_rules.specs.lines.Line.{Line, IsTaskSet}
use Rattle.line_rules.specs.Loads.{rest}
use Rattle.line_rules.specs.Entries.{Answers, Cites, FollowsBy, FollowsByBranch, FollowsBySwap, Follows, IsDerived}
use Rattle.line_rules.specs.Entries.{IsFresh, HasAnswer}
use Rattle.line_rules.specs.Ranges.{IsOf, IsCycle, IsWhy, IsEntry, AreEntries}
use Rattle.line_rules.specs.Units.{UnitsOf}
use Rattle.line_rules.specs.declared.types.LineKind.{LineKind}
use Rattle.line_rules.specs.declared.types.Load.{Load}
use Rattle.line_rules.specs.declared.types.Entry.{Entry}
use Rattle.line_rules.specs.declared.types.Why.{Why}
use Rattle.line_rules.specs.declared.types.Why.TheVariants as why
use Rattle.line_rules.proofs.LemmasHold.{get_take}
use Rattle.line_rules.proofs.ListFacts.{get_some, get_taken}
use Rattle.entry_lists.specs.Trim.{cited_by, CitesEarlier, IsFirstAnswer, AreKept, ArePlaces, IsRenumbered, IsKeptAs}
use Rattle.entry_lists.specs.Trim.{IsKeptAt, AreKeptEntries, IsTrimmed, AreMarks}
use Rattle.entry_lists.specs.Trim.StandsOn.{itself}
use Rattle.entry_lists.proofs.KeptPlaces.{ascending_from}
use Rattle.entry_lists.proofs.ThinnedLists.{IsThinned, thin, no_longer, units_thinned}

abbrev entry : List Bool → ℕ → ℕ → Why → Entry
entry s m c w = record { set = s; most = m; cycle = c; why = w }

one_of : (c d : ℕ) → Contains (c ∷ []) d → c ≡ d
one_of c d (zero, l, e) = e
one_of c d (suc k, l, e) = absurd (omega arith)

-- what an entry cites, where it follows from earlier ones
by_earlier : (kind : LineKind) (line : Line) (es : List Entry) (k : ℕ) (e : Entry) (w : Why)
    → FollowsBy kind line (take k es) e w → (cite : ℕ) → Contains (cited_by w) cite → cite < k
by_earlier kind line es k e why.Bound f cite c = absurd (omega (arith, c.1))
by_earlier kind line es k e (why.Branch mode cites) f cite c =
    let l : (l : Load) × (slice_get f.covers.loads c.0 ≡ Some l) =
    get_some f.covers.loads c.0 (omega (arith, c.1, f.covers.as_many)) in
    let there = f.covers.cited c.0 cite l.0 (slice_get_read cites _ c.0 cite refl c.1 (sym c.2)) l.1 in
    (get_take es k cite there.entry there.there).0
by_earlier kind line es k e (why.Swap cite' out into) f cite c =
    let P : ℕ → Type 0 = λ x. x < k in
    subst P (one_of cite' cite c) (get_take es k cite' f.entry f.there).0
by_earlier kind line es k e (why.Pairs two) f cite c = absurd (omega (arith, c.1))

pub derived_earlier : (kind : LineKind) (line : Line) (es : List Entry) → IsDerived kind line es → CitesEarlier es
derived_earlier kind line es d k e there cite c = by_earlier kind line es k e e.why (d k e there).by cite c

-- a new cite, and the old one that it stands for
old_cite : (numbers cites places : List ℕ) → ArePlaces numbers cites places → (p place : ℕ)
    → slice_get places p ≡ Some place → (cite : ℕ) × (slice_get cites p ≡ Some cite)
    × (slice_get numbers place ≡ Some cite)
old_cite numbers cites [] h p place e = absurd (cc)
old_cite numbers [] (x ∷ places) h p place e = absurd (cc)
old_cite numbers (c ∷ cites) (x ∷ places) h zero place e =
    let f : slice_get numbers x ≡ Some c = cc in
    (c, refl, ap (slice_get numbers) (sym (same_Some x place e)) ∙ f)
old_cite numbers (c ∷ cites) (x ∷ places) h (suc p) place e =
    old_cite numbers cites places (let t : map (slice_get numbers) places ≡ map Some cites = cc in t) p place e

as_many_places : (numbers cites places : List ℕ) → ArePlaces numbers cites places → length places ≡ length cites
as_many_places numbers [] [] h = refl
as_many_places numbers (c ∷ cites) [] h = absurd (cc)
as_many_places numbers [] (x ∷ places) h = absurd (cc)
as_many_places numbers (c ∷ cites) (x ∷ places) h = ap suc (as_many_places numbers cites places
    (let t : map (slice_get numbers) places ≡ map Some cites = cc in t))

-- the order of places is that of numbers
abbrev IsAscending : List ℕ → Type 0
IsAscending numbers = (j k a b : ℕ) → j < k → slice_get numbers j ≡ Some a → slice_get numbers k ≡ Some b → a < b

earlier_place : (numbers : List ℕ) → IsAscending numbers → (j k a b : ℕ) → slice_get numbers j ≡ Some a
    → slice_get numbers k ≡ Some b → a < b → j < k
earlier_place numbers up j k a b e f l = elim (cases_lt j k) [
  | inl y ↦ y
  | inr g ↦ elim (cases_eq j k) [
    | inl same ↦ (let q : a ≡ b = same_Some a b (sym e ∙ ap (slice_get numbers) same ∙ f) in absurd (omega arith))
    | inr n ↦ absurd (omega (arith, up k j b a (omega arith) f e))
  ]
]

-- an entry with the same question and another reason
same_entry : (numbers : List ℕ) (e f : Entry) → IsKeptAs numbers e f → f ≡ record e { why = f.why }
same_entry numbers e f s = alike f.set e.set f.most e.most f.cycle e.cycle f.why s.set s.most s.cycle
  where
    alike : (s t : List Bool) (m n c d : ℕ) (w : Why) → s ≡ t → m ≡ n → c ≡ d → entry s m c w ≡ entry t n d w
    alike s t m n c d w p q r = ap (λ x. entry x m c w) p ∙ ap (λ x. entry t x c w) q ∙ ap (λ x. entry t n x w) r

module _ (es : List Entry) (numbers : List ℕ) (new : List Entry) (up : IsAscending numbers)
    (all : AreKeptEntries es numbers new) where
  -- the entry of a kept number that is cited from a place
  cited_there : (k p cite place : ℕ) (x : Entry) → slice_get numbers p ≡ Some k → slice_get (take k es) cite ≡ Some x
      → slice_get numbers place ≡ Some cite → (y : Entry) × (slice_get (take p new) place ≡ Some y)
      × IsKeptAs numbers x y
  cited_there k p cite place x e there f =
      let t : (cite < k) × (slice_get es cite ≡ Some x) = get_take es k cite x there in
      let a : IsKeptAt es numbers new place = all.each place
      (omega (arith, all.as_many, slice_get_within numbers place cite f)) in
      let n : a.number ≡ cite = same_Some a.number cite (sym a.kept ∙ f) in
      let o : a.old ≡ x = same_Some a.old x (sym a.there ∙ ap (slice_get es) n ∙ t.1) in
      let P : Entry → Type 0 = λ z. IsKeptAs numbers z a.entry in (
        a.entry,
        get_taken new p place a.entry (earlier_place numbers up place p cite k f e t.0) a.here,
        subst P o a.same,
      )

  cites_moved : (k p cite place : ℕ) (T : List Bool) (r c : ℕ) → slice_get numbers p ≡ Some k
      → slice_get numbers place ≡ Some cite → Cites (take k es) cite T r c → Cites (take p new) place T r c
  cites_moved k p cite place T r c e f h =
      let y : (y : Entry) × (slice_get (take p new) place ≡ Some y) × IsKeptAs numbers h.entry y =
      cited_there k p cite place h.entry e h.there f in
      let P : List Bool → Type 0 = λ s. IsSubset s T in
      record {
        entry = y.0;
        there = y.1;
        part = subst P (sym y.2.set) h.part;
        stations = omega (arith, h.stations, y.2.most);
        cycle = omega (arith, h.cycle, y.2.cycle);
      }

  -- an entry follows in the new list from the kept ones before it
  by_moved : (kind : LineKind) (line : Line) (k p : ℕ) (e : Entry) (w v : Why) → slice_get numbers p ≡ Some k
      → IsRenumbered numbers w v → FollowsBy kind line (take k es) e w
      → FollowsBy kind line (take p new) (record e { why = v }) v
  by_moved kind line k p e why.Bound v here r f = let P : Why
      → Type 0 = λ x. FollowsBy kind line (take p new) (record e { why = v }) x in subst P (sym r) f
  by_moved kind line k p e (why.Branch mode cites) v here r f =
      let P : Why → Type 0 = λ x. FollowsBy kind line (take p new) (record e { why = v }) x in
      subst P (sym r.1) (branch_moved r.0 r.2)
    where
      branch_moved : (places : List ℕ) → ArePlaces numbers cites places
          → FollowsByBranch kind line (take p new) (record e { why = v }) mode places
      branch_moved places h = record {
        some = f.some;
        stations = f.stations;
        belongs = f.belongs;
        covers = record {
          loads = f.covers.loads;
          listed = f.covers.listed;
          as_many = as_many_places numbers cites places h ∙ f.covers.as_many;
          cited = λ q place l a b.
              let o : (cite : ℕ) × (slice_get cites q ≡ Some cite) × (slice_get numbers place ≡ Some cite) =
              old_cite numbers cites places h q place a in
              cites_moved k p o.0 place (rest e.set l) (e.most - 1) e.cycle here o.2 (f.covers.cited q o.0 l o.1 b);
        };
      }
  by_moved kind line k p e (why.Swap cite out into) v here r f =
      let P : Why → Type 0 = λ x. FollowsBy kind line (take p new) (record e { why = v }) x in
      subst P (sym r.1) (swap_moved r.0 r.2)
    where
      swap_moved : (place : ℕ) → slice_get numbers place ≡ Some cite
          → FollowsBySwap line (take p new) (record e { why = v }) place out into
      swap_moved place h =
          let y : (y : Entry) × (slice_get (take p new) place ≡ Some y) × IsKeptAs numbers f.entry y =
          cited_there k p cite place f.entry here f.there h in
          let Q : ℕ → List Bool → Type 0 = λ i s. In s i in
          record {
            entry = y.0;
            there = y.1;
            stations = omega (arith, f.stations, y.2.most);
            cycle = omega (arith, f.cycle, y.2.cycle);
            out_in = f.out_in;
            task = f.task;
            into_out = f.into_out;
            set = y.2.set ∙ f.set;
            time = f.time;
            before = λ i m. f.before i (subst (Q i) y.2.set m);
            after = λ i m. f.after i (subst (Q i) y.2.set m);
            apart = λ i m. f.apart i (subst (Q i) y.2.set m);
          }
  by_moved kind line k p e (why.Pairs two) v here r f = let P : Why
      → Type 0 = λ x. FollowsBy kind line (take p new) (record e { why = v }) x in subst P (sym r) f

  -- the entry at a place
  at_place : (p : ℕ) (f : Entry) → slice_get new p ≡ Some f
      → (k : ℕ) × (e : Entry) × (slice_get numbers p ≡ Some k) × (slice_get es k ≡ Some e) × IsKeptAs numbers e f
  at_place p f h =
      let a : IsKeptAt es numbers new p = all.each p (slice_get_within new p f h) in
      let P : Entry → Type 0 = λ x. IsKeptAs numbers a.old x in
      (a.number, a.old, a.kept, a.there, subst P (same_Some a.entry f (sym a.here ∙ h)) a.same)

  pub derived_moved : (kind : LineKind) (line : Line) → IsDerived kind line es → IsDerived kind line new
  derived_moved kind line d p f h =
      let a : (k : ℕ) × (e : Entry) × (slice_get numbers p ≡ Some k) × (slice_get es k ≡ Some e)
      × IsKeptAs numbers e f = at_place p f h in
      let old : Follows kind line (take a.0 es) a.1 = d a.0 a.1 a.3 in
      let P : List Bool → Type 0 = λ s. IsTaskSet line s in
      let Q : Entry → Type 0 = λ x. FollowsBy kind line (take p new) x f.why in
      record {
        set = subst P (sym a.4.set) old.set;
        cycle = omega (arith, old.cycle, a.4.cycle);
        by = subst Q (sym (same_entry numbers a.1 f a.4)) (by_moved kind line a.0 p a.1 a.1.why f.why a.2 a.4.why
            old.by);
      }

  pub fresh_moved : IsFresh es → IsFresh new
  fresh_moved fresh j k a b l e f h =
      let x : (k : ℕ) × (e : Entry) × (slice_get numbers j ≡ Some k) × (slice_get es k ≡ Some e)
      × IsKeptAs numbers e a = at_place j a e in
      let y : (i : ℕ) × (e : Entry) × (slice_get numbers k ≡ Some i) × (slice_get es i ≡ Some e)
      × IsKeptAs numbers e b = at_place k b f in
      fresh x.0 y.0 x.1 y.1 (up j k x.0 y.0 l x.2 y.2) x.3 y.3
      (record {
        same = sym x.4.set ∙ h.same ∙ y.4.set;
        stations = omega (arith, h.stations, x.4.most, y.4.most);
        long = omega (arith, h.long, x.4.cycle, y.4.cycle);
      })

  pub answer_moved : (set : List Bool) (most cycle goal : ℕ) → Contains numbers goal
      → IsFirstAnswer es set most cycle goal → HasAnswer new set most cycle
  answer_moved set most cycle goal c first =
      let a : IsKeptAt es numbers new c.0 = all.each c.0 (omega (arith, all.as_many, c.1)) in
      let n : a.number ≡ goal =
      same_Some a.number goal (sym a.kept ∙ slice_get_read numbers _ c.0 goal refl c.1 (sym c.2)) in
      let o : a.old ≡ first.entry = same_Some a.old first.entry (sym a.there ∙ ap (slice_get es) n ∙ first.there) in
      let P : Entry → Type 0 = λ x. Answers x set most cycle in
      let h : Answers a.old set most cycle = subst P (sym o) first.answers in (
        c.0,
        a.entry,
        (
          a.here,
          record {
            same = a.same.set ∙ h.same;
            stations = omega (arith, h.stations, a.same.most);
            long = omega (arith, h.long, a.same.cycle);
          },
        ),
      )

  why_moved : (n : ℕ) (w v : Why) → IsRenumbered numbers w v → IsWhy n (length es) w → IsWhy n (length new) v
  why_moved n why.Bound v r h = let P : Why → Type 0 = λ x. IsWhy n (length new) x in subst P (sym r) tt
  why_moved n (why.Branch mode cites) v r h =
      let P : Why → Type 0 = λ x. IsWhy n (length new) x in
      subst P (sym r.1) (λ p cite e. omega (
        arith,
        all.as_many,
        slice_get_within numbers cite _ (old_cite numbers cites r.0 r.2 p cite e).2,
      ))
  why_moved n (why.Swap cite out into) v r h =
      let P : Why → Type 0 = λ x. IsWhy n (length new) x in
      subst P (sym r.1) (omega (arith, all.as_many, slice_get_within numbers r.0 cite r.2), h.1)
  why_moved n (why.Pairs two) v r h = let P : Why → Type 0 = λ x. IsWhy n (length new) x in subst P (sym r) h

  entry_moved : (n : ℕ) (e f : Entry) → IsKeptAs numbers e f → IsEntry n (length es) e → IsEntry n (length new) f
  entry_moved n e f s h =
      let P : List Bool → Type 0 = λ x. IsOf n x in
      let Q : ℕ → Type 0 = λ x. IsCycle x in
      record {
        set = subst P (sym s.set) h.set;
        most = omega (arith, h.most, s.most);
        cycle = subst Q (sym s.cycle) h.cycle;
        why = why_moved n e.why f.why s.why h.why;
      }

  pub thinned : IsThinned numbers es new
  thinned = thin numbers es 0 numbers new all.as_many up (λ p l. let a : IsKeptAt es numbers new p = all.each p l in
      let z : a.number ≡ 0 + a.number = omega arith in (
        a.number,
        a.old,
        a.entry,
        a.kept ∙ ap Some z,
        a.there,
        a.here,
        a.same,
      ))

  pub entries_moved : (n : ℕ) → AreEntries n es → AreEntries n new
  entries_moved n h = record {
    many = omega (arith, h.many, no_longer numbers es new thinned);
    each = λ p f e. let a : (k : ℕ) × (e : Entry) × (slice_get numbers p ≡ Some k) × (slice_get es k ≡ Some e)
        × IsKeptAs numbers e f = at_place p f e in entry_moved n a.1 f a.4 (h.each a.0 a.1 a.3);
  }

-- a trimmed list by its marks
pub trimmed_by : (es : List Entry) (set : List Bool) (most cycle goal : ℕ) (marks : List Bool) (new : List Entry)
    → IsFirstAnswer es set most cycle goal → AreMarks es goal marks → AreKeptEntries es (members_of marks) new
    → IsTrimmed es set most cycle new
trimmed_by es set most cycle goal marks new first m all = record {
  goal = goal;
  first = first;
  numbers = members_of marks;
  kept = record {
    kept = λ i. (λ c. (m.each i).0 ((listed marks i).1 c), λ s. (listed marks i).0 ((m.each i).1 s));
    ascending = ascending_from 0 marks;
  };
  entries = all;
}

-- the goal is kept
pub goal_kept : (es : List Entry) (goal : ℕ) (numbers : List ℕ) → AreKept es goal numbers → Contains numbers goal
goal_kept es goal numbers h = (h.kept goal).1 itself

-- what holds of each value holds of the one that came
pub of_value : {X E : Type 0} (P Q : X → Type 0) (r : Result X E) → ((x : X) → P x → Q x) → IfOk r P → IfOk r Q
of_value P Q (Ok x) f h = f x h
of_value P Q (Err e) f h = h

module _ (es : List Entry) (set : List Bool) (most cycle : ℕ) (new : List Entry)
    (t : IsTrimmed es set most cycle new) where
  pub derived_of : (kind : LineKind) (line : Line) → IsDerived kind line es → IsDerived kind line new
  derived_of = derived_moved es t.numbers new t.kept.ascending t.entries

  pub fresh_of : IsFresh es → IsFresh new
  fresh_of = fresh_moved es t.numbers new t.kept.ascending t.entries

  pub answer_of : HasAnswer new set most cycle
  answer_of = answer_moved es t.numbers new t.kept.ascending t.entries set most cycle t.goal
      (goal_kept es t.goal t.numbers t.kept) t.first

  pub units_of : (line : Line) (old : ℕ) → UnitsOf line es old → (units : ℕ) × UnitsOf line new units × (units ≤ old)
  units_of line old = units_thinned t.numbers line es new old (thinned es t.numbers new t.kept.ascending t.entries)

  pub entries_of : (n : ℕ) → AreEntries n es → AreEntries n new
  entries_of = entries_moved es t.numbers new t.kept.ascending t.entries

-- each entry of a trimmed list has the cycle of an entry of the list
pub trimmed_cycles : (es : List Entry) (set : List Bool) (most cycle : ℕ) (new : List Entry)
    → IsTrimmed es set most cycle new
    → (k : ℕ) (e : Entry) → slice_get new k ≡ Some e
    → (j : ℕ) × (x : Entry) × ((slice_get es j ≡ Some x) × (e.cycle ≡ x.cycle))
trimmed_cycles es set most cycle new t k e there =
    let at = t.entries.each k (slice_get_within new k e there) in
    let P : Entry → Type 0 = λ x. x.cycle ≡ at.old.cycle in
    (at.number, at.old, (at.there, subst P (same_Some at.entry e (sym at.here ∙ there)) at.same.cycle))
