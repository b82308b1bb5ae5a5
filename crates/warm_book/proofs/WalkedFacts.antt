-- What follows from old entries follows from a list that answers each of them under its number.
use Rattle.std.proofs.Common.{◌≡◌, ℕ, zero, suc, Bool, List, [], ◌∷◌, length, refl, sym, ap, ◌∙◌, subst, arith, Option}
use Rattle.std.proofs.Common.{Some, None}
use Rattle.std.specs.Prelude.{slice_get, IfSome}
use Rattle.line_instance.specs.Truths.{In, IsSubset}
use Rattle.line_instance.specs.Line.{Line}
use Rattle.line_rules.specs.Entries.{Cites, Covers, FollowsBy, FollowsBySwap, IsOpen}
use Rattle.line_rules.specs.Units.{UnitsBy}
use Rattle.line_rules.specs.declared.types.LineKind.{LineKind}
use Rattle.line_rules.specs.declared.types.Mode.{Mode}
use Rattle.line_rules.specs.declared.types.Load.{Load}
use Rattle.line_rules.specs.declared.types.Entry.{Entry}
use Rattle.line_rules.specs.declared.types.Why.{Why}
use Rattle.line_rules.specs.declared.types.Why.TheVariants as why
use Rattle.warm_book.specs.Warm.{Taking, new_number, with_number, renumbered_cites, by_branch, by_swap, renumbered_why}
use Rattle.warm_book.specs.Warm.{with_why, renumbered}
use Rattle.warm_book.specs.inner.Walked.{IsAnsweredAt, IsWalked, IsSpared}

-- a number is that of the cite at its place
record IsCiteAt (numbers : List (Option ℕ)) (cites : List ℕ) (p number : ℕ) : Type 0 where
  cite : ℕ
  there : slice_get cites p ≡ Some cite
  is : new_number numbers cite ≡ Some number

with_number_parts : (o : Option ℕ) (r : Option (List ℕ)) (ns : List ℕ) → with_number o r ≡ Some ns
    → (n : ℕ) × (rest : List ℕ) × ((o ≡ Some n) × (r ≡ Some rest) × (n ∷ rest ≡ ns))
with_number_parts None r ns e = absurd (cc)
with_number_parts (Some n) None ns e = absurd (cc)
with_number_parts (Some n) (Some rest) ns e = (n, rest, (refl, refl, cc))

numbers_as_many : (numbers : List (Option ℕ)) (cites ns : List ℕ) → renumbered_cites numbers cites ≡ Some ns
    → length ns ≡ length cites
numbers_as_many numbers [] ns e =
    let s : [] ≡ ns = cc in
    ap (λ (z : List ℕ). length z) (sym s)
numbers_as_many numbers (cite ∷ cites) ns e =
    let s = with_number_parts (new_number numbers cite) (renumbered_cites numbers cites) ns e in
    ap (λ (z : List ℕ). length z) (sym s.2.2) ∙ ap suc (numbers_as_many numbers cites s.1 s.2.1)

cite_in_front : (numbers : List (Option ℕ)) (cite : ℕ) (cites : List ℕ) (n : ℕ) (rest : List ℕ)
    → new_number numbers cite ≡ Some n
    → ((p number : ℕ) → slice_get rest p ≡ Some number → IsCiteAt numbers cites p number)
    → (p number : ℕ) → slice_get (n ∷ rest) p ≡ Some number → IsCiteAt numbers (cite ∷ cites) p number
cite_in_front numbers cite cites n rest is behind zero number g = record { cite = cite; there = refl; is = is ∙ g }
cite_in_front numbers cite cites n rest is behind (suc p) number g =
    let h = behind p number g in
    record { cite = h.cite; there = h.there; is = h.is }

cite_at : (numbers : List (Option ℕ)) (cites ns : List ℕ) → renumbered_cites numbers cites ≡ Some ns
    → (p number : ℕ) → slice_get ns p ≡ Some number → IsCiteAt numbers cites p number
cite_at numbers [] ns e p number g =
    let s : [] ≡ ns = cc in
    let P : List ℕ → Type 0 = λ z. slice_get z p ≡ Some number in
    let h : slice_get [] p ≡ Some number = subst P (sym s) g in
    absurd (cc)
cite_at numbers (cite ∷ cites) ns e p number g =
    let s = with_number_parts (new_number numbers cite) (renumbered_cites numbers cites) ns e in
    let P : List ℕ → Type 0 = λ z. slice_get z p ≡ Some number in
    cite_in_front numbers cite cites s.0 s.1 s.2.0 (cite_at numbers cites s.1 s.2.1) p number (subst P (sym s.2.2) g)

by_branch_parts : (mode : Mode) (o : Option (List ℕ)) (v : Why) → by_branch mode o ≡ Some v
    → (ns : List ℕ) × ((o ≡ Some ns) × (why.Branch mode ns ≡ v))
by_branch_parts mode None v e = absurd (cc)
by_branch_parts mode (Some ns) v e = (ns, (refl, cc))

by_swap_parts : (out into : ℕ) (o : Option ℕ) (v : Why) → by_swap out into o ≡ Some v
    → (n : ℕ) × ((o ≡ Some n) × (why.Swap n out into ≡ v))
by_swap_parts out into None v e = absurd (cc)
by_swap_parts out into (Some n) v e = (n, (refl, cc))

-- the entry with another reason
abbrev because : Entry → Why → Entry
because e w = record { set = e.set; most = e.most; cycle = e.cycle; why = w }

with_why_parts : (e new : Entry) (o : Option Why) → with_why e o ≡ Some new
    → (w : Why) × ((o ≡ Some w) × (because e w ≡ new))
with_why_parts e new None h = absurd (cc)
with_why_parts e new (Some w) h = (w, (refl, cc))

module _ (kind : LineKind) (line : Line) (numbers : List (Option ℕ)) (olds es : List Entry)
    (answered : (k number : ℕ) (old : Entry) → slice_get olds k ≡ Some old → new_number numbers k ≡ Some number
    → IsAnsweredAt es number old) where
  refutes_there : (cite number : ℕ) (T : List Bool) (r c : ℕ) → new_number numbers cite ≡ Some number
      → Cites olds cite T r c → Cites es number T r c
  refutes_there cite number T r c is h =
      let a = answered cite number h.entry h.there is in
      let P : List Bool → Type 0 = λ z. IsSubset z T in
      record {
        entry = a.entry;
        there = a.there;
        part = subst P (sym a.answers.same) h.part;
        stations = omega (arith, h.stations, a.answers.stations);
        cycle = omega (arith, h.cycle, a.answers.long);
      }

  covers_there : (P : Load → Type 0) (R : List Bool) (most c : ℕ) (cites ns : List ℕ)
      → renumbered_cites numbers cites ≡ Some ns
      → Covers line P olds R most c cites → Covers line P es R most c ns
  covers_there P R most c cites ns is h = record {
    loads = h.loads;
    listed = h.listed;
    as_many = numbers_as_many numbers cites ns is ∙ h.as_many;
    cited = λ p number l g there.
        let s = cite_at numbers cites ns is p number g in
        refutes_there s.cite number _ _ _ s.is (h.cited p s.cite l s.there there);
  }

  swaps_there : (e : Entry) (w : Why) (cite number out into : ℕ) → new_number numbers cite ≡ Some number
      → FollowsBySwap line olds e cite out into → FollowsBySwap line es (because e w) number out into
  swaps_there e w cite number out into is h =
      let a = answered cite number h.entry h.there is in
      let P : ℕ → List Bool → Type 0 = λ i z. In z i in
      record {
        entry = a.entry;
        there = a.there;
        stations = omega (arith, h.stations, a.answers.stations);
        cycle = omega (arith, h.cycle, a.answers.long);
        out_in = h.out_in;
        task = h.task;
        into_out = h.into_out;
        set = a.answers.same ∙ h.set;
        time = h.time;
        before = λ i m. h.before i (subst (P i) a.answers.same m);
        after = λ i m. h.after i (subst (P i) a.answers.same m);
        apart = λ i m. h.apart i (subst (P i) a.answers.same m);
      }

  follows_there_by : (e : Entry) (x w v : Why) → renumbered_why numbers w ≡ Some v → FollowsBy kind line olds e w
      → FollowsBy kind line es (because e x) v
  follows_there_by e x why.Bound v is h =
      let s : why.Bound ≡ v = cc in
      let P : Why → Type 0 = λ z. FollowsBy kind line es (because e x) z in
      subst P s h
  follows_there_by e x (why.Branch mode cites) v is h =
      let s = by_branch_parts mode (renumbered_cites numbers cites) v is in
      let P : Why → Type 0 = λ z. FollowsBy kind line es (because e x) z in
      subst P s.1.1 (record {
        some = h.some;
        stations = h.stations;
        belongs = h.belongs;
        covers = covers_there (IsOpen kind line e.cycle mode e.set e.most) e.set e.most e.cycle cites s.0 s.1.0
            h.covers;
      })
  follows_there_by e x (why.Swap cite out into) v is h =
      let s = by_swap_parts out into (new_number numbers cite) v is in
      let P : Why → Type 0 = λ z. FollowsBy kind line es (because e x) z in
      subst P s.1.1 (swaps_there e x cite s.0 out into s.1.0 h)
  follows_there_by e x (why.Pairs two) v is h =
      let s : why.Pairs two ≡ v = cc in
      let P : Why → Type 0 = λ z. FollowsBy kind line es (because e x) z in
      subst P s h

  units_there_by : (e : Entry) (x w v : Why) (units : ℕ) → renumbered_why numbers w ≡ Some v → UnitsBy line e w units
      → UnitsBy line (because e x) v units
  units_there_by e x why.Bound v units is h =
      let s : why.Bound ≡ v = cc in
      let P : Why → Type 0 = λ z. UnitsBy line (because e x) z units in
      subst P s h
  units_there_by e x (why.Branch mode cites) v units is h =
      let s = by_branch_parts mode (renumbered_cites numbers cites) v is in
      let P : Why → Type 0 = λ z. UnitsBy line (because e x) z units in
      subst P s.1.1 h
  units_there_by e x (why.Swap cite out into) v units is h =
      let s = by_swap_parts out into (new_number numbers cite) v is in
      let P : Why → Type 0 = λ z. UnitsBy line (because e x) z units in
      subst P s.1.1 h
  units_there_by e x (why.Pairs two) v units is h =
      let s : why.Pairs two ≡ v = cc in
      let P : Why → Type 0 = λ z. UnitsBy line (because e x) z units in
      subst P s h

  -- an old entry that follows from old ones follows in the list, its cites renumbered, with as many units
  walked_there : (old new : Entry) (units : ℕ) → renumbered numbers old ≡ Some new → IsWalked kind line olds old units
      → IsWalked kind line es new units
  walked_there old new units is h =
      let s = with_why_parts old new (renumbered_why numbers old.why) is in
      let P : Entry → Type 0 = λ z. IsWalked kind line es z units in
      subst P s.1.1 (record {
        follows = record {
          set = h.follows.set;
          cycle = h.follows.cycle;
          by = follows_there_by old s.0 old.why s.0 s.1.0 h.follows.by;
        };
        counted = units_there_by old s.0 old.why s.0 units s.1.0 h.counted;
      })

-- what is spared of an old entry is known of the entry with its cites renumbered
pub spared_walks : (t : Taking) (old new : Entry) (line : Line) → t.book.about.line ≡ line
    → renumbered t.numbers old ≡ Some new
    → (walked : Option ℕ) → IsSpared t old walked
    → IfSome walked (λ units. IsWalked t.book.about.kind line t.book.state.entries new units)
spared_walks t old new line line_is is None spared = tt
spared_walks t old new line line_is is (Some units) spared =
    let L : Line → Type 0 = λ z. IsWalked t.book.about.kind z t.book.state.entries new units in
    subst L line_is (walked_there t.book.about.kind t.book.about.line t.numbers spared.0 t.book.state.entries
    spared.1.0.each
    old new units is spared.1.1)
