-- The steps of a search over the values before and after them.
use Rattle.std.proofs.Common.{◌≡◌, ℕ, ◌+◌, ◌-◌, ◌≤◌, Bool, true, List, [], ◌∷◌, ◌++◌, length, refl, sym, ap, ◌∙◌, subst}
use Rattle.std.proofs.Common.{arith, Option}
use Rattle.line_instance.specs.Truths.{IsEmpty}
use Rattle.line_instance.specs.Line.{Line, IsTaskSet, IsRanked}
use Rattle.line_rules.specs.Bounds.{bound}
use Rattle.line_rules.specs.Loads.{IsLoad, rest}
use Rattle.line_rules.specs.Order.{After, IsFollowing}
use Rattle.line_rules.specs.Trails.{Leads}
use Rattle.line_rules.specs.Entries.{IsUnanswered}
use Rattle.line_rules.specs.Seats.{seated, AreSeated}
use Rattle.line_rules.specs.declared.types.LineKind.{LineKind}
use Rattle.line_rules.specs.declared.types.Mode.{Mode}
use Rattle.line_rules.specs.declared.types.Load.{Load}
use Rattle.line_rules.specs.declared.types.Entry.{Entry}
use Rattle.line_rules.specs.declared.types.OpenFrame.{OpenFrame}
use Rattle.lemma_core.specs.Desks.{DeskView, entries, Keeps, Waits}
use Rattle.station_search.specs.Decide.{IsAnswered, Stops}
use Rattle.station_search.specs.Costs.{AreUnanswered}
use Rattle.station_search.specs.inner.Work.{IsBeside, Accounts, Balances, DoesFor, DoesFew, with_last}
use Rattle.station_search.specs.inner.Steps.{IsReady, GoesDown, GoesUp, stands_with, ListsNone, ListsPassed, ListsOpen}
use Rattle.station_search.specs.declared.listings.Listing.{Listing}
use Rattle.station_search.specs.declared.standing.Standing.{Standing}
use Rattle.station_search.proofs.Pairs.{paired_pop, paired_last}
use Rattle.station_search.proofs.States.{IsSearching, covered, goes_up, answer_cites}
use Rattle.station_search.proofs.PaidSteps.{does_few, few_waits}
use Rattle.station_search.proofs.Tallies.{Tally, tally_lists, tally_up, accounts}
use Rattle.station_search.proofs.LoopTurns.{grown, stops, stopped, found, down, down_tally}

-- what was published is at most so much, and so at most more
pub for_more : (asked : Option Mode) (kind : LineKind) (line : Line) (X : ℕ) (old new : DeskView) (T : List Bool)
    (m n : ℕ) → m ≤ n → DoesFor asked kind line X old new T m 0 → DoesFor asked kind line X old new T n 0
for_more asked kind line X old new T m n l d = record {
  items = d.items;
  done = d.done;
  few = omega (arith, l, d.few);
  within = d.within;
  fresh = d.fresh;
}

pub few_more : (asked : Option Mode) (kind : LineKind) (line : Line) (X : ℕ) (old new : DeskView) (T : List Bool)
    (m : ℕ) → m ≤ 1 → DoesFor asked kind line X old new T m 0 → DoesFew asked kind line X old new 1 0
few_more asked kind line X old new T m l d = record { items = d.items; done = d.done; few = omega (arith, l, d.few) }

-- units used since a count u, after a listing that took k
pub used_none : (a b k u : ℕ) → a ≡ b + k → k ≡ 0 → a - u ≡ b - u
used_none a b k u e z = omega (arith, e, z)

pub used_one : (a b k u : ℕ) → a ≡ b + k → k ≡ 1 → u ≤ b → a - u ≡ (b - u) + 1
used_one a b k u e z l = omega (arith, e, z, l)

pub used_still : (a b k u : ℕ) → a ≡ b + k → u ≤ b → u ≤ a
used_still a b k u e l = omega (arith, e, l)

-- what is nothing is at most anything
pub at_least : (n : ℕ) → 0 ≤ n
at_least n = omega arith

pub no_more : (n : ℕ) → n ≤ n
no_more n = omega arith

-- where nothing was listed, a fact of the desk and of the frames is one still
pub none_at : (mid new : DeskView) (s t : Standing) (P : DeskView → List OpenFrame → OpenFrame → Type 0)
    → ListsNone mid new s t → P mid s.passed.items s.frame → P new t.passed.items t.frame
none_at mid new s t P n p =
    let Q : Standing → Type 0 = λ z. P new z.passed.items z.frame in
    let D : DeskView → Type 0 = λ z. P z s.passed.items s.frame in
    subst Q (sym n.stays) (subst D (sym n.desk) p)

-- no load of the frame is left
abbrev pub HasNone : Line → ℕ → OpenFrame → Type 0
HasNone line X f = (l : Load) → IsLoad line X f.mode f.set l → After line f.last l → ⊥

-- another frame and listing are in hand
pub ready_with : (line : Line) (X : ℕ) (s t : Standing) (f : OpenFrame) (h : Listing) → t ≡ stands_with s f h
    → IsReady line X s → IsReady line X t
ready_with line X s t f h e r =
    let P : Standing → Type 0 = λ z. IsReady line X z in
    subst P (sym e) (record { room = r.room; paired = r.paired })

-- a frame that waited is in hand
module _ (line : Line) (X id : ℕ) (s t : Standing) (g : GoesUp id s t) (r : IsReady line X s) where
  pub up_ready : IsReady line X t
  up_ready = record {
    room = g.room r.room;
    paired = paired_pop line X s.passed.items t.passed.items s.listings.items t.listings.items g.parent t.listing
        g.passed g.listings r.paired;
  }

  pub up_beside : IsBeside line X t.frame t.listing
  up_beside =
      let P : OpenFrame → Type 0 = λ z. IsBeside line X z t.listing in
      subst P (sym g.frame) (paired_last line X s.passed.items t.passed.items s.listings.items t.listings.items g.parent
      t.listing g.passed g.listings r.paired g.cites)

-- the steps of the search of a question alone
module _ (asked : Option Mode) (kind : LineKind) (line : Line) (ranked : IsRanked line) (X : ℕ) (R : List Bool)
    (most : ℕ) where
  module _ (mid new : DeskView) (s t : Standing) (k : Keeps mid new)
      (now : IsSearching asked kind line X (entries mid) R most s.passed.items s.frame) where
    here : IsSearching asked kind line X (entries new) R most s.passed.items s.frame
    here = grown asked kind line ranked X R most mid new s.passed.items s.frame k now

    -- a load that needs no search
    pub searching_on : ListsPassed kind line X mid new s t
        → IsSearching asked kind line X (entries new) R most t.passed.items t.frame
    searching_on p =
        let Q : Standing → Type 0 = λ z. IsSearching asked kind line X (entries new) R most z.passed.items z.frame in
        let h = p.passes in
        subst Q (sym p.stands) (covered asked kind line ranked X R most (entries new) s.passed.items s.frame here p.load
        p.listed.next h.0 p.cites h.1.0 h.1.1 h.1.2)

    pub tally_on : (old : DeskView) (spent spent' : ℕ) → Keeps old mid
        → Tally asked kind line X old mid s.passed.items s.frame spent 0 → spent' ≡ spent + 1
        → ListsPassed kind line X mid new s t → Tally asked kind line X old new t.passed.items t.frame spent' 0
    tally_on old spent spent' before tally more p =
        let Q : Standing → Type 0 = λ z. Tally asked kind line X old new z.passed.items z.frame spent' 0 in
        subst Q (sym p.stands) (tally_lists asked kind line ranked X old mid new s.passed.items s.frame spent before k
        tally (entries mid) R most p.load p.cites 1 0 spent' now.leads p.listed.next now.deep.last
        (p.listed.does asked) (omega arith) more)

    module _ (o : ListsOpen kind line X mid new s t) where
      -- its rest is empty
      pub found_at : (all : List OpenFrame) (loads : List Load) → bound kind line X R ≤ most
          → all ≡ t.passed.items ++ t.frame ∷ [] → loads ≡ seated all [] → IsEmpty (rest s.frame.set o.load)
          → (bound kind line X R ≤ most) × (length loads ≤ most) × AreSeated kind line X R loads
      found_at all loads bounded e d none = found asked kind line ranked X R most (entries new) s.passed.items s.frame
          here o.load o.listed.next o.opens all loads bounded
          (e ∙ ap (λ (z : Standing). z.passed.items ++ z.frame ∷ []) o.stands) d none

      -- its rest is searched
      module _ (T : List Bool) (u : Standing) (d : GoesDown asked kind line X T t u) where
        goes : GoesDown asked kind line X T (stands_with s (with_last s.frame o.load) t.listing) u
        goes = let G : Standing → Type 0 = λ z. GoesDown asked kind line X T z u in subst G o.stands d

        pub searching_down : T ≡ rest s.frame.set o.load → (IsEmpty T → ⊥)
            → IsSearching asked kind line X (entries new) R most u.passed.items u.frame
        searching_down same full = down asked kind line ranked X R most (entries new) s.passed.items s.frame here o.load
            o.listed.next o.opens u.passed.items u.frame T goes.passed goes.fresh.set goes.fresh.most goes.fresh.mode
            goes.fresh.belongs goes.fresh.last goes.fresh.cites same full

        pub tally_down_at : (old : DeskView) (spent spent' : ℕ) → Keeps old mid
            → Tally asked kind line X old mid s.passed.items s.frame spent 0 → spent' ≡ spent + 1
            → (mid.alone ≡ true → IsUnanswered (entries new) T (s.frame.most - 1) X)
            → Tally asked kind line X old new u.passed.items u.frame spent' 0
        tally_down_at old spent spent' before tally more un = down_tally asked kind line ranked X R most old mid new
            s.passed.items s.frame spent before k tally (entries mid) u.passed.items u.frame o.load T 0 spent' now
            o.listed.next (o.listed.does asked) refl goes.passed goes.fresh.set goes.fresh.most goes.fresh.last more un

  -- an entry answers the question of the frame in hand, and the one that waits last goes on
  module _ (s t : Standing) (frame : OpenFrame) (id : ℕ) (g : GoesUp id s t) where
    pub searching_up : (es : List Entry) → IsTaskSet line R
        → IsSearching asked kind line X es R most s.passed.items frame → IsAnswered es id frame.set frame.most X
        → IsSearching asked kind line X es R most t.passed.items t.frame
    searching_up es tasks now a =
        let P : OpenFrame → Type 0 = λ z. IsSearching asked kind line X es R most t.passed.items z in
        subst P (sym g.frame) (goes_up asked kind line ranked X R most es s.passed.items t.passed.items frame g.parent
        id g.cites g.passed g.cited tasks now (λ T r q few. answer_cites es id frame.set T frame.most r X q few a))

    pub tally_up_at : (old mid new : DeskView) (spent : ℕ) (before : Keeps old mid) (k : Keeps mid new)
        (tally : Tally asked kind line X old mid s.passed.items frame spent 0) (es : List Entry)
        → DoesFor asked kind line X mid new frame.set 1 tally.here
        → Leads kind line X es R most s.passed.items frame.set frame.most
        → Tally asked kind line X old new t.passed.items t.frame spent 0
    tally_up_at old mid new spent before k tally es d leads =
        let P : OpenFrame → Type 0 = λ z. Tally asked kind line X old new t.passed.items z spent 0 in
        subst P (sym g.frame) (tally_up asked kind line ranked X old mid new s.passed.items frame spent before k tally
        t.passed.items g.parent g.cites es R most d g.passed leads)

-- the loads of the frame in hand ended
pub record IsEnded (asked : Option Mode) (kind : LineKind) (line : Line) (X : ℕ) (R : List Bool) (most : ℕ)
    (old new : DeskView) (passed : List OpenFrame) (frame : OpenFrame) (spent : ℕ) : Type 0 where
  pub now : IsSearching asked kind line X (entries new) R most passed frame
  pub none : HasNone line X frame
  pub tally : Tally asked kind line X old new passed frame spent 0

pub ended : (asked : Option Mode) (kind : LineKind) (line : Line) (X : ℕ) (R : List Bool) (most : ℕ)
    (old mid new : DeskView) (s t : Standing) (spent spent' : ℕ) → spent' ≡ spent
    → (ListsNone mid new s t × HasNone line X s.frame)
    → IsSearching asked kind line X (entries mid) R most s.passed.items s.frame
    → Tally asked kind line X old mid s.passed.items s.frame spent 0
    → IsEnded asked kind line X R most old new t.passed.items t.frame spent'
ended asked kind line X R most old mid new s t spent spent' e n now tally =
    let N : ℕ → Type 0 = λ z. IsEnded asked kind line X R most old new t.passed.items t.frame z in
    subst N (sym e) (none_at mid new s t (λ d fs f. IsEnded asked kind line X R most old d fs f spent) n.0
    (record { now = now; none = n.1; tally = tally }))

-- no unit is left for a load that follows
pub stops_at : (asked : Option Mode) (kind : LineKind) (line : Line) (ranked : IsRanked line) (X : ℕ) (R : List Bool)
    (most : ℕ) (mid new : DeskView) (s t : Standing) (all : List OpenFrame) (left : ℕ) → bound kind line X R ≤ most
    → all ≡ t.passed.items ++ t.frame ∷ []
    → (ListsNone mid new s t × (left ≡ 0) × ((l : Load) × IsFollowing line X s.frame.mode s.frame.set s.frame.last l))
    → IsSearching asked kind line X (entries mid) R most s.passed.items s.frame
    → Stops asked kind line X (entries new) R most left all
stops_at asked kind line ranked X R most mid new s t all left bounded e n now =
    none_at mid new s t
    (λ d fs f. all ≡ fs ++ f ∷ [] → Stops asked kind line X (entries d) R most left all) n.0
    (λ q. stops asked kind line ranked X R most (entries mid) s.passed.items s.frame now all n.2.0 left bounded q n.1
    n.2.1) e

pub stopped_at : (asked : Option Mode) (kind : LineKind) (line : Line) (ranked : IsRanked line) (X : ℕ)
    (old mid new : DeskView) (s t : Standing) (all : List OpenFrame) (spent spent' : ℕ) → spent' ≡ spent
    → all ≡ t.passed.items ++ t.frame ∷ [] → ListsNone mid new s t
    → Tally asked kind line X old mid s.passed.items s.frame spent 0
    → Balances asked kind line X old new all spent' spent' × (old.alone ≡ true → AreUnanswered (entries new) X all)
stopped_at asked kind line ranked X old mid new s t all spent spent' e q n tally =
    let N : ℕ → Type 0 = λ z. Balances asked kind line X old new all z z
    × (old.alone ≡ true → AreUnanswered (entries new) X all) in
    subst N (sym e) (none_at mid new s t (λ d fs f. all ≡ fs ++ f ∷ []
    → Balances asked kind line X old d all spent spent × (old.alone ≡ true → AreUnanswered (entries d) X all)) n
    (λ w. stopped asked kind line ranked X old mid s.passed.items all s.frame spent w tally) q)

-- memory ended where a frame whose loads ended was to be published, or the one above it to go on
module _ (asked : Option Mode) (kind : LineKind) (line : Line) (ranked : IsRanked line) (X : ℕ) (old mid new : DeskView)
    (passed : List OpenFrame) (frame : OpenFrame) (spent : ℕ) (before : Keeps old mid) (k : Keeps mid new)
    (tally : Tally asked kind line X old mid passed frame spent 0) where
  pub ends_waiting : Waits mid new → Accounts asked kind line X old new [] spent spent
  ends_waiting w = accounts asked kind line ranked X old mid new passed frame spent before k tally 0 0 spent
      (few_waits asked kind line X mid new 0 w) (omega arith) (omega arith) (omega arith)

  pub ends_refuted : DoesFor asked kind line X mid new frame.set 1 tally.here → 1 ≤ length passed
      → Accounts asked kind line X old new [] spent spent
  ends_refuted d some = accounts asked kind line ranked X old mid new passed frame spent before k tally 1 tally.here
      spent (does_few asked kind line X mid new frame.set 1 tally.here d) (omega arith) (omega arith)
      (omega (arith, some))
