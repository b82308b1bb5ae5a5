-- The turns of the loop of a search, over the values before and after them.
use Rattle.std.proofs.Common.{◌≡◌, ℕ, ◌+◌, ◌-◌, ◌≤◌, Bool, true, List, [], ◌∷◌, ◌++◌, length, sym, ap, ◌∙◌, subst}
use Rattle.std.proofs.Common.{arith, None, inl, inr, length-append, Option}
use Rattle.std.specs.Prelude.{slice_get}
use Rattle.line_instance.specs.Truths.{In, IsEmpty}
use Rattle.line_instance.specs.Line.{Line, IsTaskSet, IsRanked}
use Rattle.line_rules.specs.Loads.{IsLoad, Belongs, rest}
use Rattle.line_rules.specs.Bounds.{bound}
use Rattle.line_rules.specs.Order.{Counts, After, IsFollowing}
use Rattle.line_rules.specs.Entries.{IsOpen, IsUnanswered}
use Rattle.line_rules.specs.Trails.{Leads, IsTrail}
use Rattle.line_rules.specs.Seats.{seated, AreSeated}
use Rattle.line_rules.specs.declared.types.LineKind.{LineKind}
use Rattle.line_rules.specs.declared.types.Mode.{Mode}
use Rattle.line_rules.specs.declared.types.Load.{Load}
use Rattle.line_rules.specs.declared.types.Entry.{Entry}
use Rattle.line_rules.specs.declared.types.OpenFrame.{OpenFrame}
use Rattle.line_rules.proofs.Nonempty.{bound_some, member_or_empty}
use Rattle.line_rules.proofs.LongerLists.{get_push_cases}
use Rattle.line_rules.proofs.ListFacts.{get_last}
use Rattle.line_rules.proofs.Paths.{leads_depth}
use Rattle.line_rules.proofs.SeatedLoads.{path_seated, seated_long, seated_none}
use Rattle.lemma_core.specs.Desks.{DeskView, entries, Keeps}
use Rattle.station_search.specs.Mode.{frame_mode}
use Rattle.station_search.specs.Decide.{IsAnswered, Stops, HaveModes}
use Rattle.station_search.specs.Costs.{AreUnanswered}
use Rattle.station_search.specs.inner.Work.{IsBeside, with_last, with_cites, may_add, DoesFew, DoesFor, Accounts, Balances}
use Rattle.station_search.specs.declared.listings.Listing.{Listing}
use Rattle.station_search.specs.declared.sorting.Sorted.{Sorted}
use Rattle.station_search.specs.declared.sorting.Sorted.TheVariants as sorted
use Rattle.lemma_core.proofs.OwnFacts.{entries_more}
use Rattle.station_search.proofs.States.{IsSearching, starts, longer, goes_down, holds_on, trail, rest_tasks}
use Rattle.station_search.proofs.Tallies.{Tally, tally_starts, tally_lists, tally_down, tally_stops, accounts}
use Rattle.station_search.proofs.Tallies.{all_listed}

pub adds_few : (s : Sorted) → may_add s ≤ 1
adds_few (sorted.Covered id) = omega arith
adds_few sorted.Empty = omega arith
adds_few sorted.Open = omega arith

-- a load beside other cites
pub beside_cites : (line : Line) (X : ℕ) (f : OpenFrame) (w : Listing) (cites : List ℕ) → IsBeside line X f w
    → IsBeside line X (with_cites f cites) w
beside_cites line X f w cites b = record {
  walk = b.walk;
  same_cycle = b.same_cycle;
  same_mode = b.same_mode;
  same_set = b.same_set;
  same_last = b.same_last;
  times = b.times;
  chained = b.chained;
}

module _ (asked : Option Mode) (kind : LineKind) (line : Line) (ranked : IsRanked line) (X : ℕ) (R : List Bool)
    (most : ℕ) where
  -- the search's state over the entries that are there after a call
  pub grown : (old new : DeskView) (passed : List OpenFrame) (frame : OpenFrame) → Keeps old new
      → IsSearching asked kind line X (entries old) R most passed frame
      → IsSearching asked kind line X (entries new) R most passed frame
  grown old new passed frame k s =
      let h : (more : List Entry) × (entries new ≡ entries old ++ more) = entries_more old new k in
      let P : List Entry → Type 0 = λ z. IsSearching asked kind line X z R most passed frame in
      subst P (sym h.1) (longer asked kind line ranked X R most (entries old) h.0 passed frame s)

  pub first : (es : List Entry) (passed : List OpenFrame) (frame : OpenFrame) → passed ≡ [] → frame.set ≡ R
      → frame.most ≡ most → frame.mode ≡ frame_mode asked kind line R → Belongs kind frame.mode → frame.last ≡ None
      → frame.cites ≡ [] → ((i : ℕ) × In R i) → IsTaskSet line R
      → bound kind line X R ≤ most → IsSearching asked kind line X es R most passed frame
  first es passed frame e s m d b l q some tasks bounded =
      let P : List OpenFrame → Type 0 = λ z. IsSearching asked kind line X es R most z frame in
      let A : List Bool → Type 0 = λ z. (i : ℕ) × In z i in
      let B : List Bool → Type 0 = λ z. IsTaskSet line z in
      let C : List Bool → Type 0 = λ z. frame.mode ≡ frame_mode asked kind line z in
      subst P (sym e) (starts asked kind line ranked X R most es [] frame (s, m) b l q (subst A (sym s) some)
      (subst B (sym s) tasks) (subst C (sym s) d) (omega
      (arith, m, bounded, bound_some kind line X R some.0 some.1)) (λ k f g. absurd (cc)))

  pub first_tally : (old : DeskView) (passed : List OpenFrame) (frame : OpenFrame) (spent : ℕ) → passed ≡ []
      → frame.set ≡ R → frame.most ≡ most → frame.last ≡ None → spent ≡ 0
      → (old.alone ≡ true → IsUnanswered (entries old) R most X) → Tally asked kind line X old old passed frame spent 0
  first_tally old passed frame spent e s m l z un =
      let P : List OpenFrame → Type 0 = λ z. Tally asked kind line X old old z frame spent 0 in
      let N : ℕ → Type 0 = λ z. Tally asked kind line X old old [] frame z 0 in
      let A : List Bool → Type 0 = λ z. IsUnanswered (entries old) z frame.most X in
      let B : ℕ → Type 0 = λ z. IsUnanswered (entries old) R z X in
      subst P (sym e) (subst N (sym z) (tally_starts asked kind line ranked X old frame l
      (λ a. subst A (sym s) (subst B (sym m) (un a)))))

  module _ (es : List Entry) (passed : List OpenFrame) (frame : OpenFrame)
      (s : IsSearching asked kind line X es R most passed frame) where
    -- no frame has more stations than the question
    pub stations_few : most ≤ 1024 → frame.most ≤ 1024
    stations_few l = omega (arith, l, leads_depth kind line X es passed R most frame.set frame.most s.leads)

    -- where no frame waits, the one in hand has the question
    pub answers_asked : (es' : List Entry) (id : ℕ) → passed ≡ [] → IsAnswered es' id frame.set frame.most X
        → IsAnswered es' id R most X
    answers_asked es' id e a =
        let D : List OpenFrame → Type 0 = λ z. Leads kind line X es R most z frame.set frame.most in
        let h : (frame.set ≡ R) × (frame.most ≡ most) = subst D e s.leads in
        let A : List Bool → Type 0 = λ z. IsAnswered es' id z frame.most X in
        let B : ℕ → Type 0 = λ z. IsAnswered es' id R z X in
        subst B h.1 (subst A h.0 a)

    have_modes : HaveModes asked kind line (passed ++ frame ∷ [])
    have_modes k f e = elim (get_push_cases passed frame f k e) [
      | inl h ↦ (s.held k f h.1).has_mode
      | inr h ↦ (let P : OpenFrame → Type 0 = λ z. z.mode ≡ frame_mode asked kind line z.set in subst P h.1 s.has_mode)
    ]

    -- the units ended
    pub stops : (all : List OpenFrame) (l : Load) (left : ℕ) → bound kind line X R ≤ most → all ≡ passed ++ frame ∷ []
        → left ≡ 0 → IsFollowing line X frame.mode frame.set frame.last l → Stops asked kind line X es R most left all
    stops all l left bounded e z next =
        let P : List OpenFrame → Type 0 = λ z. IsTrail kind line X es R most z in
        let M : List OpenFrame → Type 0 = λ z. HaveModes asked kind line z in
        record {
          bounded = bounded;
          trail = subst P (sym e) (trail asked kind line ranked X R most es passed frame s);
          spent = z;
          further = λ k f g long. elim (get_push_cases passed frame f k
              (sym (ap (λ (z : List OpenFrame). slice_get z k) e) ∙ g)) [
                | inl h ↦ absurd (omega (
                  arith,
                  h.0,
                  long,
                  ap (λ (z : List OpenFrame). length z) e,
                  length-append passed (frame ∷ []),
                ))
                | inr h ↦ (let Q : OpenFrame → Type 0 = λ z. (l : Load) × IsLoad line X z.mode z.set l
                    × After line z.last l in subst Q h.1 (l, next.load, next.above))
              ];
          modes = subst M (sym e) have_modes;
        }

    module _ (l : Load) (next : IsFollowing line X frame.mode frame.set frame.last l)
        (o : IsOpen kind line X frame.mode frame.set frame.most l) where
      -- the rest of the load is searched
      pub down : (all : List OpenFrame) (below : OpenFrame) (set : List Bool) → all ≡ passed ++ with_last frame l ∷ []
          → below.set ≡ set → below.most ≡ frame.most - 1 → below.mode ≡ frame_mode asked kind line set
          → Belongs kind below.mode → below.last ≡ None → below.cites ≡ []
          → set ≡ rest frame.set l → (IsEmpty set → ⊥) → IsSearching asked kind line X es R most all below
      down all below set e t m d b q z same full =
          let P : List OpenFrame → Type 0 = λ z. IsSearching asked kind line X es R most z below in
          let D : List Bool → Type 0 = λ z. Leads kind line X es R most (passed ++ with_last frame l ∷ []) z
          below.most in
          let N : ℕ → Type 0 = λ z. Leads kind line X es R most (passed ++ with_last frame l ∷ []) (rest frame.set l)
          z in
          let A : List Bool → Type 0 = λ z. (i : ℕ) × In z i in
          let B : List Bool → Type 0 = λ z. IsTaskSet line z in
          let C : List Bool → Type 0 = λ z. below.mode ≡ frame_mode asked kind line z in
          let some : (i : ℕ) × In set i = elim (member_or_empty set) [ inl p ↦ p | inr n ↦ absurd (full n) ] in
          let I : List Bool → Type 0 = λ z. In z some.0 in
          subst P (sym e) (starts asked kind line ranked X R most es (passed ++ with_last frame l ∷ []) below
          (subst D (sym (t ∙ same)) (subst N (sym m) (goes_down asked kind line ranked X R most es passed frame s l next
          o)))
          b q z (subst A (sym t) some) (subst B (sym (t ∙ same)) (rest_tasks line frame.set l s.tasks))
          (subst C (sym t) d)
          (omega (arith, m, o.bound, bound_some kind line X (rest frame.set l) some.0 (subst I same some.1)))
          (holds_on asked kind line ranked X R most es passed frame s l next o))

      -- the rest of the load is empty
      pub found : (all : List OpenFrame) (loads : List Load) → bound kind line X R ≤ most
          → all ≡ passed ++ with_last frame l ∷ [] → loads ≡ seated all [] → IsEmpty (rest frame.set l)
          → (bound kind line X R ≤ most) × (length loads ≤ most) × AreSeated kind line X R loads
      found all loads bounded e d none =
          let path : Leads kind line X es R most (passed ++ with_last frame l ∷ []) (rest frame.set l)
          (frame.most - 1) = goes_down asked kind line ranked X R most es passed frame s l next o in
          let P : List OpenFrame → Type 0 = λ z. Leads kind line X es R most z (rest frame.set l) (frame.most - 1) in
          let leads : Leads kind line X es R most all (rest frame.set l) (frame.most - 1) = subst P (sym e) path in
          let A : List Load → Type 0 = λ z. AreSeated kind line X R z in (
            bounded,
            omega (
              arith,
              ap (λ (z : List Load). length z) d,
              seated_long kind line X es all R most (rest frame.set l) (frame.most - 1) [] leads,
              leads_depth kind line X es all R most (rest frame.set l) (frame.most - 1) leads,
            ),
            subst A (sym d) (path_seated kind line X es all R most (rest frame.set l) (frame.most - 1) [] leads
                (seated_none kind line X (rest frame.set l) none)),
          )

  module _ (old mid new : DeskView) (passed : List OpenFrame) (frame : OpenFrame) (spent : ℕ) (before : Keeps old mid)
      (k : Keeps mid new) (t : Tally asked kind line X old mid passed frame spent 0) where
    -- memory ended after a load was listed, or more
    pub gives_up : (m spent' : ℕ) → DoesFew asked kind line X mid new m 0 → m ≤ 1 → spent + 1 ≤ spent'
        → Accounts asked kind line X old new [] spent' spent'
    gives_up m spent' d l e = accounts asked kind line ranked X old mid new passed frame spent before k t m 0 spent'
        d (omega arith) (omega (arith, e)) (omega (arith, l, e))

    -- the frame was published
    pub refuted : (es : List Entry) → IsSearching asked kind line X es R most passed frame
        → ((l : Load) → IsLoad line X frame.mode frame.set l → After line frame.last l → ⊥)
        → ((asked' : Option Mode) (kind' : LineKind) (line' : Line) (n : ℕ)
        → frame.mode ≡ frame_mode asked' kind' line' frame.set
        → Counts line' (IsLoad line' X frame.mode frame.set) n
        → (mid.alone ≡ true → IsUnanswered (entries mid) frame.set frame.most X)
        → DoesFor asked' kind' line' X mid new frame.set 1 n) → DoesFor asked kind line X mid new frame.set 1 t.here
    refuted es s none publishes = publishes asked kind line t.here s.has_mode
        (all_listed line ranked X frame t.here s.deep.last none t.reckoned.frame_units)
        (λ a. t.unanswered (sym before.alone ∙ a) (length passed) frame (get_last passed frame))

    -- the rest of a load is searched
    pub down_tally : (es : List Entry) (all : List OpenFrame) (below : OpenFrame) (l : Load) (set : List Bool)
        (m spent' : ℕ) → IsSearching asked kind line X es R most passed frame
        → IsFollowing line X frame.mode frame.set frame.last l
        → DoesFor asked kind line X mid new (rest frame.set l) m 0 → m ≡ 0
        → all ≡ passed ++ with_last frame l ∷ [] → below.set ≡ set → below.most ≡ frame.most - 1 → below.last ≡ None
        → spent' ≡ spent + 1 → (mid.alone ≡ true → IsUnanswered (entries new) set (frame.most - 1) X)
        → Tally asked kind line X old new all below spent' 0
    down_tally es all below l set m spent' s next d z e q r last more un =
        let P : List OpenFrame → Type 0 = λ z. Tally asked kind line X old new z below spent' 0 in
        let A : List Bool → Type 0 = λ z. IsUnanswered (entries new) z below.most X in
        let B : ℕ → Type 0 = λ z. IsUnanswered (entries new) set z X in
        subst P (sym e) (tally_down asked kind line ranked X old new passed (with_last frame l) below spent' last
        (λ a. subst A (sym q) (subst B (sym r) (un (before.alone ∙ a))))
        (tally_lists asked kind line ranked X old mid new passed frame spent before k t es R most l frame.cites m 1
        spent' s.leads next s.deep.last d (omega (arith, z)) more))

-- the account of a search whose units ended
pub stopped : (asked : Option Mode) (kind : LineKind) (line : Line) (ranked : IsRanked line) (X : ℕ)
    (old new : DeskView) (passed all : List OpenFrame) (frame : OpenFrame) (spent : ℕ) → all ≡ passed ++ frame ∷ []
    → Tally asked kind line X old new passed frame spent 0
    → Balances asked kind line X old new all spent spent × (old.alone ≡ true → AreUnanswered (entries new) X all)
stopped asked kind line ranked X old new passed all frame spent e t =
    let P : List OpenFrame → Type 0 = λ z. Balances asked kind line X old new z spent spent
    × (old.alone ≡ true → AreUnanswered (entries new) X z) in
    subst P (sym e) (tally_stops asked kind line ranked X old new passed frame spent t, t.unanswered)
