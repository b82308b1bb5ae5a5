-- The steps of a search beside others over the values before and after them.
use Rattle.std.proofs.Common.{◌≡◌, ℕ, ◌+◌, ◌≤◌, Bool, List, [], ◌∷◌, ◌++◌, length, sym, ap, ◌∙◌, subst}
use Rattle.std.proofs.Common.{arith, Option}
use Rattle.line_instance.specs.Truths.{IsEmpty}
use Rattle.line_instance.specs.Line.{Line, IsTaskSet, IsRanked}
use Rattle.line_rules.specs.Bounds.{bound}
use Rattle.line_rules.specs.Loads.{rest}
use Rattle.line_rules.specs.Seats.{seated, AreSeated}
use Rattle.line_rules.specs.declared.types.LineKind.{LineKind}
use Rattle.line_rules.specs.declared.types.Mode.{Mode}
use Rattle.line_rules.specs.declared.types.Load.{Load}
use Rattle.line_rules.specs.declared.types.OpenFrame.{OpenFrame}
use Rattle.lemma_core.specs.Desks.{DeskView, entries, Keeps, Waits}
use Rattle.lemma_core.proofs.HistoryGrows.{keeps_none, keeps_both}
use Rattle.station_search.specs.Decide.{IsAnswered}
use Rattle.station_search.specs.inner.Work.{Accounts, DoesFew, with_last, with_cites}
use Rattle.station_search.specs.inner.Steps.{GoesDown, GoesUp, stands_with, ListsNone, ListsPassed}
use Rattle.station_search.specs.inner.Steps.{ListsOpen}
use Rattle.station_search.specs.declared.standing.Standing.{Standing}
use Rattle.station_search.specs.declared.searching_beside.Walk.{Walk}
use Rattle.station_search.specs.declared.searching_beside.Walk.TheVariants as walk_in
use Rattle.station_search.proofs.PaidSteps.{does_few, few_waits}
use Rattle.station_search.proofs.Tallies.{Outlay, outlay_lists, outlay_waits, outlay_down, outlay_up}
use Rattle.station_search.proofs.Tallies.{outlay_ends}
use Rattle.station_search.proofs.StepTurns.{HasNone, none_at}
use Rattle.station_search.proofs.WalkStates.{IsWalking, walk_grown, walk_covered, walk_puts_off, walk_down}
use Rattle.station_search.proofs.WalkStates.{walk_found, walk_up}

module _ (asked : Option Mode) (kind : LineKind) (line : Line) (ranked : IsRanked line) (X : ℕ) (R : List Bool)
    (most : ℕ) where
  module _ (mid new : DeskView) (s t : Standing) (walks : List Walk) (walk : Walk) (k : Keeps mid new)
      (now : IsWalking asked kind line X (entries mid) R most s.passed.items walks s.frame walk) where
    here : IsWalking asked kind line X (entries new) R most s.passed.items walks s.frame walk
    here = walk_grown asked kind line ranked X R most mid new s.passed.items walks s.frame walk k now

    -- a load that needs no search
    pub walking_on : ListsPassed kind line X mid new s t
        → IsWalking asked kind line X (entries new) R most t.passed.items walks t.frame walk
    walking_on p =
        let Q : Standing → Type 0 =
        λ z. IsWalking asked kind line X (entries new) R most z.passed.items walks z.frame walk in
        let h = p.passes in
        subst Q (sym p.stands) (walk_covered asked kind line ranked X R most (entries new) s.passed.items walks s.frame
        walk here p.load p.listed.next h.1.1 h.0 p.cites h.1.0 h.1.2)

    pub outlay_on : (old : DeskView) (spent spent' : ℕ) → Keeps old mid
        → Outlay asked kind line X old mid s.passed.items s.frame spent 0 → spent' ≡ spent + 1
        → ListsPassed kind line X mid new s t → Outlay asked kind line X old new t.passed.items t.frame spent' 0
    outlay_on old spent spent' before outlay more p =
        let Q : Standing → Type 0 = λ z. Outlay asked kind line X old new z.passed.items z.frame spent' 0 in
        subst Q (sym p.stands) (outlay_lists asked kind line ranked X old mid new s.passed.items s.frame spent before k
        outlay p.load p.cites 1 0 spent' p.listed.next now.chain.deep.last
        (does_few asked kind line X mid new (rest s.frame.set p.load) 1 0 (p.listed.does asked)) (omega arith) more)

    module _ (o : ListsOpen kind line X mid new s t) where
      -- its rest is empty
      pub found_beside : (all : List OpenFrame) (loads : List Load) → bound kind line X R ≤ most
          → all ≡ t.passed.items ++ t.frame ∷ [] → loads ≡ seated all [] → IsEmpty (rest s.frame.set o.load)
          → (bound kind line X R ≤ most) × (length loads ≤ most) × AreSeated kind line X R loads
      found_beside all loads bounded e d none = walk_found asked kind line ranked X R most (entries new) s.passed.items
          walks s.frame walk here o.load o.listed.next o.opens all loads bounded
          (e ∙ ap (λ (z : Standing). z.passed.items ++ z.frame ∷ []) o.stands) d none

      listed : (old : DeskView) (room spent spent' : ℕ) → Keeps old mid → room ≤ 1
          → Outlay asked kind line X old mid s.passed.items s.frame spent 0 → spent' ≡ spent + 1
          → Outlay asked kind line X old new s.passed.items (with_last s.frame o.load) spent' room
      listed old room spent spent' before few outlay more = outlay_lists asked kind line ranked X old mid new
          s.passed.items s.frame spent before k outlay o.load s.frame.cites 0 room spent' o.listed.next
          now.chain.deep.last (does_few asked kind line X mid new (rest s.frame.set o.load) 0 0 (o.listed.does asked))
          (omega (arith, few)) more

      -- after a call that added no event
      module _ (last : DeskView) (w : Waits new last) where
        -- it is put off
        pub walking_off : IsWalking asked kind line X (entries last) R most t.passed.items walks t.frame walk_in.Gapped
        walking_off =
            let Q : Standing → Type 0 =
            λ z. IsWalking asked kind line X (entries last) R most z.passed.items walks z.frame walk_in.Gapped in
            subst Q (sym o.stands) (walk_grown asked kind line ranked X R most new last s.passed.items walks
            (with_last s.frame o.load) walk_in.Gapped w.keeps (walk_puts_off asked kind line ranked X R most
            (entries new) s.passed.items walks s.frame walk here o.load o.listed.next o.opens))

        pub outlay_off : (old : DeskView) (spent spent' : ℕ) → Keeps old mid
            → Outlay asked kind line X old mid s.passed.items s.frame spent 0 → spent' ≡ spent + 1
            → Outlay asked kind line X old last t.passed.items t.frame spent' 0
        outlay_off old spent spent' before outlay more =
            let Q : Standing → Type 0 = λ z. Outlay asked kind line X old last z.passed.items z.frame spent' 0 in
            subst Q (sym o.stands) (outlay_waits asked kind line ranked X old new last s.passed.items
            (with_last s.frame o.load) spent' (keeps_both old mid new before k) w.keeps
            (listed old 0 spent spent' before (omega arith) outlay more) w)

        -- its rest is searched
        module _ (T : List Bool) (u : Standing) (d : GoesDown asked kind line X T t u) where
          goes : GoesDown asked kind line X T (stands_with s (with_last s.frame o.load) t.listing) u
          goes = let G : Standing → Type 0 = λ z. GoesDown asked kind line X T z u in subst G o.stands d

          pub walking_down : (with_this : List Walk) → with_this ≡ walks ++ walk ∷ [] → T ≡ rest s.frame.set o.load
              → (IsEmpty T → ⊥)
              → IsWalking asked kind line X (entries last) R most u.passed.items with_this u.frame walk_in.First
          walking_down with_this e same full = walk_grown asked kind line ranked X R most new last u.passed.items
              with_this u.frame walk_in.First w.keeps (walk_down asked kind line ranked X R most (entries new)
              s.passed.items walks s.frame walk here o.load o.listed.next o.opens u.passed.items with_this u.frame T
              goes.passed e goes.fresh.set goes.fresh.most goes.fresh.mode goes.fresh.belongs goes.fresh.last
              goes.fresh.cites same full)

          pub outlay_down_at : (old : DeskView) (spent spent' : ℕ) → Keeps old mid
              → Outlay asked kind line X old mid s.passed.items s.frame spent 0 → spent' ≡ spent + 1
              → Outlay asked kind line X old last u.passed.items u.frame spent' 0
          outlay_down_at old spent spent' before outlay more =
              let after = keeps_both old mid new before k in
              outlay_waits asked kind line ranked X old new last u.passed.items u.frame spent' after w.keeps
              (outlay_down asked kind line ranked X old new new s.passed.items (with_last s.frame o.load) spent' after
              (keeps_none new) u.passed.items u.frame goes.passed goes.fresh.last
              (listed old 1 spent spent' before (omega arith) outlay more)) w

  -- an entry answers the question of the frame in hand, and the one that waits last goes on after a call that added no
  -- event
  module _ (new last : DeskView) (w : Waits new last) (s t : Standing) (frame : OpenFrame) (id : ℕ)
      (g : GoesUp id s t) where
    pub walking_up : (walks above : List Walk) (walk before : Walk) → walks ≡ above ++ before ∷ [] → IsTaskSet line R
        → IsWalking asked kind line X (entries new) R most s.passed.items walks frame walk
        → IsAnswered (entries new) id frame.set frame.most X
        → IsWalking asked kind line X (entries last) R most t.passed.items above t.frame before
    walking_up walks above walk before e tasks now a =
        let P : OpenFrame → Type 0 =
        λ z. IsWalking asked kind line X (entries last) R most t.passed.items above z before in
        subst P (sym g.frame) (walk_grown asked kind line ranked X R most new last t.passed.items above
        (with_cites g.parent g.cites) before w.keeps (walk_up asked kind line ranked X R most (entries new)
        s.passed.items walks frame walk now t.passed.items above g.parent before g.passed e id g.cites g.cited tasks a))

    pub outlay_up_at : (old mid : DeskView) (spent n : ℕ) → Keeps old mid → Keeps mid new
        → (outlay : Outlay asked kind line X old mid s.passed.items frame spent 0) → n ≤ outlay.here
        → DoesFew asked kind line X mid new 1 n → Outlay asked kind line X old last t.passed.items t.frame spent 0
    outlay_up_at old mid spent n before k outlay less d =
        let P : OpenFrame → Type 0 = λ z. Outlay asked kind line X old last t.passed.items z spent 0 in
        subst P (sym g.frame) (outlay_waits asked kind line ranked X old new last t.passed.items
        (with_cites g.parent g.cites) spent (keeps_both old mid new before k) w.keeps
        (outlay_up asked kind line ranked X old mid new s.passed.items frame spent before k outlay t.passed.items
        g.parent g.cites n less d g.passed) w)

-- the loads of the frame in hand ended
pub record IsEndedBeside (asked : Option Mode) (kind : LineKind) (line : Line) (X : ℕ) (R : List Bool) (most : ℕ)
    (walks : List Walk) (walk : Walk) (old new : DeskView) (passed : List OpenFrame) (frame : OpenFrame)
    (spent : ℕ) : Type 0 where
  pub now : IsWalking asked kind line X (entries new) R most passed walks frame walk
  pub none : HasNone line X frame
  pub outlay : Outlay asked kind line X old new passed frame spent 0

pub ended_beside : (asked : Option Mode) (kind : LineKind) (line : Line) (X : ℕ) (R : List Bool) (most : ℕ)
    (walks : List Walk) (walk : Walk) (old mid new : DeskView) (s t : Standing) (spent spent' : ℕ) → spent' ≡ spent
    → (ListsNone mid new s t × HasNone line X s.frame)
    → IsWalking asked kind line X (entries mid) R most s.passed.items walks s.frame walk
    → Outlay asked kind line X old mid s.passed.items s.frame spent 0
    → IsEndedBeside asked kind line X R most walks walk old new t.passed.items t.frame spent'
ended_beside asked kind line X R most walks walk old mid new s t spent spent' e n now outlay =
    let N : ℕ → Type 0 =
    λ z. IsEndedBeside asked kind line X R most walks walk old new t.passed.items t.frame z in
    subst N (sym e) (none_at mid new s t
    (λ d fs f. IsEndedBeside asked kind line X R most walks walk old d fs f spent) n.0
    (record { now = now; none = n.1; outlay = outlay }))

-- the account where the frames are given up
module _ (asked : Option Mode) (kind : LineKind) (line : Line) (ranked : IsRanked line) (X : ℕ) (old mid new : DeskView)
    (passed : List OpenFrame) (frame : OpenFrame) (spent : ℕ) (before : Keeps old mid) (k : Keeps mid new)
    (outlay : Outlay asked kind line X old mid passed frame spent 0) where
  -- after a call that added no event
  pub leaves_waiting : (spent' : ℕ) → spent' ≡ spent → Waits mid new
      → Accounts asked kind line X old new [] spent' spent'
  leaves_waiting spent' e w = outlay_ends asked kind line ranked X old mid new passed frame spent before k outlay 0 0
      spent' spent' (few_waits asked kind line X mid new 0 w) (omega arith) (omega (arith, e)) (omega (arith, e))

  -- after a load was listed, or more
  pub leaves_listed : (m spent' : ℕ) → m ≤ 1 → spent + 1 ≤ spent' → DoesFew asked kind line X mid new m 0
      → Accounts asked kind line X old new [] spent' spent'
  leaves_listed m spent' l e d = outlay_ends asked kind line ranked X old mid new passed frame spent before k outlay m 0
      spent' spent' d (omega arith) (omega (arith, e)) (omega (arith, e, l))

  -- after the frame in hand was refuted, where one waits and where none does
  pub leaves_refuted : (n : ℕ) → n ≤ outlay.here → DoesFew asked kind line X mid new 1 n → 1 ≤ length passed
      → Accounts asked kind line X old new [] spent spent
  leaves_refuted n l d some = outlay_ends asked kind line ranked X old mid new passed frame spent before k outlay 1 n
      spent spent d l (omega arith) (omega (arith, some))

  pub leaves_top : (n : ℕ) → n ≤ outlay.here → DoesFew asked kind line X mid new 1 n
      → Accounts asked kind line X old new [] spent (spent + 1)
  leaves_top n l d = outlay_ends asked kind line ranked X old mid new passed frame spent before k outlay 1 n spent
      (spent + 1) d l (omega arith) (omega arith)
