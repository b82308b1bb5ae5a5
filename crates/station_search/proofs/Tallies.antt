-- What a search has published and spent so far, and how each of its steps changes that.
use Rattle.std.proofs.Common.{◌≡◌, ℕ, zero, suc, ◌+◌, ◌-◌, ◌≤◌, Bool, true, List, [], ◌∷◌, ◌++◌, length, refl, sym, ap}
use Rattle.std.proofs.Common.{◌∙◌, subst, inl, inr, arith, Option, Some, None, length-append}
use Rattle.std.specs.Prelude.{slice_get}
use Rattle.line_instance.specs.Truths.{In}
use Rattle.line_instance.specs.Line.{Line, IsRanked}
use Rattle.line_rules.specs.Loads.{IsLoad, taken, rest}
use Rattle.line_rules.specs.Order.{UpTo, After, IsFollowing, Counts}
use Rattle.line_rules.specs.Entries.{IsUnanswered}
use Rattle.line_rules.specs.Units.{UnitsOf, FrameUnits, UnitsIn}
use Rattle.line_rules.specs.Trails.{LastIsLoad, Leads}
use Rattle.line_rules.specs.declared.types.LineKind.{LineKind}
use Rattle.line_rules.specs.declared.types.Mode.{Mode}
use Rattle.line_rules.specs.declared.types.Load.{Load}
use Rattle.line_rules.specs.declared.types.Entry.{Entry}
use Rattle.line_rules.specs.declared.types.OpenFrame.{OpenFrame}
use Rattle.line_rules.proofs.CoverFacts.{counts_none, counts_same}
use Rattle.line_rules.proofs.ListFacts.{get_longer, get_push_cases, get_last}
use Rattle.line_rules.proofs.Paths.{units_push, units_push_frame, units_pop_frame, all_up_to, rest_inside, rest_without}
use Rattle.line_rules.proofs.Paths.{leads_inside}
use Rattle.lemma_core.specs.History.{Item}
use Rattle.lemma_core.specs.Desks.{DeskView, entries, Keeps, Waits}
use Rattle.lemma_core.specs.Own.{added_of}
use Rattle.station_search.specs.Costs.{AreUnanswered}
use Rattle.station_search.specs.inner.Work.{with_last, with_cites, Does, DoesFew, DoesFor, Accounts, Balances}
use Rattle.station_search.proofs.Events.{waits_none}
use Rattle.station_search.proofs.PaidSteps.{does_waits, does_both, does_still, fresh_both, added_length}
use Rattle.station_search.proofs.PaidSteps.{unanswered_still}

-- What the steps so far come to: these own events, which paid so much; the units of the frames that wait and of the one
-- in hand; and the entries added, the frames that wait and some room are no more than what was spent.
pub record IsReckoned (asked : Option Mode) (kind : LineKind) (line : Line) (X : ℕ) (old new : DeskView)
    (passed : List OpenFrame) (frame : OpenFrame) (items : List Item) (published above here spent room : ℕ)
    : Type 0 where
  pub done : Does asked kind line X old new items published
  pub passed_units : UnitsIn line X passed above
  pub frame_units : FrameUnits line X frame here
  pub few : length (added_of items) + length passed + room ≤ spent

-- What was done and the units of the frames are all that was spent. Where the desk is alone, what was paid are the units
-- of the entries added, and no entry answers a frame.
pub record Tally (asked : Option Mode) (kind : LineKind) (line : Line) (X : ℕ) (old new : DeskView)
    (passed : List OpenFrame) (frame : OpenFrame) (spent room : ℕ) : Type 0 where
  pub items : List Item
  pub published : ℕ
  pub above : ℕ
  pub here : ℕ
  pub reckoned : IsReckoned asked kind line X old new passed frame items published above here spent room
  pub sum : published + (above + here) ≡ spent
  pub fresh : old.alone ≡ true → UnitsOf line (added_of items) published
  pub unanswered : old.alone ≡ true → AreUnanswered (entries new) X (passed ++ frame ∷ [])

-- What was done and the units of the frames are at most what was spent, as where loads are listed twice.
pub record Outlay (asked : Option Mode) (kind : LineKind) (line : Line) (X : ℕ) (old new : DeskView)
    (passed : List OpenFrame) (frame : OpenFrame) (spent room : ℕ) : Type 0 where
  pub items : List Item
  pub published : ℕ
  pub above : ℕ
  pub here : ℕ
  pub reckoned : IsReckoned asked kind line X old new passed frame items published above here spent room
  pub within : published + (above + here) ≤ spent

-- each frame that waits has a task that the set at the end hasn't
leads_strict : (kind : LineKind) (line : Line) (X : ℕ) (es : List Entry) (fs : List OpenFrame) (R : List Bool)
    (most : ℕ) (R' : List Bool) (most' : ℕ) → Leads kind line X es R most fs R' most'
    → (k : ℕ) (f : OpenFrame) → slice_get fs k ≡ Some f → (i : ℕ) × (In f.set i × (In R' i → ⊥))
leads_strict kind line X es [] R most R' most' h k f e = absurd (cc)
leads_strict kind line X es (g ∷ fs) R most R' most' h zero f e =
    let same : g ≡ f = cc in
    let i : (i : ℕ) × In (taken h.0) i = h.1.2.load.some in
    let P : OpenFrame → Type 0 = λ z. In z.set i.0 in (
      i.0,
      (
        subst P same (h.1.2.load.within i.0 i.1),
        λ m. rest_without g.set h.0 i.0 i.1
            (leads_inside kind line X es fs (rest g.set h.0) (g.most - 1) R' most' h.1.3 i.0 m),
      ),
    )
leads_strict kind line X es (g ∷ fs) R most R' most' h (suc k) f e =
    leads_strict kind line X es fs (rest g.set h.0) (g.most - 1) R' most' h.1.3 k f e

-- each frame has a task that the rest of a load of the last frame hasn't
rest_lacks : (kind : LineKind) (line : Line) (X : ℕ) (es : List Entry) (R : List Bool) (most : ℕ)
    (passed : List OpenFrame) (frame : OpenFrame) (l : Load) → Leads kind line X es R most passed frame.set frame.most
    → IsLoad line X frame.mode frame.set l → (k : ℕ) (f : OpenFrame) → slice_get (passed ++ frame ∷ []) k ≡ Some f
    → (i : ℕ) × (In f.set i × (In (rest frame.set l) i → ⊥))
rest_lacks kind line X es R most passed frame l leads load k f e = elim (get_push_cases passed frame f k e) [
  | inl h ↦
      let s : (i : ℕ) × (In f.set i × (In frame.set i → ⊥)) =
      leads_strict kind line X es passed R most frame.set frame.most leads k f h.1 in
      (s.0, (s.1.0, λ m. s.1.1 (rest_inside frame.set l s.0 m)))
  | inr h ↦
      let Q : OpenFrame → Type 0 = λ z. In z.set load.some.0 in (
        load.some.0,
        (
          subst Q h.1 (load.within load.some.0 load.some.1),
          λ m. rest_without frame.set l load.some.0 load.some.1 m,
        ),
      )
]

-- the questions of the frames stay the same where the last one gets another last load and other cites
same_questions : (X : ℕ) (es : List Entry) (passed : List OpenFrame) (frame new : OpenFrame) → new.set ≡ frame.set
    → new.most ≡ frame.most → AreUnanswered es X (passed ++ frame ∷ []) → AreUnanswered es X (passed ++ new ∷ [])
same_questions X es passed frame new s m un k f e = elim (get_push_cases passed new f k e) [
  | inl h ↦ un k f (get_longer passed (frame ∷ []) k f h.1)
  | inr h ↦
      let P : OpenFrame → Type 0 = λ z. IsUnanswered es z.set z.most X in
      let A : List Bool → Type 0 = λ z. IsUnanswered es z new.most X in
      let B : ℕ → Type 0 = λ z. IsUnanswered es frame.set z X in
      subst P h.1 (subst A (sym s) (subst B (sym m) (un (length passed) frame (get_last passed frame))))
]

none_counts : (line : Line) (X : ℕ) (frame : OpenFrame) → frame.last ≡ None → FrameUnits line X frame 0
none_counts line X frame e = let P : Option Load → Type 0 =
    λ z. Counts line (λ l. IsLoad line X frame.mode frame.set l × UpTo line z l) 0 in
    subst P (sym e) (counts_none line (λ l. IsLoad line X frame.mode frame.set l × UpTo line None l) (λ l p. p.1))

-- a further frame that no entry answers
one_more : (X : ℕ) (es : List Entry) (passed : List OpenFrame) (frame : OpenFrame)
    → ((k : ℕ) (f : OpenFrame) → slice_get passed k ≡ Some f → IsUnanswered es f.set f.most X)
    → IsUnanswered es frame.set frame.most X → AreUnanswered es X (passed ++ frame ∷ [])
one_more X es passed frame all un k f e = elim (get_push_cases passed frame f k e) [
  | inl h ↦ all k f h.1
  | inr h ↦ (let P : OpenFrame → Type 0 = λ z. IsUnanswered es z.set z.most X in subst P h.1 un)
]

-- the account of a search that did nothing
pub idle : (asked : Option Mode) (kind : LineKind) (line : Line) (X : ℕ) (old : DeskView) (used most : ℕ)
    → Accounts asked kind line X old old [] used most
idle asked kind line X old used most = record {
  items = [];
  published = 0;
  listed = 0;
  done = does_waits asked kind line X old old (waits_none old);
  framed = refl;
  within = omega arith;
  few = omega arith;
}

-- where no load follows, a frame's loads are all of its set
pub all_listed : (line : Line) (ranked : IsRanked line) (X : ℕ) (frame : OpenFrame) (here : ℕ)
    → LastIsLoad line X frame.mode frame.set frame.last
    → ((l : Load) → IsLoad line X frame.mode frame.set l → After line frame.last l → ⊥) → FrameUnits line X frame here
    → Counts line (IsLoad line X frame.mode frame.set) here
all_listed line ranked X frame here is_load none units =
    counts_same line (λ l. IsLoad line X frame.mode frame.set l × UpTo line frame.last l)
    (IsLoad line X frame.mode frame.set) here (λ l p. p.0)
    (λ l g. (g, all_up_to line ranked X frame.mode frame.set frame.last is_load none l g)) units

-- what the steps come to, for either kind of account
module _ (asked : Option Mode) (kind : LineKind) (line : Line) (ranked : IsRanked line) (X : ℕ) (old : DeskView) where
  reckon_starts : (frame : OpenFrame) → frame.last ≡ None
      → IsReckoned asked kind line X old old [] frame [] 0 0 0 0 0
  reckon_starts frame last = record {
    done = does_waits asked kind line X old old (waits_none old);
    passed_units = refl;
    frame_units = none_counts line X frame last;
    few = omega arith;
  }

  module _ (mid new : DeskView) (passed : List OpenFrame) (frame : OpenFrame) (items : List Item)
      (published above here spent room : ℕ)
      (r : IsReckoned asked kind line X old mid passed frame items published above here spent room) where
    reckon_down : (below : OpenFrame) → below.last ≡ None → room ≡ 1
        → IsReckoned asked kind line X old mid (passed ++ frame ∷ []) below items published (above + here) 0 spent 0
    reckon_down below last e = record {
      done = r.done;
      passed_units = units_push_frame line X passed frame above here r.passed_units r.frame_units;
      frame_units = none_counts line X below last;
      few = omega (arith, r.few, e, length-append passed (frame ∷ []));
    }

    module _ (before : Keeps old mid) (k : Keeps mid new) (is : List Item) (n m : ℕ)
        (done : Does asked kind line X mid new is n) (few : length (added_of is) ≤ m) where
      reckon_lists : (l : Load) (cites : List ℕ) (room' spent' : ℕ)
          → IsFollowing line X frame.mode frame.set frame.last l → LastIsLoad line X frame.mode frame.set frame.last
          → room ≡ 0 → m + room' ≤ 1 → spent' ≡ spent + 1
          → IsReckoned asked kind line X old new passed (with_cites (with_last frame l) cites) (items ++ is)
          (published + n) above (here + 1) spent' room'
      reckon_lists l cites room' spent' following is_load none less more = record {
        done = does_both asked kind line X old mid new items is published n before k r.done done;
        passed_units = r.passed_units;
        frame_units = units_push line ranked X frame.mode frame.set frame.last is_load l following here r.frame_units;
        few = omega (arith, added_length items is, few, r.few, less, more, none);
      }

      reckon_up : (upper : List OpenFrame) (parent : OpenFrame) (cites : List ℕ) → room ≡ 0 → m ≤ 1
          → passed ≡ upper ++ parent ∷ []
          → (a : ℕ) × (b : ℕ) × (IsReckoned asked kind line X old new upper (with_cites parent cites) (items ++ is)
          (published + n) a b spent 0 × (above ≡ a + b))
      reckon_up upper parent cites none one e =
          let U : List OpenFrame → Type 0 = λ z. UnitsIn line X z above in
          let p : (a : ℕ) × (b : ℕ) × (UnitsIn line X upper a × FrameUnits line X parent b × (above ≡ a + b)) =
          units_pop_frame line X upper parent above (subst U e r.passed_units) in (
            p.0,
            p.1,
            (
              record {
                done = does_both asked kind line X old mid new items is published n before k r.done done;
                passed_units = p.2.0;
                frame_units = p.2.1;
                few = omega (
                  arith,
                  added_length items is,
                  few,
                  r.few,
                  none,
                  one,
                  ap (λ (z : List OpenFrame). length z) e,
                  length-append upper (parent ∷ []),
                );
              },
              p.2.2,
            ),
          )

      -- the account of a search that gives its frames up
      reckon_ends : (spent' most : ℕ) → published + (above + here) ≤ spent → n ≤ here → spent ≤ spent'
          → m + spent ≤ length passed + room + most → Accounts asked kind line X old new [] spent' most
      reckon_ends spent' most within l more less = record {
        items = items ++ is;
        published = published + n;
        listed = 0;
        done = does_both asked kind line X old mid new items is published n before k r.done done;
        framed = refl;
        within = omega (arith, within, l, more);
        few = omega (arith, added_length items is, few, r.few, less);
      }

module _ (asked : Option Mode) (kind : LineKind) (line : Line) (ranked : IsRanked line) (X : ℕ) (old : DeskView) where
  pub tally_starts : (frame : OpenFrame) → frame.last ≡ None
      → (old.alone ≡ true → IsUnanswered (entries old) frame.set frame.most X)
      → Tally asked kind line X old old [] frame 0 0
  tally_starts frame last un = record {
    items = [];
    published = 0;
    above = 0;
    here = 0;
    reckoned = reckon_starts asked kind line ranked X old frame last;
    sum = refl;
    fresh = λ t. refl;
    unanswered = λ t. one_more X (entries old) [] frame (λ k f e. absurd (cc)) (un t);
  }

  -- the frame waits, and a new one is opened
  pub tally_down : (new : DeskView) (passed : List OpenFrame) (frame below : OpenFrame) (spent : ℕ) → below.last ≡ None
      → (old.alone ≡ true → IsUnanswered (entries new) below.set below.most X)
      → Tally asked kind line X old new passed frame spent 1
      → Tally asked kind line X old new (passed ++ frame ∷ []) below spent 0
  tally_down new passed frame below spent last un t = record {
    items = t.items;
    published = t.published;
    above = t.above + t.here;
    here = 0;
    reckoned = reckon_down asked kind line ranked X old new new passed frame t.items t.published t.above t.here spent 1
        t.reckoned below last refl;
    sum = omega (arith, t.sum);
    fresh = t.fresh;
    unanswered = λ a. one_more X (entries new) (passed ++ frame ∷ []) below (t.unanswered a) (un a);
  }

  -- the units ended
  pub tally_stops : (new : DeskView) (passed : List OpenFrame) (frame : OpenFrame) (spent : ℕ)
      → Tally asked kind line X old new passed frame spent 0
      → Balances asked kind line X old new (passed ++ frame ∷ []) spent spent
  tally_stops new passed frame spent t = record {
    items = t.items;
    published = t.published;
    listed = t.above + t.here;
    done = t.reckoned.done;
    framed = units_push_frame line X passed frame t.above t.here t.reckoned.passed_units t.reckoned.frame_units;
    sum = t.sum;
    few = omega (arith, t.reckoned.few);
    fresh = t.fresh;
  }

  module _ (mid new : DeskView) (passed : List OpenFrame) (frame : OpenFrame) (spent : ℕ) (before : Keeps old mid)
      (k : Keeps mid new) (t : Tally asked kind line X old mid passed frame spent 0) where
    -- the account after a further step, for a search that gives its frames up
    pub accounts : (m n spent' : ℕ) → DoesFew asked kind line X mid new m n → n ≤ t.here
        → spent ≤ spent' → m + spent ≤ length passed + spent' → Accounts asked kind line X old new [] spent' spent'
    accounts m n spent' d l more room =
        reckon_ends asked kind line ranked X old mid new passed frame t.items t.published t.above t.here spent 0
        t.reckoned before k d.items n m d.done d.few spent' spent' (omega (arith, t.sum)) l more (omega (arith, room))

    -- a load is listed, and its rest may be published
    pub tally_lists : (es : List Entry) (R : List Bool) (most : ℕ) (l : Load) (cites : List ℕ) (m room spent' : ℕ)
        → Leads kind line X es R most passed frame.set frame.most → IsFollowing line X frame.mode frame.set frame.last l
        → LastIsLoad line X frame.mode frame.set frame.last → DoesFor asked kind line X mid new (rest frame.set l) m 0
        → m + room ≤ 1 → spent' ≡ spent + 1 → Tally asked kind line X old new passed
        (with_cites (with_last frame l) cites) spent' room
    tally_lists es R most l cites m room spent' leads following is_load d less more = record {
      items = t.items ++ d.items;
      published = t.published + 0;
      above = t.above;
      here = t.here + 1;
      reckoned = reckon_lists asked kind line ranked X old mid new passed frame t.items t.published t.above t.here spent
          0 t.reckoned before k d.items 0 m d.done d.few l cites room spent' following is_load refl less more;
      sum = omega (arith, more, t.sum);
      fresh = λ a. fresh_both line t.items d.items t.published 0 (t.fresh a) (d.fresh (before.alone ∙ a));
      unanswered = λ a. same_questions X (entries new) passed frame (with_cites (with_last frame l) cites) refl refl
          (λ j f e.
          unanswered_still asked kind line X mid new (rest frame.set l) m 0 f.set f.most (before.alone ∙ a) k d
          (rest_lacks kind line X es R most passed frame l leads following.load j f e) (t.unanswered a j f e));
    }

    -- the question is refuted
    pub tally_ends : DoesFor asked kind line X mid new frame.set 1 t.here → passed ≡ []
        → Balances asked kind line X old new [] spent (spent + 1)
    tally_ends d e = record {
      items = t.items ++ d.items;
      published = t.published + t.here;
      listed = 0;
      done = does_both asked kind line X old mid new t.items d.items t.published t.here before k t.reckoned.done d.done;
      framed = refl;
      sum = let P : List OpenFrame → Type 0 = λ z. UnitsIn line X z t.above in
          let z : t.above ≡ 0 = subst P e t.reckoned.passed_units in omega (arith, t.sum, z);
      few = omega (arith, added_length t.items d.items, d.few, t.reckoned.few);
      fresh = λ a. fresh_both line t.items d.items t.published t.here (t.fresh a) (d.fresh (before.alone ∙ a));
    }

    -- the frame is refuted, and the one above it goes on
    pub tally_up : (upper : List OpenFrame) (parent : OpenFrame) (cites : List ℕ) (es : List Entry) (R : List Bool)
        (most : ℕ) → DoesFor asked kind line X mid new frame.set 1 t.here → passed ≡ upper ++ parent ∷ []
        → Leads kind line X es R most passed frame.set frame.most
        → Tally asked kind line X old new upper (with_cites parent cites) spent 0
    tally_up upper parent cites es R most d e leads =
        let r = reckon_up asked kind line ranked X old mid new passed frame t.items t.published t.above t.here spent 0
        t.reckoned before k d.items t.here 1 d.done d.few upper parent cites refl (omega arith) e in
        record {
          items = t.items ++ d.items;
          published = t.published + t.here;
          above = r.0;
          here = r.1;
          reckoned = r.2.0;
          sum = omega (arith, t.sum, r.2.1);
          fresh = λ a. fresh_both line t.items d.items t.published t.here (t.fresh a) (d.fresh (before.alone ∙ a));
          unanswered = λ a. same_questions X (entries new) upper parent (with_cites parent cites) refl refl (λ j f g.
              let there : slice_get passed j ≡ Some f = ap (λ (z : List OpenFrame). slice_get z j) e ∙ g in
              unanswered_still asked kind line X mid new frame.set 1 t.here f.set f.most (before.alone ∙ a) k d
              (leads_strict kind line X es passed R most frame.set frame.most leads j f there)
              (t.unanswered a j f (get_longer passed (frame ∷ []) j f there)));
        }

  -- the same where loads may be listed twice
  pub outlay_starts : (frame : OpenFrame) (passed : List OpenFrame) (spent : ℕ) → passed ≡ [] → frame.last ≡ None
      → spent ≡ 0 → Outlay asked kind line X old old passed frame spent 0
  outlay_starts frame passed spent e last z =
      let P : List OpenFrame → Type 0 = λ z. Outlay asked kind line X old old z frame spent 0 in
      let N : ℕ → Type 0 = λ z. Outlay asked kind line X old old [] frame z 0 in
      subst P (sym e) (subst N (sym z) (record {
        items = [];
        published = 0;
        above = 0;
        here = 0;
        reckoned = reckon_starts asked kind line ranked X old frame last;
        within = omega arith;
      }))

  module _ (mid new : DeskView) (passed : List OpenFrame) (frame : OpenFrame) (spent : ℕ) (before : Keeps old mid)
      (k : Keeps mid new) where
    -- the frame waits, and a new one is opened
    pub outlay_down : (all : List OpenFrame) (below : OpenFrame) → all ≡ passed ++ frame ∷ [] → below.last ≡ None
        → Outlay asked kind line X old mid passed frame spent 1 → Outlay asked kind line X old mid all below spent 0
    outlay_down all below e last o =
        let P : List OpenFrame → Type 0 = λ z. Outlay asked kind line X old mid z below spent 0 in
        subst P (sym e) (record {
          items = o.items;
          published = o.published;
          above = o.above + o.here;
          here = 0;
          reckoned = reckon_down asked kind line ranked X old mid mid passed frame o.items o.published o.above o.here
              spent 1 o.reckoned below last refl;
          within = omega (arith, o.within);
        })

    module _ (o : Outlay asked kind line X old mid passed frame spent 0) where
      -- a call that added no event
      pub outlay_waits : Waits mid new → Outlay asked kind line X old new passed frame spent 0
      outlay_waits w = record {
        items = o.items;
        published = o.published;
        above = o.above;
        here = o.here;
        reckoned = record {
          done = does_still asked kind line X old mid new o.items o.published before o.reckoned.done w;
          passed_units = o.reckoned.passed_units;
          frame_units = o.reckoned.frame_units;
          few = o.reckoned.few;
        };
        within = o.within;
      }

      -- the frame stands before its first load again
      pub outlay_again : (again : OpenFrame) → again.last ≡ None → Outlay asked kind line X old mid passed again spent 0
      outlay_again again last = record {
        items = o.items;
        published = o.published;
        above = o.above;
        here = 0;
        reckoned = record {
          done = o.reckoned.done;
          passed_units = o.reckoned.passed_units;
          frame_units = none_counts line X again last;
          few = o.reckoned.few;
        };
        within = omega (arith, o.within);
      }

      -- a load is listed, and its rest may be published
      pub outlay_lists : (l : Load) (cites : List ℕ) (m room spent' : ℕ)
          → IsFollowing line X frame.mode frame.set frame.last l → LastIsLoad line X frame.mode frame.set frame.last
          → DoesFew asked kind line X mid new m 0 → m + room ≤ 1 → spent' ≡ spent + 1
          → Outlay asked kind line X old new passed (with_cites (with_last frame l) cites) spent' room
      outlay_lists l cites m room spent' following is_load d less more = record {
        items = o.items ++ d.items;
        published = o.published + 0;
        above = o.above;
        here = o.here + 1;
        reckoned = reckon_lists asked kind line ranked X old mid new passed frame o.items o.published o.above o.here
            spent 0 o.reckoned before k d.items 0 m d.done d.few l cites room spent' following is_load refl less more;
        within = omega (arith, more, o.within);
      }

      -- the frame is refuted, and the one above it goes on
      pub outlay_up : (upper : List OpenFrame) (parent : OpenFrame) (cites : List ℕ) (n : ℕ) → n ≤ o.here
          → DoesFew asked kind line X mid new 1 n → passed ≡ upper ++ parent ∷ []
          → Outlay asked kind line X old new upper (with_cites parent cites) spent 0
      outlay_up upper parent cites n l d e =
          let r = reckon_up asked kind line ranked X old mid new passed frame o.items o.published o.above o.here spent 0
          o.reckoned before k d.items n 1 d.done d.few upper parent cites refl (omega arith) e in
          record {
            items = o.items ++ d.items;
            published = o.published + n;
            above = r.0;
            here = r.1;
            reckoned = r.2.0;
            within = omega (arith, o.within, r.2.1, l);
          }

      -- the account after a further step, for a search that gives its frames up
      pub outlay_ends : (m n spent' most : ℕ) → DoesFew asked kind line X mid new m n → n ≤ o.here → spent ≤ spent'
          → m + spent ≤ length passed + most → Accounts asked kind line X old new [] spent' most
      outlay_ends m n spent' most d l more room =
          reckon_ends asked kind line ranked X old mid new passed frame o.items o.published o.above o.here spent 0
          o.reckoned before k d.items n m d.done d.few spent' most o.within l more (omega (arith, room))
