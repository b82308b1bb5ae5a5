-- What a search comes to: the least cycle, or bounds, with the entries that show them.
use Rattle.std.proofs.Common.{◌≡◌, ℕ, ◌+◌, ◌-◌, ◌*◌, ◌^◌, ◌<◌, ◌≤◌, Bool, true, cond, List, []}
use Rattle.std.proofs.Common.{◌∷◌, ◌++◌, ◌∙◌, ◌⊎◌, length, map, drop, refl, sym, ap, subst, inl, inr, arith, Option, Some}
use Rattle.std.proofs.Common.{None}
use Rattle.std.specs.Prelude.{nat_eq, slice_get}
use Rattle.std.proofs.lemmas.Bool.{cases_eq, eq-eqb}
use Rattle.line_instance.specs.Line.{Line, IsLine, IsRanked, tasks}
use Rattle.line_rules.specs.Accepted.{HasBalance}
use Rattle.line_rules.specs.Balance.{IsBalance, Holds, all_tasks, seat}
use Rattle.line_rules.specs.Entries.{HasAnswer, IsDerived, IsFresh}
use Rattle.line_rules.specs.Trails.{IsTrail, IsOpenOver}
use Rattle.line_rules.specs.Units.{UnitsOf, UnitsIn, UnitsAt, TrailUnits, entries_at}
use Rattle.line_rules.specs.declared.types.LineKind.{LineKind}
use Rattle.line_rules.specs.declared.types.Balance.{Balance as Assignment}
use Rattle.line_rules.specs.declared.types.Entry.{Entry}
use Rattle.line_rules.specs.declared.types.OpenFrame.{OpenFrame}
use Rattle.line_rules.specs.declared.types.Trail.{Trail}
use Rattle.line_rules.proofs.AcceptedIsTrue.{answer_holds}
use Rattle.line_rules.proofs.SubBalance.{holds_more}
use Rattle.lemma_core.specs.Own.{AreStatable}
use Rattle.budget_law.specs.Budget.{states}
use Rattle.budget_law.proofs.FewUnits.{units_few}
use Rattle.round_run.specs.declared.plans.Plan.{Plan}
use Rattle.round_run.specs.declared.solving.Cause.{Cause}
use Rattle.round_run.specs.declared.solving.Cause.TheVariants as cause
use Rattle.round_run.proofs.TrailFacts.{first_frame}
use Rattle.entry_lists.specs.Lift.{lifted_frame}
use Rattle.cycle_search.specs.inner.Joined.{behind}
use Rattle.cycle_search.specs.Outcomes.{IsRightIn, AreSome, ShowsLower, IsSolved, IsStopped, IsSpent, Searches}
use Rattle.cycle_search.specs.Seek.{try_room}
use Rattle.cycle_search.specs.inner.Searching.{HasEnds, IsBetween, HasListed, IsStuck}
use Rattle.cycle_search.specs.declared.halving.Halving.{Halving}
use Rattle.cycle_search.specs.declared.searching.CycleOutcome.TheVariants as outcome
use Rattle.cycle_search.proofs.BehindFacts.{derived_up, trail_up, length_behind, statable_behind, answer_before}
use Rattle.cycle_search.proofs.BehindFacts.{answer_behind, fresh_behind, opens_behind, frames_raised, units_behind}
use Rattle.cycle_search.proofs.BehindFacts.{cases_behind, units_at_behind, units_from_behind}
use Rattle.cycle_search.proofs.EndFacts.{none_long}
use Rattle.cycle_search.proofs.Tries.{outside_none}

-- no balance is below the lower bound that entries show
pub none_below : (kind : LineKind) (line : Line) (m lower : ℕ) (es : List Entry) → IsLine line
    → ShowsLower kind line m lower es → (d : ℕ) → 1 ≤ d → d < lower → Holds kind line d (all_tasks line) m
none_below kind line m lower es ok p d one l =
    holds_more kind line d (lower - 1) (all_tasks line) (all_tasks line) m m (omega (arith, l)) (omega arith) (λ i h. h)
    (answer_holds kind line ok es p.derived (all_tasks line) m (lower - 1) (p.goal (omega (arith, one, l))))

pub has_balance : (kind : LineKind) (line : Line) (m c : ℕ) (b : Assignment) → IsRightIn kind line m c b
    → HasBalance kind line c m
has_balance kind line m c b r =
    let P : ℕ → Type 0 = λ s. IsBalance kind line c (all_tasks line) s (seat b.place) in
    (seat b.place, subst P r.stations r.right.balance)

module _ (kind : LineKind) (line : Line) (m : ℕ) (plan : Plan) (h : Halving) (ok : IsLine line) (es : List Entry)
    (es_are : es ≡ h.book.state.entries) (derived : IsDerived h.book.about.kind h.book.about.line es)
    (statable : AreStatable es) where
  abbrev all : List Entry
  all = behind h.proof es

  derived_here : HasEnds kind line m plan h → IsDerived kind line es
  derived_here e =
      let P : LineKind → Type 0 = λ z. IsDerived z h.book.about.line es in
      let Q : Line → Type 0 = λ z. IsDerived kind z es in
      subst Q e.line_is (subst P e.kind_is derived)

  all_derived : HasEnds kind line m plan h → IsDerived kind line all
  all_derived e = derived_up kind line h.proof es e.proof.derived (derived_here e)

  shows_lower : HasEnds kind line m plan h → ShowsLower kind line m h.lower all
  shows_lower e = record {
    derived = all_derived e;
    statable = statable_behind h.proof es e.proof.statable statable;
    goal = λ more. elim (cases_eq (length h.proof) 0) [
      | inl none ↦
          let P : List Entry → Type 0 = λ z. HasAnswer z (all_tasks line) m (h.lower - 1) in
          answer_behind h.proof es (all_tasks line) m (h.lower - 1) (subst P (sym es_are) (e.goal none more))
      | inr some ↦
          answer_before h.proof es (all_tasks line) m (h.lower - 1) (e.proof.goal (omega (arith, some)) more)
    ];
  }

  -- entries of the book and frames behind the proof
  some_of : (e : HasEnds kind line m plan h) (trail : Option Trail) (published listed : ℕ)
      → length h.book.state.entries ≤ try_room plan + 1000001 → UnitsOf line h.book.state.entries published
      → TrailUnits line trail listed → published + listed ≤ try_room plan + 1000000
      → AreSome line (try_room plan) all trail
  some_of e trail published listed few p q within =
      let P : List Entry → Type 0 = λ z. UnitsOf line z published in
      let n : length es ≡ length h.book.state.entries = ap (λ (z : List Entry). length z) es_are in
      record {
        many = omega (arith, length_behind h.proof es, e.proof.few, few, n);
        units = e.proof.units + published + listed;
        counted = (
          e.proof.units + published,
          listed,
          (
            units_behind line h.proof es e.proof.units published e.proof.counted (subst P (sym es_are) p),
            q,
            refl,
          ),
        );
        within = omega (arith, e.proof.within, within);
      }

  -- the ends met: the entries show the least cycle, and none are needed where it is 1
  solved_so : (out : List Entry) → (h.lower ≡ 1 → out ≡ []) → ((h.lower ≡ 1 → ⊥) → out ≡ all)
      → IsBetween kind line m plan h → h.lower ≡ h.upper → IsSolved kind line m plan h.upper h.balance out
  solved_so out one more between met = elim (cases_eq h.lower 1) [
    | inl e ↦ record {
      least = record {
        some = omega (arith, met, e);
        reached = has_balance kind line m h.upper h.balance between.ends.balance;
        least = λ d some l. absurd (omega (arith, met, e, some, l));
      };
      limit = between.ends.limit;
      balance = between.ends.balance;
      proof =
          let P : List Entry → Type 0 = λ z. ShowsLower kind line m h.upper z in
          subst P (sym (one e)) (record {
            derived = λ k x g. absurd (cc);
            statable = λ k x g. absurd (cc);
            goal = λ l. absurd (omega (arith, l, met, e));
          });
      one = λ c. one e;
      some =
          let P : List Entry → Type 0 = λ z. AreSome line (try_room plan) z None in
          subst P (sym (one e)) (record {
            many = omega arith;
            units = 0;
            counted = (0, 0, (refl, refl, refl));
            within = omega arith;
          });
    }
    | inr n ↦
        let P : List Entry → Type 0 = λ z. ShowsLower kind line m h.upper z in
        let Q : ℕ → Type 0 = λ z. ShowsLower kind line m z all in
        let R : List Entry → Type 0 = λ z. AreSome line (try_room plan) z None in
        let shown : ShowsLower kind line m h.upper all = subst Q met (shows_lower between.ends) in
        record {
          least = record {
            some = omega (arith, met, between.ends.from);
            reached = has_balance kind line m h.upper h.balance between.ends.balance;
            least = none_below kind line m h.upper all ok shown;
          };
          limit = between.ends.limit;
          balance = between.ends.balance;
          proof = subst P (sym (more n)) shown;
          one = λ c. absurd (n (omega (arith, met, c)));
          some = subst R (sym (more n))
              (some_of between.ends None between.units 0 between.few between.counted refl
              (omega (arith, between.paid, between.within)));
        }
  ]

  pub solved_is : (out : List Entry) → (h.lower ≡ 1 → out ≡ []) → ((h.lower ≡ 1 → ⊥) → out ≡ all)
      → IsBetween kind line m plan h → h.lower ≡ h.upper
      → Searches kind line m plan (outcome.Solved h.upper h.balance out h.seeks)
  solved_is out one more between met = (solved_so out one more between met, between.ends.seeks)

  module _ (frames : List OpenFrame) (closing_from : ℕ) where
    abbrev trail : Trail
    trail = record { cycle = h.book.about.cycle; frames = map (lifted_frame (length h.proof)) frames }

    stopped_is : (why : Cause) (s : IsStuck kind line m plan why h frames closing_from)
        → IsStopped kind line m plan h.lower h.upper h.balance all trail
    stopped_is why s = record {
      from = s.ends.from;
      below = omega (arith, s.from, s.to);
      most = s.ends.most;
      limit = s.ends.limit;
      balance = s.ends.balance;
      proof = shows_lower s.ends;
      some = some_of s.ends (Some trail) s.published s.listed s.few s.entry_units
          (frames_raised line (length h.proof) h.book.about.cycle frames s.listed s.frame_units) s.within;
      tried = s.tried.half;
      ranked = s.tried.ranked;
    }

    -- units of some entries and the frames at the cycle of the book, where the entries stand behind the proof
    raised_at : (us vs : List Entry) (units : ℕ)
        → ((u : ℕ) → UnitsOf line (entries_at h.book.about.cycle us) u
        → UnitsOf line (entries_at h.book.about.cycle vs) u)
        → UnitsAt line h.book.about.cycle us (Some (record { cycle = h.book.about.cycle; frames = frames })) units
        → UnitsAt line h.book.about.cycle vs (Some trail) units
    raised_at us vs units up at =
        let X : ℕ = h.book.about.cycle in
        let t : nat_eq X X ≡ true = eq-eqb X X refl in
        let R : Bool → Type 0 = λ z. cond z (UnitsIn line X trail.frames at.1) (at.1 ≡ 0) in
        let S : Bool → Type 0 = λ z. cond z (UnitsIn line X frames at.1) (at.1 ≡ 0) in (
          at.0,
          at.1,
          (
            up at.0 at.2.0,
            subst R (sym t) (frames_raised line (length h.proof) X frames at.1 (subst S t at.2.1)),
            at.2.2,
          ),
        )

    -- the kept proof has no entry at the cycle of the book
    none_kept : HasEnds kind line m plan h → h.lower ≤ h.book.about.cycle → h.book.about.cycle < h.upper → (k : ℕ)
        (e : Entry) → slice_get h.proof k ≡ Some e → e.cycle ≡ h.book.about.cycle → ⊥
    none_kept e from to = outside_none h.lower h.upper h.book.about.cycle h.proof e.proof.outside from to

    -- the frames are a trail over all entries, and open over them
    valid_all : IsStuck kind line m plan cause.Units h frames closing_from
        → IsTrail kind line h.book.about.cycle all (all_tasks line) m trail.frames
    valid_all s =
        let X : ℕ = h.book.about.cycle in
        let T : List Entry → Type 0 = λ z. IsTrail kind line X z (all_tasks line) m frames in
        trail_up kind line h.proof X es (all_tasks line) m frames (subst T (sym es_are) s.stuck.0)

    opens_all : IsStuck kind line m plan cause.Units h frames closing_from
        → IsOpenOver line h.book.about.cycle all trail.frames
    opens_all s =
        let X : ℕ = h.book.about.cycle in
        let O : List Entry → Type 0 = λ z. IsOpenOver line X z frames in
        opens_behind h.proof es line X frames (none_kept s.ends s.from s.to) (subst O (sym es_are) s.stuck.1)

    -- an entry that isn't at the cycle of the book is outside the ends
    outside_all : (s : IsStuck kind line m plan cause.Units h frames closing_from) (k : ℕ) (e : Entry)
        → slice_get all k ≡ Some e → (e.cycle ≡ h.book.about.cycle → ⊥) → (e.cycle < h.lower) ⊎ (h.upper ≤ e.cycle)
    outside_all s k e g n = elim (cases_behind h.proof es k e g) [
      | inl x ↦ s.ends.proof.outside k e x
      | inr (j, y, there, same, at) ↦
          let P : List Entry → Type 0 = λ z. slice_get z j ≡ Some y in
          let c : e.cycle ≡ y.cycle = ap (λ (w : Entry). w.cycle) same in
          elim (s.outside j y (subst P es_are there) (λ q. n (c ∙ q))) [
            | inl below ↦ inl (omega (arith, below, c))
            | inr above ↦ inr (omega (arith, above, c))
          ]
    ]

    -- no entry refutes a balance at the lower end: at the cycle of the book the trail is open, and from the upper end
    -- on there is a balance
    tight_is : IsStuck kind line m plan cause.Units h frames closing_from → HasAnswer all (all_tasks line) m h.lower → ⊥
    tight_is s a =
        let X : ℕ = h.book.about.cycle in
        elim (cases_eq a.1.cycle X) [
          | inl at ↦
              let f = first_frame kind line X all (all_tasks line) m trail.frames (valid_all s) in
              (opens_all s).unanswered 0 f.0 f.1 a.0 a.1 a.2.0 at (record {
                same = a.2.1.same ∙ sym f.2;
                stations = omega (arith, a.2.1.stations, f.3);
                long = omega (arith, at);
              })
          | inr n ↦ elim (outside_all s a.0 a.1 a.2.0 n) [
            | inl below ↦ omega (arith, below, a.2.1.long)
            | inr above ↦
                let b : HasBalance kind line h.upper m = has_balance kind line m h.upper h.balance s.ends.balance in
                answer_holds kind line ok all (all_derived s.ends) (all_tasks line) m h.upper (
                  a.0,
                  a.1,
                  (a.2.0, record { same = a.2.1.same; stations = a.2.1.stations; long = above }),
                ) b.0 b.1
          ]
        ]

    spent_is : IsRanked line → IsFresh es → (s : IsStuck kind line m plan cause.Units h frames closing_from)
        → IsSpent kind line m plan h.lower h.upper h.balance all trail (length h.proof + closing_from)
    spent_is ranked fresh s =
        let X : ℕ = h.book.about.cycle in
        let none : (k : ℕ) (e : Entry) → slice_get h.proof k ≡ Some e → e.cycle ≡ X → ⊥ =
        none_kept s.ends s.from s.to in
        let K : List Entry → Type 0 = λ z. HasListed line plan X z closing_from frames in
        let l : HasListed line plan X es closing_from frames = subst K (sym es_are) s.stuck.2 in
        let valid : IsTrail kind line X all (all_tasks line) m trail.frames = valid_all s in
        let whole : UnitsAt line X all (Some trail) l.whole =
        raised_at es all l.whole (λ u k. units_at_behind line h.proof es X u none k) l.whole_counted in
        let budget : l.whole < (tasks line + 1) * states kind ^ tasks line =
        units_few kind line ok ranked X (none_long line m X ok (omega (arith, s.ends.from, s.from))) all (Some trail)
        (all_derived s.ends) (fresh_behind h.proof es X none fresh) (λ e. (m, valid)) l.whole whole in
        record {
          stopped = stopped_is cause.Units s;
          from = s.from;
          to = s.to;
          stations = s.stations;
          valid = valid;
          opens = opens_all s;
          fresh = fresh_behind h.proof es X none fresh;
          begun = omega (
            arith,
            length_behind h.proof es,
            s.begun,
            ap (λ (z : List Entry). length z) es_are,
          );
          units = l.units;
          counted = raised_at (drop closing_from es) (drop (length h.proof + closing_from) all) l.units
              (λ u k. units_from_behind line h.proof es X u closing_from k) l.counted;
          all = l.all;
          alone = l.alone;
          whole = l.whole;
          whole_counted = whole;
          more = l.more;
          unsought = l.unsought;
          budget = omega (arith, budget, l.all, l.more);
          tight = tight_is s;
        }

    -- the search stopped
    pub searches : IsRanked line → IsFresh es → (why : Cause) → IsStuck kind line m plan why h frames closing_from
        → Searches kind line m plan
        (outcome.Stopped why h.lower h.upper h.balance all trail (length h.proof + closing_from) h.seeks)
    searches ranked fresh cause.Units s = (spent_is ranked fresh s, s.ends.seeks)
    searches ranked fresh cause.Memory s = (stopped_is cause.Memory s, s.ends.seeks)
