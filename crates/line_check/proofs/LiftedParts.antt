-- The parts of a certificate of version 1 as one list of entries with one trail.
use Rattle.std.proofs.Common.{◌≡◌, ℕ, ◌+◌, ◌-◌, ◌≤◌, List, [], ◌∷◌, ◌++◌, length, map, refl, sym, ap, ◌∙◌, subst}
use Rattle.std.proofs.Common.{inl, inr, arith, Option, Some, None, append_assoc, length-append}
use Rattle.std.proofs.lemmas.List.{append-nil, length-map}
use Rattle.line_instance.specs.Line.{Line}
use Rattle.line_rules.specs.Accepted.{HasTrail, IsProof, ClaimIsAccepted, ClaimIsInfeasible}
use Rattle.line_rules.specs.Balance.{all_tasks, IsRight}
use Rattle.line_rules.specs.Entries.{IsDerived}
use Rattle.line_rules.specs.Units.{UnitsOf, TrailUnits, UnitsWhole}
use Rattle.line_rules.specs.declared.types.LineKind.{LineKind}
use Rattle.line_rules.specs.declared.types.Balance.{Balance as Assignment}
use Rattle.line_rules.specs.declared.types.Ask.{Ask}
use Rattle.line_rules.specs.declared.types.Ask.TheVariants as ask
use Rattle.line_rules.specs.declared.types.Entry.{Entry}
use Rattle.line_rules.specs.declared.types.OpenFrame.{OpenFrame}
use Rattle.line_rules.specs.declared.types.Trail.{Trail}
use Rattle.line_rules.proofs.LongerLists.{has_longer}
use Rattle.entry_lists.specs.Lift.{lifted_entry, lifted_frame, lifted_entries, lifted_trail, lifted_claim, trail_at}
use Rattle.entry_lists.specs.Lift.{trail_or}
use Rattle.entry_lists.specs.declared.version_one.Part.{Part}
use Rattle.entry_lists.specs.declared.version_one.OldClaim.{OldClaim}
use Rattle.entry_lists.specs.declared.version_one.OldClaim.TheVariants as claim
use Rattle.line_check.specs.VersionOne.{IsPartRight, HasPartTrail, PassesAtCycle, ShowsLower, IsFurther}
use Rattle.line_check.specs.VersionOne.{PassesForStations, AreLower, IsOneOrNone, PartUnits, ClaimPasses, TooLongPasses}
use Rattle.line_check.specs.VersionOne.{EveryPassingLiftIsAccepted, EveryPassingTooLongIsAccepted}
use Rattle.line_check.proofs.LiftFacts.{behind, derived_up, answer_up, has_trail_up, units_same, frames_same}
use Rattle.line_rules.proofs.ListUnits.{units_both}

-- the parts stand by themselves, and no part but the last has a trail
abbrev pub AreRight : LineKind → Line → List Part → Type 0
AreRight kind line [] = Unit {0}
AreRight kind line (p ∷ ps) = IsPartRight kind line p × AreRight kind line ps

abbrev pub OnlyLast : List Part → Type 0
OnlyLast [] = Unit {0}
OnlyLast (p ∷ []) = Unit {0}
OnlyLast (p ∷ q ∷ ps) = (p.frames ≡ []) × OnlyLast (q ∷ ps)

-- behind a part the list goes on
next_is : (pre : List Entry) (p : Part) (ps : List Part)
    → behind pre p.cycle p.entries ++ lifted_entries (length (behind pre p.cycle p.entries)) ps ≡ pre
    ++ lifted_entries (length pre) (p ∷ ps)
next_is pre p ps =
    let more : List Entry = map (lifted_entry p.cycle (length pre)) p.entries in
    let n : length (pre ++ more) ≡ length pre + length p.entries =
    length-append pre more ∙ ap (λ k. length pre + k) (length-map p.entries (lifted_entry p.cycle (length pre))) in
    ap (λ k. (pre ++ more) ++ lifted_entries k ps) n ∙ append_assoc pre more
    (lifted_entries (length pre + length p.entries) ps)

derived_parts : (kind : LineKind) (line : Line) (pre : List Entry) (ps : List Part) → IsDerived kind line pre
    → AreRight kind line ps → IsDerived kind line (pre ++ lifted_entries (length pre) ps)
derived_parts kind line pre [] d r = (let P : List Entry → Type 0 = λ l. IsDerived kind line l in
    subst P (sym (append-nil pre)) d)
derived_parts kind line pre (p ∷ ps) d r =
    let P : List Entry → Type 0 = λ l. IsDerived kind line l in
    subst P (next_is pre p ps) (derived_parts kind line (behind pre p.cycle p.entries) ps
    (derived_up kind line pre p.cycle p.entries r.0.at d r.0.derived) r.1)

-- the units of the parts are those of the lift
trail_of : (line : Line) (n : ℕ) (p : Part) (u : ℕ) → TrailUnits line (trail_at p.cycle p.frames) u
    → TrailUnits line (trail_at p.cycle (map (lifted_frame n) p.frames)) u
trail_of line n p u h = go p.frames h
  where
    go : (fs : List OpenFrame) → TrailUnits line (trail_at p.cycle fs) u
        → TrailUnits line (trail_at p.cycle (map (lifted_frame n) fs)) u
    go [] h = h
    go (f ∷ fs) h = frames_same line p.cycle n (f ∷ fs) u h

no_trail : (line : Line) (p : Part) (u : ℕ) → p.frames ≡ [] → TrailUnits line (trail_at p.cycle p.frames) u → u ≡ 0
no_trail line p u e h = (let P : List OpenFrame → Type 0 = λ fs. TrailUnits line (trail_at p.cycle fs) u in subst P e h)

passed_over : (n : ℕ) (p : Part) (t : Option Trail) → p.frames ≡ []
    → trail_or (trail_at p.cycle (map (lifted_frame n) p.frames)) t ≡ t
passed_over n p t e = ap (λ fs. trail_or (trail_at p.cycle (map (lifted_frame n) fs)) t) e

or_none : (t : Option Trail) → trail_or t None ≡ t
or_none None = refl
or_none (Some t) = refl

units_parts : (line : Line) (kind : LineKind) (n : ℕ) (ps : List Part) (u : ℕ) → AreRight kind line ps → OnlyLast ps
    → PartUnits line ps u → UnitsWhole line (lifted_entries n ps) (lifted_trail n ps) u
units_parts line kind n [] u r o h = (0, 0, (refl, refl, h))
units_parts line kind n (p ∷ []) u r o h =
    let own : UnitsWhole line p.entries (trail_at p.cycle p.frames) h.0 = h.2.0 in
    let P : List Entry → Type 0 = λ l. UnitsOf line l own.0 in
    let Q : Option Trail → Type 0 = λ t. TrailUnits line t own.1 in (
      own.0,
      own.1,
      (
        subst P (sym (append-nil (map (lifted_entry p.cycle n) p.entries)))
            (units_same line p.cycle n p.entries r.0.at own.0 own.2.0),
        subst Q (sym (or_none (trail_at p.cycle (map (lifted_frame n) p.frames)))) (trail_of line n p own.1 own.2.1),
        omega (arith, h.2.1, h.2.2, own.2.2),
      ),
    )
units_parts line kind n (p ∷ q ∷ ps) u r o h =
    let own : UnitsWhole line p.entries (trail_at p.cycle p.frames) h.0 = h.2.0 in
    let more : UnitsWhole line (lifted_entries (n + length p.entries) (q ∷ ps))
    (lifted_trail (n + length p.entries) (q ∷ ps)) h.1 =
    units_parts line kind (n + length p.entries) (q ∷ ps) h.1 r.1 o.1 h.2.1 in
    let none : own.1 ≡ 0 = no_trail line p own.1 o.0 own.2.1 in
    let Q : Option Trail → Type 0 = λ t. TrailUnits line t more.1 in (
      own.0 + more.0,
      more.1,
      (
        units_both line (map (lifted_entry p.cycle n) p.entries) (lifted_entries (n + length p.entries) (q ∷ ps)) own.0
            more.0 (units_same line p.cycle n p.entries r.0.at own.0 own.2.0) more.2.0,
        subst Q (sym (passed_over n p (lifted_trail (n + length p.entries) (q ∷ ps)) o.0)) more.2.1,
        omega (arith, h.2.2, own.2.2, more.2.2, none),
      ),
    )

nothing_derived : (kind : LineKind) (line : Line) → IsDerived kind line []
nothing_derived kind line k e h = absurd (cc)

module _ (kind : LineKind) (line : Line) (lower upper : ℕ) (b : Assignment) where
  -- the lift of one part with a trail or none
  one_trail : (a : Ask) (pre : List Entry) (p : Part) → IsPartRight kind line p → HasPartTrail kind line a lower upper p
      → HasTrail kind line a lower upper (behind pre p.cycle p.entries ++ [])
      (trail_or (trail_at p.cycle (map (lifted_frame (length pre)) p.frames)) None)
  one_trail a pre p right trail =
      let T : Option Trail → Type 0 = λ t. HasTrail kind line a lower upper (behind pre p.cycle p.entries ++ []) t in
      let E : List Entry → Type 0 = λ l. HasTrail kind line a lower upper l
      (trail_at p.cycle (map (lifted_frame (length pre)) p.frames)) in
      subst T (sym (or_none (trail_at p.cycle (map (lifted_frame (length pre)) p.frames))))
      (subst E (sym (append-nil (behind pre p.cycle p.entries)))
      (has_trail_up kind line pre p.cycle a lower upper p.entries right.at p.frames trail))

  -- asked at a cycle
  at_cycle : (c : ℕ) (ps : List Part) → IsRight kind line c b → b.stations ≡ upper
      → PassesAtCycle kind line c lower upper ps → IsProof kind line (ask.Stations c) lower upper b
      (lifted_entries 0 ps) (lifted_trail 0 ps)
  at_cycle c ps right stations h =
      let P : List Part → Type 0 = λ l. IsProof kind line (ask.Stations c) lower upper b (lifted_entries 0 l)
      (lifted_trail 0 l) in
      let p : Part = h.part in
      let es : List Entry = map (lifted_entry p.cycle 0) p.entries in
      subst P (sym h.only) (record {
        balance = right;
        stations = stations;
        derived = derived_parts kind line [] (p ∷ []) (nothing_derived kind line) (h.right, tt);
        goal = λ more. has_longer es [] (all_tasks line) (lower - 1) c
            (answer_up kind line [] p.cycle p.entries h.right.at (all_tasks line) (lower - 1) c (h.goal more));
        trail = one_trail (ask.Stations c) [] p h.right h.trail;
      })

  -- asked for stations: no part, one further part, one part that shows the lower bound, and both
  module _ (m : ℕ) (right : IsRight kind line upper b) (stations : b.stations ≡ m) where
    abbrev IsLifted : List Part → Type 0
    IsLifted ps = IsProof kind line (ask.Cycle m) lower upper b (lifted_entries 0 ps) (lifted_trail 0 ps)

    none : lower ≤ 1 → IsLifted []
    none low = record {
      balance = right;
      stations = stations;
      derived = nothing_derived kind line;
      goal = λ more. absurd (omega (arith, low, more));
      trail = tt;
    }

    further : lower ≤ 1 → (p : Part) → IsFurther kind line m lower upper p → IsLifted (p ∷ [])
    further low p h = record {
      balance = right;
      stations = stations;
      derived = derived_parts kind line [] (p ∷ []) (nothing_derived kind line) (h.right, tt);
      goal = λ more. absurd (omega (arith, low, more));
      trail = one_trail (ask.Cycle m) [] p h.right h.trail;
    }

    shown : (p : Part) → ShowsLower kind line m lower p → IsLifted (p ∷ [])
    shown p h = record {
      balance = right;
      stations = stations;
      derived = derived_parts kind line [] (p ∷ []) (nothing_derived kind line) (h.right, tt);
      goal = λ more. has_longer (map (lifted_entry p.cycle 0) p.entries) [] (all_tasks line) m (lower - 1)
          (answer_up kind line [] p.cycle p.entries h.right.at (all_tasks line) m (lower - 1) h.goal);
      trail = (let T : Option Trail → Type 0 = λ t. HasTrail kind line (ask.Cycle m) lower upper
          (lifted_entries 0 (p ∷ [])) t in subst T (sym (passed_over 0 p None h.none)) tt);
    }

    both : (p q : Part) → ShowsLower kind line m lower p → IsFurther kind line m lower upper q → IsLifted (p ∷ q ∷ [])
    both p q h g =
        let pre : List Entry = behind [] p.cycle p.entries in
        let T : Option Trail → Type 0 = λ t. HasTrail kind line (ask.Cycle m) lower upper
        (lifted_entries 0 (p ∷ q ∷ [])) t in
        let n : length pre ≡ 0 + length p.entries = omega (arith, length-map p.entries (lifted_entry p.cycle 0)) in
        let N : ℕ → Type 0 = λ k. HasTrail kind line (ask.Cycle m) lower upper
        (pre ++ (map (lifted_entry q.cycle k) q.entries ++ []))
        (trail_or (trail_at q.cycle (map (lifted_frame k) q.frames)) None) in
        let A : List Entry → Type 0 = λ l. HasTrail kind line (ask.Cycle m) lower upper l
        (trail_or (trail_at q.cycle (map (lifted_frame (length pre)) q.frames)) None) in
        record {
          balance = right;
          stations = stations;
          derived = derived_parts kind line [] (p ∷ q ∷ []) (nothing_derived kind line) (h.right, (g.right, tt));
          goal = λ more. has_longer pre (lifted_entries (0 + length p.entries) (q ∷ [])) (all_tasks line) m
              (lower - 1) (answer_up kind line [] p.cycle p.entries h.right.at (all_tasks line) m (lower - 1) h.goal);
          trail = subst T (sym (passed_over 0 p (lifted_trail (0 + length p.entries) (q ∷ [])) h.none))
              (subst N n (subst A (append_assoc pre (map (lifted_entry q.cycle (length pre)) q.entries) [])
              (one_trail (ask.Cycle m) pre q g.right g.trail)));
        }

    -- what passes is right, with no trail but in the last part
    for_stations : (ps : List Part) → PassesForStations kind line m lower upper ps
        → IsLifted ps × (AreRight kind line ps × OnlyLast ps)
    for_stations ps h =
        let P : List Part → Type 0 = λ l. IsLifted l × (AreRight kind line l × OnlyLast l) in
        subst P (sym h.all) (go h.first h.further h.shown h.more)
      where
        go : (first more : List Part) → AreLower kind line m lower first
            → IsOneOrNone (IsFurther kind line m lower upper) more
            → IsLifted (first ++ more) × (AreRight kind line (first ++ more) × OnlyLast (first ++ more))
        go first more (inl l) (inl e) =
            let P : List Part → List Part → Type 0 = λ x y. IsLifted (x ++ y)
            × (AreRight kind line (x ++ y) × OnlyLast (x ++ y)) in
            subst (λ x. P x more) (sym l.1) (subst (λ y. P [] y) (sym e) (none l.0, (tt, tt)))
        go first more (inl l) (inr g) =
            let P : List Part → List Part → Type 0 = λ x y. IsLifted (x ++ y)
            × (AreRight kind line (x ++ y) × OnlyLast (x ++ y)) in
            subst (λ x. P x more) (sym l.1) (subst (λ y. P [] y) (sym g.1) (further l.0 g.0 g.2, ((g.2.right, tt), tt)))
        go first more (inr l) (inl e) =
            let P : List Part → List Part → Type 0 = λ x y. IsLifted (x ++ y)
            × (AreRight kind line (x ++ y) × OnlyLast (x ++ y)) in
            subst (λ x. P x more) (sym l.1.1) (subst (λ y. P (l.1.0 ∷ []) y) (sym e)
            (shown l.1.0 l.1.2, ((l.1.2.right, tt), tt)))
        go first more (inr l) (inr g) =
            let P : List Part → List Part → Type 0 = λ x y. IsLifted (x ++ y)
            × (AreRight kind line (x ++ y) × OnlyLast (x ++ y)) in
            subst (λ x. P x more) (sym l.1.1) (subst (λ y. P (l.1.0 ∷ []) y) (sym g.1)
            (both l.1.0 g.0 l.1.2 g.2, ((l.1.2.right, (g.2.right, tt)), (l.1.2.none, tt))))

  right_at_cycle : (c : ℕ) (ps : List Part) → PassesAtCycle kind line c lower upper ps
      → AreRight kind line ps × OnlyLast ps
  right_at_cycle c ps h = (let P : List Part → Type 0 = λ l. AreRight kind line l × OnlyLast l in
      subst P (sym h.only) ((h.right, tt), tt))

-- the lift of a claim that passes is accepted
claim_lifted : (kind : LineKind) (line : Line) (a : Ask) (k : OldClaim) (lower upper units : ℕ)
    → ClaimPasses kind line a k lower upper units → ClaimIsAccepted kind line a (lifted_claim k) lower upper units
claim_lifted kind line a (claim.TooLong i) lower upper units h = absurd h
claim_lifted kind line (ask.Stations c) (claim.Bounds l u b ps) lower upper units h =
    let r : AreRight kind line ps × OnlyLast ps = right_at_cycle kind line l u b c ps h.2.parts in (
      h.0,
      h.1,
      at_cycle kind line l u b c ps h.2.balance h.2.stations h.2.parts,
      units_parts line kind 0 ps units r.0 r.1 h.2.units,
    )
claim_lifted kind line (ask.Cycle m) (claim.Bounds l u b ps) lower upper units h =
    let r : IsProof kind line (ask.Cycle m) l u b (lifted_entries 0 ps) (lifted_trail 0 ps)
    × (AreRight kind line ps × OnlyLast ps) = for_stations kind line l u b m h.2.balance h.2.stations ps
    h.2.parts in
    (h.0, h.1, r.0, units_parts line kind 0 ps units r.1.0 r.1.1 h.2.units)

pub lift_accepted : EveryPassingLiftIsAccepted
lift_accepted line old lower upper units h = record {
  tasks = h.tasks;
  claim = claim_lifted old.kind line old.ask old.claim lower upper units h.claim;
}

too_long_lifted : (line : Line) (a : Ask) (k : OldClaim) (i : ℕ) → TooLongPasses line a k i
    → ClaimIsInfeasible line a (lifted_claim k) i
too_long_lifted line a (claim.TooLong task) i h = h
too_long_lifted line a (claim.Bounds l u b ps) i h = absurd h

pub too_long_accepted : EveryPassingTooLongIsAccepted
too_long_accepted line old i h = record { tasks = h.tasks; claim = too_long_lifted line old.ask old.claim i h.claim }
