-- The check of a certificate, and of a list with a trail, has one answer.
use Rattle.std.proofs.Common.{◌≡◌, ℕ, ◌-◌, ◌<◌, ◌⊎◌, List, refl, sym, ap, ◌∙◌, subst, inl, inr, arith, Option, Some}
use Rattle.std.proofs.Common.{None}
use Rattle.line_instance.specs.Line.{Line, IsLine, IsRanked}
use Rattle.line_rules.specs.Accepted.{Refutes, IsProof}
use Rattle.line_rules.specs.Bounds.{IsTooLong}
use Rattle.line_rules.specs.Checked.{IsLeastWhere}
use Rattle.line_rules.specs.declared.types.LineKind.{LineKind}
use Rattle.line_rules.specs.declared.types.Balance.{Balance as Assignment}
use Rattle.line_rules.specs.declared.types.Entry.{Entry}
use Rattle.line_rules.specs.declared.types.Trail.{Trail}
use Rattle.line_rules.specs.declared.types.Ask.{Ask}
use Rattle.line_rules.specs.declared.types.Ask.TheVariants as ask
use Rattle.line_rules.specs.declared.types.Claim.{Claim}
use Rattle.line_rules.specs.declared.types.Claim.TheVariants as claim
use Rattle.line_rules.specs.declared.types.Certificate.{Certificate}
use Rattle.line_rules.proofs.Monotone.{units_same, entries_same}
use Rattle.line_check.specs.Lists.{IsRefusedAt}
use Rattle.line_check.specs.Certificates.{IsShown, BalanceFails, TrailFails, TrailEnds, ProofFails, ProofEnds}
use Rattle.line_check.specs.Certificates.{IsBoundsVerdict, TaskFails, IsTaskVerdict, IsTooLongVerdict, IsClaimVerdict}
use Rattle.line_check.specs.Certificates.{IsVerdict}
use Rattle.line_check.specs.Verdicts.{AreDone, IsTrailRefused, IsTrailEnded, IsListRefused, IsListEnded, IsListChecked}
use Rattle.line_check.specs.declared.types.EntryFault.{EntryFault}
use Rattle.line_check.specs.declared.types.FrameFault.{FrameFault}
use Rattle.line_check.specs.declared.types.ListChecked.{ListChecked}
use Rattle.line_check.specs.declared.types.ListChecked.TheVariants as checked
use Rattle.line_check.specs.declared.types.Place.{Place}
use Rattle.line_check.specs.declared.types.Place.TheVariants as place
use Rattle.line_check.specs.declared.types.Verified.{Verified}
use Rattle.line_check.specs.declared.types.Verified.TheVariants as verified
use Rattle.line_check.proofs.RuledOut.{proof_not, ends_spend, list_not, list_spends}
use Rattle.line_check.proofs.ListFacts.{refused_not}
use Rattle.line_check.proofs.RefusalFacts.{balance_not}
use Rattle.line_check.proofs.UnitFacts.{entries_more}
use Rattle.line_check.proofs.OneWalk.{same_end}
use Rattle.line_check.proofs.OneBalance.{one_least, balance_one}
use Rattle.line_check.proofs.OneEntry as entry
use Rattle.line_check.proofs.OneTrail as frame

module _ (kind : LineKind) (line : Line) (ok : IsLine line) (ranked : IsRanked line) (a : Ask) (lower upper : ℕ)
    (b : Assignment) (es : List Entry) (left : Option Trail) (steps : ℕ) where
  Goal : Type 0
  Goal = 1 < lower → Refutes line es a lower

  -- the tests of the entries, the lower bound and the trail, up to the first that fails
  AtEntry : Place → Type 0
  AtEntry p = (k : ℕ) × (why : EntryFault) × ((p ≡ place.Entry k why) × IsRefusedAt kind line es steps k why)

  AtFrame : ℕ → Place → Type 0
  AtFrame units p = (j : ℕ) × (why : FrameFault) × ((p ≡ place.Frame j why)
      × TrailFails kind line a lower upper es left (steps - units) j why)

  Behind : ℕ → Place → Type 0
  Behind units p = ((Goal → ⊥) × (p ≡ place.Goal)) ⊎ (Goal × AtFrame units p)

  Tests : Place → Type 0
  Tests p = AtEntry p ⊎ ((units : ℕ) × (AreDone kind line es steps units × Behind units p))

  tests_of : (p : Place) → ProofFails kind line a lower upper es left steps p → Tests p
  unfolding Tests AtEntry AtFrame Behind Goal
  tests_of (place.Tasks said real) h = absurd h
  tests_of (place.Infeasible task t) h = absurd h
  tests_of (place.Earlier task least) h = absurd h
  tests_of (place.Stations s) h = absurd h
  tests_of (place.Station i) h = absurd h
  tests_of (place.Side i) h = absurd h
  tests_of (place.Overfull s t) h = absurd h
  tests_of (place.Broken i j) h = absurd h
  tests_of (place.Together i j) h = absurd h
  tests_of (place.Entry k why) h = inl (k, why, (refl, h))
  tests_of place.Goal h = inr (h.0, (h.1.0, inl (λ g. h.1.2 (g h.1.1), refl)))
  tests_of (place.Frame j why) h = inr (h.0, (h.1.0, inr (h.1.1, (j, why, (refl, h.1.2)))))

  frame_one : (m : ℕ) (p q : Place) → AtFrame m p → AtFrame m q → p ≡ q
  unfolding AtFrame
  frame_one m p q x y =
      let s : (x.0 ≡ y.0) × (x.1 ≡ y.1) = frame.trail_one kind line ranked a lower upper es left (steps - m) x.0 y.0 x.1
      y.1 x.2.1 y.2.1 in
      x.2.0 ∙ (ap (λ (j : ℕ). place.Frame j x.1) s.0 ∙ (ap (λ (w : FrameFault). place.Frame y.0 w) s.1 ∙ sym y.2.0))

  behind_one : (m : ℕ) (p q : Place) → Behind m p → Behind m q → p ≡ q
  unfolding Behind
  behind_one m p q x y = same_end x y (λ u v. u ∙ sym v) (frame_one m p q)

  entry_one : (p q : Place) → AtEntry p → AtEntry q → p ≡ q
  unfolding AtEntry
  entry_one p q x y =
      let s : (x.0 ≡ y.0) × (x.1 ≡ y.1) = entry.one_refused kind line ranked es steps x.0 y.0 x.1 y.1 x.2.1 y.2.1 in
      x.2.0 ∙ (ap (λ (j : ℕ). place.Entry j x.1) s.0 ∙ (ap (λ (w : EntryFault). place.Entry y.0 w) s.1 ∙ sym y.2.0))

  entry_not : (p : Place) → AtEntry p → (units : ℕ) → AreDone kind line es steps units → ⊥
  unfolding AtEntry
  entry_not p x units d = refused_not kind line es steps x.0 x.1 x.2.1 d.0

  tests_one : (p q : Place) → Tests p → Tests q → p ≡ q
  unfolding Tests
  tests_one p q x y = elim x [
    | inl u ↦ elim y [ inl v ↦ entry_one p q u v | inr v ↦ absurd (entry_not p u v.0 v.1.0) ]
    | inr u ↦ elim y [
      | inl v ↦ absurd (entry_not q v u.0 u.1.0)
      | inr v ↦ (let P : ℕ → Type 0 = λ z. Behind z p in behind_one v.0 p q
          (subst P (entries_same line es u.0 v.0 u.1.0.1 v.1.0.1) u.1.1) v.1.1)
    ]
  ]

  -- bounds have one first check that fails
  pub proof_one : (p q : Place) → ProofFails kind line a lower upper es left steps p
      → ProofFails kind line a lower upper es left steps q → p ≡ q
  proof_one p q x y = tests_one p q (tests_of p x) (tests_of q y)

  behind_in_time : (m : ℕ) (p : Place) → Behind m p → Goal → TrailEnds kind line a lower upper es left (steps - m) → ⊥
  unfolding Behind AtFrame
  behind_in_time m p x g h = elim x [
    | inl u ↦ u.0 g
    | inr u ↦ frame.trail_in_time kind line ranked a lower upper es left (steps - m) u.1.0 u.1.1 u.1.2.1 h
  ]

  tests_in_time : (p : Place) → Tests p → ProofEnds kind line a lower upper es left steps → ⊥
  unfolding Tests AtEntry Goal
  tests_in_time p x h = elim x [
    | inl u ↦ elim h [
      | inl v ↦ entry.refused_in_time kind line ranked es steps u.0 u.1 u.2.1 v
      | inr v ↦
          refused_not kind line es steps u.0 u.1 u.2.1 v.1.0.0
    ]
    | inr u ↦ elim h [
      | inl v ↦ omega (arith, u.1.0.2, entries_more kind line es steps u.0 v u.1.0.1)
      | inr v ↦ (let P : ℕ → Type 0 = λ z. Behind z p in behind_in_time v.0 p
          (subst P (entries_same line es u.0 v.0 u.1.0.1 v.1.0.1) u.1.1) v.1.1 v.1.2)
    ]
  ]

  -- no check fails within the steps where they end
  pub proof_in_time : (p : Place) → ProofFails kind line a lower upper es left steps p
      → ProofEnds kind line a lower upper es left steps → ⊥
  proof_in_time p x h = tests_in_time p (tests_of p x) h

  refused_one : (p q : Place)
      → BalanceFails kind line a upper b p ⊎ (IsShown kind line a upper b
      × ProofFails kind line a lower upper es left steps p)
      → BalanceFails kind line a upper b q ⊎ (IsShown kind line a upper b
      × ProofFails kind line a lower upper es left steps q) → p ≡ q
  refused_one p q x y = elim x [
    | inl u ↦ elim y [
      | inl v ↦ balance_one kind line a upper b p q u v
      | inr v ↦
          absurd (balance_not kind line ok a upper b p u v.0)
    ]
    | inr u ↦ elim y [ inl v ↦ absurd (balance_not kind line ok a upper b q v u.0) | inr v ↦ proof_one p q u.1 v.1 ]
  ]

  refused_not_right : (p : Place)
      → BalanceFails kind line a upper b p ⊎ (IsShown kind line a upper b
      × ProofFails kind line a lower upper es left steps p)
      → IsProof kind line a lower upper b es left → ⊥
  refused_not_right p x r = elim x [
    | inl u ↦ balance_not kind line ok a upper b p u (r.stations, r.balance)
    | inr u ↦ proof_not kind line ok a lower upper b es left steps p u.1 r
  ]

  refused_not_ended : (p : Place)
      → BalanceFails kind line a upper b p ⊎ (IsShown kind line a upper b
      × ProofFails kind line a lower upper es left steps p)
      → IsShown kind line a upper b
      → ProofEnds kind line a lower upper es left steps → ⊥
  refused_not_ended p x s h = elim x [
    | inl u ↦ balance_not kind line ok a upper b p u s
    | inr u ↦
        proof_in_time p u.1 h
  ]

  accepted_one : (l u m k v n : ℕ) → l ≡ k → u ≡ v → m ≡ n → verified.Accepted l u m ≡ verified.Accepted k v n
  accepted_one l u m k v n p q r = cc

  pub bounds_one : (v w : Verified) → IsBoundsVerdict kind line a lower upper b es left steps v
      → IsBoundsVerdict kind line a lower upper b es left steps w → v ≡ w
  bounds_one (verified.Accepted l u m) (verified.Accepted k v n) p q =
      accepted_one l u m k v n (p.0 ∙ sym q.0) (p.1 ∙ sym q.1) (units_same line es left m n p.3 q.3)
  bounds_one (verified.Accepted l u m) (verified.TooLong i) p q = absurd q
  bounds_one (verified.Accepted l u m) (verified.Refused y) p q = absurd (refused_not_right y q p.2)
  bounds_one (verified.Accepted l u m) (verified.StepsEnded s) p q =
      absurd (omega (arith, p.4, ends_spend kind line ok a lower upper b es left steps m q.2 p.3))
  bounds_one (verified.TooLong i) w p q = absurd p
  bounds_one (verified.Refused x) (verified.Accepted k v n) p q = absurd (refused_not_right x p q.2)
  bounds_one (verified.Refused x) (verified.TooLong i) p q = absurd q
  bounds_one (verified.Refused x) (verified.Refused y) p q =
      ap (λ (z : Place). verified.Refused z) (refused_one x y p q)
  bounds_one (verified.Refused x) (verified.StepsEnded s) p q = absurd (refused_not_ended x p q.1 q.2)
  bounds_one (verified.StepsEnded s) (verified.Accepted k v n) p q =
      absurd (omega (arith, q.4, ends_spend kind line ok a lower upper b es left steps n p.2 q.3))
  bounds_one (verified.StepsEnded s) (verified.TooLong i) p q = absurd q
  bounds_one (verified.StepsEnded s) (verified.Refused y) p q = absurd (refused_not_ended y q p.1 p.2)
  bounds_one (verified.StepsEnded s) (verified.StepsEnded t) p q = ap (λ (z : ℕ). verified.StepsEnded z) (p.0 ∙ sym q.0)

-- the claim that a task is too long
module _ (line : Line) (c task : ℕ) where
  task_fails_one : (p q : Place) → TaskFails line c task p → TaskFails line c task q → p ≡ q
  task_fails_one p q x y = elim x [
    | inl u ↦ elim y [
      | inl v ↦ u.1.0 ∙ (ap (λ (t : ℕ). place.Infeasible task t) (u.1.1 ∙ sym v.1.1) ∙ sym v.1.0)
      | inr v ↦ absurd (omega (arith, u.1.1, u.1.2, v.1.1))
    ]
    | inr u ↦ elim y [
      | inl v ↦ absurd (omega (arith, v.1.1, v.1.2, u.1.1))
      | inr v ↦ u.1.0 ∙ (ap (λ (t : ℕ). place.Earlier task t) (one_least (IsTooLong line c) u.0 v.0 u.1.2 v.1.2)
          ∙ sym v.1.0)
    ]
  ]

  task_not : (p : Place) → TaskFails line c task p → IsLeastWhere (IsTooLong line c) task → ⊥
  task_not p x h = elim x [ inl u ↦ omega (arith, u.1.1, u.1.2, h.passes.1) | inr u ↦ h.least u.0 u.1.3 u.1.2.passes ]

  pub task_one : (v w : Verified) → IsTaskVerdict line c task v → IsTaskVerdict line c task w → v ≡ w
  task_one (verified.Accepted l u m) w p q = absurd p
  task_one (verified.TooLong i) (verified.Accepted l u m) p q = absurd q
  task_one (verified.TooLong i) (verified.TooLong j) p q = ap (λ (z : ℕ). verified.TooLong z) (p.0 ∙ sym q.0)
  task_one (verified.TooLong i) (verified.Refused y) p q = absurd (task_not y q p.1)
  task_one (verified.TooLong i) (verified.StepsEnded s) p q = absurd q
  task_one (verified.Refused x) (verified.Accepted l u m) p q = absurd q
  task_one (verified.Refused x) (verified.TooLong j) p q = absurd (task_not x p q.1)
  task_one (verified.Refused x) (verified.Refused y) p q = ap (λ (z : Place). verified.Refused z)
      (task_fails_one x y p q)
  task_one (verified.Refused x) (verified.StepsEnded s) p q = absurd q
  task_one (verified.StepsEnded s) w p q = absurd p

module _ (kind : LineKind) (line : Line) (ok : IsLine line) (ranked : IsRanked line) (steps : ℕ) where
  too_long_one : (a : Ask) (task : ℕ) (v w : Verified) → IsTooLongVerdict line a task v → IsTooLongVerdict line a task w
      → v ≡ w
  too_long_one (ask.Stations cycle) task v w p q = task_one line cycle task v w p q
  too_long_one (ask.Cycle stations) task v w p q = absurd p

  claim_one : (a : Ask) (k : Claim) (v w : Verified) → IsClaimVerdict kind line a k steps v
      → IsClaimVerdict kind line a k steps w → v ≡ w
  claim_one a (claim.TooLong task) v w p q = too_long_one a task v w p q
  claim_one a (claim.Bounds l u b es trail) v w p q = bounds_one kind line ok ranked a l u b es trail steps v w p q

pub certificate_one : (line : Line) → IsLine line → IsRanked line → (cert : Certificate) (steps : ℕ) (v w : Verified)
    → IsVerdict line cert steps v → IsVerdict line cert steps w → v ≡ w
certificate_one line ok ranked cert steps v w p q = elim p [
  | inl x ↦ elim q [ inl y ↦ x.0 ∙ sym y.0 | inr y ↦ absurd (x.1 y.0) ]
  | inr x ↦ elim q [
    | inl y ↦ absurd (y.1 x.0)
    | inr y ↦ claim_one cert.kind line ok ranked steps cert.ask cert.claim v w
        x.1 y.1
  ]
]

-- a list with a trail beside it, without the bounds of a certificate
module _ (kind : LineKind) (line : Line) (ranked : IsRanked line) (es : List Entry) (steps : ℕ) where
  -- what is refused: an entry, or, where all of them follow, a frame
  Refused : Option Trail → Place → Type 0
  Refused trail p =
      ((k : ℕ) × (why : EntryFault) × ((p ≡ place.Entry k why) × IsRefusedAt kind line es steps k why))
      ⊎ ((units : ℕ) × (AreDone kind line es steps units × ((j : ℕ) × (why : FrameFault)
      × ((p ≡ place.Frame j why) × IsTrailRefused kind line es trail (steps - units) j why))))

  refused_of : (trail : Option Trail) (p : Place) → IsListRefused kind line es trail steps p → Refused trail p
  unfolding Refused
  refused_of trail (place.Tasks said real) h = absurd h
  refused_of trail (place.Infeasible task t) h = absurd h
  refused_of trail (place.Earlier task least) h = absurd h
  refused_of trail (place.Stations s) h = absurd h
  refused_of trail (place.Station i) h = absurd h
  refused_of trail (place.Side i) h = absurd h
  refused_of trail (place.Overfull s t) h = absurd h
  refused_of trail (place.Broken i j) h = absurd h
  refused_of trail (place.Together i j) h = absurd h
  refused_of trail (place.Entry k why) h = inl (k, why, (refl, h))
  refused_of trail place.Goal h = absurd h
  refused_of trail (place.Frame j why) h = inr (h.0, (h.1, (j, why, (refl, h.2))))

  frame_refused_one : (trail : Option Trail) (m j k : ℕ) (x y : FrameFault) → IsTrailRefused kind line es trail m j x
      → IsTrailRefused kind line es trail m k y → (j ≡ k) × (x ≡ y)
  frame_refused_one None m j k x y p q = absurd p
  frame_refused_one (Some t) m j k x y p q = frame.one_refused kind line ranked t.cycle es t.frames m j k x y p q

  frame_refused_in_time : (trail : Option Trail) (m j : ℕ) (x : FrameFault) → IsTrailRefused kind line es trail m j x
      → IsTrailEnded kind line es trail m → ⊥
  frame_refused_in_time None m j x p h = p
  frame_refused_in_time (Some t) m j x p h = frame.refused_in_time kind line ranked t.cycle es t.frames m j x p h

  list_refused_one : (trail : Option Trail) (p q : Place) → Refused trail p → Refused trail q → p ≡ q
  unfolding Refused
  list_refused_one trail p q x y = elim x [
    | inl u ↦ elim y [
      | inl v ↦ (
          let s : (u.0 ≡ v.0) × (u.1 ≡ v.1) = entry.one_refused kind line ranked es steps u.0 v.0 u.1 v.1 u.2.1 v.2.1 in
          u.2.0 ∙ (ap (λ (j : ℕ). place.Entry j u.1) s.0 ∙ (ap (λ (w : EntryFault). place.Entry v.0 w) s.1 ∙ sym v.2.0))
          )
      | inr v ↦ absurd (refused_not kind line es steps u.0 u.1 u.2.1 v.1.0.0)
    ]
    | inr u ↦ elim y [
      | inl v ↦ absurd (refused_not kind line es steps v.0 v.1 v.2.1 u.1.0.0)
      | inr v ↦ (
          let P : ℕ → Type 0 = λ z. IsTrailRefused kind line es trail (steps - z) u.1.1.0 u.1.1.1 in
          let there : IsTrailRefused kind line es trail (steps - v.0) u.1.1.0 u.1.1.1 =
          subst P (entries_same line es u.0 v.0 u.1.0.1 v.1.0.1) u.1.1.2.1 in
          let s : (u.1.1.0 ≡ v.1.1.0) × (u.1.1.1 ≡ v.1.1.1) =
          frame_refused_one trail (steps - v.0) u.1.1.0 v.1.1.0 u.1.1.1 v.1.1.1 there v.1.1.2.1 in
          u.1.1.2.0 ∙ (ap (λ (j : ℕ). place.Frame j u.1.1.1) s.0
          ∙ (ap (λ (w : FrameFault). place.Frame v.1.1.0 w) s.1 ∙ sym v.1.1.2.0))
          )
    ]
  ]

  list_in_time : (trail : Option Trail) (p : Place) → Refused trail p → IsListEnded kind line es trail steps → ⊥
  unfolding Refused
  list_in_time trail p x h = elim x [
    | inl u ↦ elim h [
      | inl v ↦ entry.refused_in_time kind line ranked es steps u.0 u.1 u.2.1 v
      | inr v ↦
          refused_not kind line es steps u.0 u.1 u.2.1 v.1.0
    ]
    | inr u ↦ elim h [
      | inl v ↦ omega (arith, u.1.0.2, entries_more kind line es steps u.0 v u.1.0.1)
      | inr v ↦ (
          let P : ℕ → Type 0 = λ z. IsTrailRefused kind line es trail (steps - z) u.1.1.0 u.1.1.1 in
          frame_refused_in_time trail (steps - v.0) u.1.1.0 u.1.1.1
          (subst P (entries_same line es u.0 v.0 u.1.0.1 v.1.1) u.1.1.2.1) v.2
          )
    ]
  ]

  pub listed_one : (trail : Option Trail) (v w : ListChecked) → IsListChecked kind line es trail steps v
      → IsListChecked kind line es trail steps w → v ≡ w
  listed_one trail (checked.Right m) (checked.Right n) p q =
      ap (λ (z : ℕ). checked.Right z) (units_same line es trail m n p.2 q.2)
  listed_one trail (checked.Right m) (checked.Refused y) p q = absurd (list_not kind line es trail steps y q p.0 p.1)
  listed_one trail (checked.Right m) (checked.StepsEnded s) p q =
      absurd (omega (arith, p.3, list_spends kind line es trail steps m q.1 p.2))
  listed_one trail (checked.Refused x) (checked.Right n) p q = absurd (list_not kind line es trail steps x p q.0 q.1)
  listed_one trail (checked.Refused x) (checked.Refused y) p q =
      ap (λ (z : Place). checked.Refused z) (list_refused_one trail x y (refused_of trail x p) (refused_of trail y q))
  listed_one trail (checked.Refused x) (checked.StepsEnded s) p q =
      absurd (list_in_time trail x (refused_of trail x p) q.1)
  listed_one trail (checked.StepsEnded s) (checked.Right n) p q =
      absurd (omega (arith, q.3, list_spends kind line es trail steps n p.1 q.2))
  listed_one trail (checked.StepsEnded s) (checked.Refused y) p q =
      absurd (list_in_time trail y (refused_of trail y q) p.1)
  listed_one trail (checked.StepsEnded s) (checked.StepsEnded t) p q =
      ap (λ (z : ℕ). checked.StepsEnded z) (p.0 ∙ sym q.0)
