-- The check of a certificate of a product has one answer.
use Rattle.std.proofs.Common.{◌≡◌, ℕ, ◌-◌, ◌*◌, ◌⊎◌, refl, sym, ap, ◌∙◌, subst, inl, inr, arith, Option, Some, None}
use Rattle.line_instance.specs.Line.{Line, IsLine, IsRanked}
use Rattle.line_rules.specs.Balance.{IsRight}
use Rattle.line_rules.specs.Checked.{IsLeastWhere}
use Rattle.line_rules.specs.declared.types.Ask.TheVariants as ask
use Rattle.line_rules.specs.declared.types.Trail.{Trail}
use Rattle.line_rules.specs.declared.products.EfficCert.{EfficCert}
use Rattle.line_rules.proofs.Monotone.{units_same, entries_same}
use Rattle.line_check.specs.Certificates.{BalanceFails as Fails}
use Rattle.line_check.specs.Lists.{IsRefusedAt}
use Rattle.line_check.specs.Verdicts.{AreDone}
use Rattle.line_check.specs.declared.types.EntryFault.{EntryFault}
use Rattle.line_check.specs.declared.types.FrameFault.{FrameFault}
use Rattle.line_check.specs.declared.types.Place.{Place}
use Rattle.line_check.specs.declared.types.Place.TheVariants as theirs
use Rattle.line_check.proofs.ListFacts.{refused_not}
use Rattle.line_check.proofs.OneBalance.{one_least, balance_one}
use Rattle.line_check.proofs.OneEntry as entry
use Rattle.line_check.proofs.OneTrail as frame
use Rattle.line_check.proofs.OneWalk.{same_end}
use Rattle.line_check.proofs.RefusalFacts.{balance_not as fails_not}
use Rattle.line_check.proofs.UnitFacts.{entries_more}
use Rattle.effic_check.specs.Accepted.{IsAsked, ShowsUpper}
use Rattle.effic_check.specs.Verdict.{BalanceFails, IsLeftOpen, AreClosed, TrailFails, TrailEnds, ProofFails, ProofEnds}
use Rattle.effic_check.specs.Verdict.{IsFound, IsVerdict}
use Rattle.effic_check.specs.declared.verdict.EfficPlace.{EfficPlace}
use Rattle.effic_check.specs.declared.verdict.EfficPlace.TheVariants as place
use Rattle.effic_check.specs.declared.verdict.EfficVerified.{EfficVerified}
use Rattle.effic_check.specs.declared.verdict.EfficVerified.TheVariants as verified
use Rattle.effic_check.proofs.RefusalFacts.{balance_not, ends_spend, found_refused}

-- where a balance fails, as the check of certificates of other questions names it
abbrev own : Place → EfficPlace
own (theirs.Tasks said real) = place.Tasks said real
own (theirs.Infeasible task t) = place.Stations 0
own (theirs.Earlier task least) = place.Stations 0
own (theirs.Stations s) = place.Stations s
own (theirs.Station i) = place.Station i
own (theirs.Side i) = place.Side i
own (theirs.Overfull s t) = place.Overfull s t
own (theirs.Broken i j) = place.Broken i j
own (theirs.Together i j) = place.Stations 0
own (theirs.Entry k why) = place.Entry k why
own theirs.Goal = place.Goal 0
own (theirs.Frame j why) = place.Frame j why

module _ (line : Line) (ok : IsLine line) (ranked : IsRanked line) (cert : EfficCert) where
  -- the checks in order, up to the first that fails
  abbrev IsBroken : Place → Type 0
  IsBroken q = Fails cert.kind line (ask.Stations cert.cycle) cert.balance.stations cert.balance q

  abbrev IsRule : Type 0
  IsRule = IsRight cert.kind line cert.cycle cert.balance

  abbrev IsProduct : Type 0
  IsProduct = cert.upper ≡ cert.balance.stations * cert.cycle

  abbrev AtRule : EfficPlace → Type 0
  AtRule p = (q : Place) × ((p ≡ own q) × IsBroken q)

  abbrev AtBalance : EfficPlace → Type 0
  AtBalance p =
      ((IsAsked cert cert.balance.stations → ⊥) × (p ≡ place.Stations cert.balance.stations))
      ⊎ (IsAsked cert cert.balance.stations
      × (((IsRule → ⊥) × AtRule p) ⊎ (IsRule × (p ≡ place.Upper cert.upper))))

  rule : (p : EfficPlace) (q : Place) → p ≡ own q → IsAsked cert cert.balance.stations → IsBroken q → AtBalance p
  rule p q same asked h = inr (
    asked,
    inl (λ r. fails_not cert.kind line ok (ask.Stations cert.cycle) cert.balance.stations cert.balance q h (refl, r), (q, (same, h))),
  )

  at_balance : (p : EfficPlace) → BalanceFails line cert p → AtBalance p
  at_balance (place.Tasks said real) h = absurd h
  at_balance (place.Stations s) h = inl (h.1, ap (λ (n : ℕ). place.Stations n) h.0)
  at_balance (place.Station i) h = rule (place.Station i) (theirs.Station i) refl h.0 (refl, h.1)
  at_balance (place.Side i) h = rule (place.Side i) (theirs.Side i) refl h.0 (refl, h.1)
  at_balance (place.Overfull s t) h = rule (place.Overfull s t) (theirs.Overfull s t) refl h.0 (refl, h.1)
  at_balance (place.Broken i j) h = rule (place.Broken i j) (theirs.Broken i j) refl h.0 (refl, h.1)
  at_balance (place.Upper u) h = inr (h.1, inr (h.2, ap (λ (n : ℕ). place.Upper n) h.0))
  at_balance (place.Entry k why) h = absurd h
  at_balance (place.Goal m) h = absurd h
  at_balance (place.Frame j why) h = absurd h

  rule_one : (p q : EfficPlace) → AtRule p → AtRule q → p ≡ q
  rule_one p q x y =
      let same : x.0 ≡ y.0 = balance_one cert.kind line (ask.Stations cert.cycle) cert.balance.stations cert.balance x.0 y.0
      x.1.1 y.1.1 in
      x.1.0 ∙ (ap (λ (z : Place). own z) same ∙ sym y.1.0)

  balance_is_one : (p q : EfficPlace) → AtBalance p → AtBalance q → p ≡ q
  balance_is_one p q x y = same_end x y (λ u v. u ∙ sym v) (λ x1 y1. same_end x1 y1 (rule_one p q) (λ u v. u ∙ sym v))

  module _ (steps : ℕ) where
    abbrev AtEntry : EfficPlace → Type 0
    AtEntry p = (k : ℕ) × (why : EntryFault) × ((p ≡ place.Entry k why)
        × IsRefusedAt cert.kind line cert.entries steps k why)

    abbrev AtGoal : EfficPlace → Type 0
    AtGoal p = (m : ℕ) × ((p ≡ place.Goal m) × IsLeastWhere (IsLeftOpen line cert) m)

    abbrev AtFrame : ℕ → EfficPlace → Type 0
    AtFrame units p = (j : ℕ) × (why : FrameFault) × ((p ≡ place.Frame j why)
        × TrailFails line cert cert.trail (steps - units) j why)

    abbrev Behind : ℕ → EfficPlace → Type 0
    Behind units p = ((AreClosed line cert → ⊥) × AtGoal p) ⊎ (AreClosed line cert × AtFrame units p)

    abbrev AtProof : EfficPlace → Type 0
    AtProof p = AtEntry p ⊎ ((units : ℕ) × (AreDone cert.kind line cert.entries steps units × Behind units p))

    at_proof : (p : EfficPlace) → ProofFails line cert steps p → AtProof p
    at_proof (place.Tasks said real) h = absurd h
    at_proof (place.Stations s) h = absurd h
    at_proof (place.Station i) h = absurd h
    at_proof (place.Side i) h = absurd h
    at_proof (place.Overfull s t) h = absurd h
    at_proof (place.Broken i j) h = absurd h
    at_proof (place.Upper u) h = absurd h
    at_proof (place.Entry k why) h = inl (k, why, (refl, h))
    at_proof (place.Goal m) h = inr (
      h.0,
      (h.1.0, inl (λ all. h.1.1.passes.1 (all m h.1.1.passes.0), (m, (refl, h.1.1)))),
    )
    at_proof (place.Frame j why) h = inr (h.0, (h.1.0, inr (h.1.1, (j, why, (refl, h.1.2)))))

    trail_one : (left : Option Trail) (most j k : ℕ) (x y : FrameFault) → TrailFails line cert left most j x
        → TrailFails line cert left most k y → (j ≡ k) × (x ≡ y)
    trail_one None most j k x y p q = absurd p
    trail_one (Some t) most j k x y p q = elim p [
      | inl u ↦ elim q [ inl v ↦ (u.1 ∙ sym v.1, u.2 ∙ sym v.2) | inr v ↦ absurd (u.0 v.0) ]
      | inr u ↦ elim q [
        | inl v ↦ absurd (v.0 u.0)
        | inr v ↦ frame.one_refused cert.kind line ranked t.cycle cert.entries t.frames most j k x y u.1 v.1
      ]
    ]

    trail_in_time : (left : Option Trail) (most j : ℕ) (x : FrameFault) → TrailFails line cert left most j x
        → TrailEnds line cert left most → ⊥
    trail_in_time None most j x p h = p
    trail_in_time (Some t) most j x p h = elim p [
      | inl u ↦ u.0 h.0
      | inr u ↦ frame.refused_in_time cert.kind line ranked t.cycle cert.entries t.frames most j x u.1 h.1
    ]

    entry_one : (p q : EfficPlace) → AtEntry p → AtEntry q → p ≡ q
    entry_one p q x y =
        let s : (x.0 ≡ y.0) × (x.1 ≡ y.1) = entry.one_refused cert.kind line ranked cert.entries steps x.0 y.0 x.1 y.1
        x.2.1 y.2.1 in
        x.2.0 ∙ (ap (λ (k : ℕ). place.Entry k x.1) s.0 ∙ (ap (λ (w : EntryFault). place.Entry y.0 w) s.1 ∙ sym y.2.0))

    goal_one : (p q : EfficPlace) → AtGoal p → AtGoal q → p ≡ q
    goal_one p q x y =
        let s : x.0 ≡ y.0 = one_least (IsLeftOpen line cert) x.0 y.0 x.1.1 y.1.1 in
        x.1.0 ∙ (ap (λ (m : ℕ). place.Goal m) s ∙ sym y.1.0)

    frame_one : (units : ℕ) (p q : EfficPlace) → AtFrame units p → AtFrame units q → p ≡ q
    frame_one units p q x y =
        let s : (x.0 ≡ y.0) × (x.1 ≡ y.1) = trail_one cert.trail (steps - units) x.0 y.0 x.1 y.1 x.2.1 y.2.1 in
        x.2.0 ∙ (ap (λ (j : ℕ). place.Frame j x.1) s.0 ∙ (ap (λ (w : FrameFault). place.Frame y.0 w) s.1 ∙ sym y.2.0))

    behind_one : (units : ℕ) (p q : EfficPlace) → Behind units p → Behind units q → p ≡ q
    behind_one units p q x y = same_end x y (goal_one p q) (frame_one units p q)

    proof_one : (p q : EfficPlace) → AtProof p → AtProof q → p ≡ q
    proof_one p q x y = elim x [
      | inl u ↦ elim y [
        | inl v ↦ entry_one p q u v
        | inr v ↦ absurd (refused_not cert.kind line cert.entries steps u.0 u.1 u.2.1 v.1.0.0)
      ]
      | inr u ↦ elim y [
        | inl v ↦ absurd (refused_not cert.kind line cert.entries steps v.0 v.1 v.2.1 u.1.0.0)
        | inr v ↦ (let P : ℕ → Type 0 = λ z. Behind z p in behind_one v.0 p q
            (subst P (entries_same line cert.entries u.0 v.0 u.1.0.1 v.1.0.1) u.1.1) v.1.1)
      ]
    ]

    behind_in_time : (units : ℕ) (p : EfficPlace) → Behind units p → AreClosed line cert
        → TrailEnds line cert cert.trail (steps - units) → ⊥
    behind_in_time units p x all h = elim x [
      | inl u ↦ u.0 all
      | inr u ↦ trail_in_time cert.trail (steps - units) u.1.0 u.1.1 u.1.2.1 h
    ]

    -- no check fails within the steps where they end
    in_time : (p : EfficPlace) → AtProof p → ProofEnds line cert steps → ⊥
    in_time p x h = elim x [
      | inl u ↦ elim h [
        | inl v ↦ entry.refused_in_time cert.kind line ranked cert.entries steps u.0 u.1 u.2.1 v
        | inr v ↦ refused_not cert.kind line cert.entries steps u.0 u.1 u.2.1 v.1.0.0
      ]
      | inr u ↦ elim h [
        | inl v ↦ omega (arith, u.1.0.2, entries_more cert.kind line cert.entries steps u.0 v u.1.0.1)
        | inr v ↦ (let P : ℕ → Type 0 = λ z. Behind z p in behind_in_time v.0 p
            (subst P (entries_same line cert.entries u.0 v.0 u.1.0.1 v.1.0.1) u.1.1) v.1.1 v.1.2)
      ]
    ]

    abbrev IsRefused : EfficPlace → Type 0
    IsRefused p = BalanceFails line cert p ⊎ (ShowsUpper line cert × ProofFails line cert steps p)

    refused_one : (p q : EfficPlace) → IsRefused p → IsRefused q → p ≡ q
    refused_one p q x y = elim x [
      | inl u ↦ elim y [
        | inl v ↦ balance_is_one p q (at_balance p u) (at_balance q v)
        | inr v ↦ absurd (balance_not line ok cert p u v.0)
      ]
      | inr u ↦ elim y [
        | inl v ↦ absurd (balance_not line ok cert q v u.0)
        | inr v ↦ proof_one p q (at_proof p u.1) (at_proof q v.1)
      ]
    ]

    refused_in_time : (p : EfficPlace) → IsRefused p → ShowsUpper line cert → ProofEnds line cert steps → ⊥
    refused_in_time p x s h = elim x [
      | inl u ↦ balance_not line ok cert p u s
      | inr u ↦ in_time p (at_proof p u.1) h
    ]

    accepted_one : (l u m k v n : ℕ) → l ≡ k → u ≡ v → m ≡ n → verified.Accepted l u m ≡ verified.Accepted k v n
    accepted_one l u m k v n p q r = cc

    found_one : (v w : EfficVerified) → IsFound line cert steps v → IsFound line cert steps w → v ≡ w
    found_one (verified.Accepted l u m) (verified.Accepted k v n) p q =
        accepted_one l u m k v n (p.0 ∙ sym q.0) (p.1 ∙ sym q.1)
        (units_same line cert.entries cert.trail m n p.2.spent q.2.spent)
    found_one (verified.Accepted l u m) (verified.Refused y) p q = absurd (found_refused line ok cert steps m y q p.2)
    found_one (verified.Accepted l u m) (verified.StepsEnded s) p q =
        absurd (omega (arith, p.3, ends_spend line ok cert steps m q.2 p.2))
    found_one (verified.Refused x) (verified.Accepted k v n) p q = absurd (found_refused line ok cert steps n x p q.2)
    found_one (verified.Refused x) (verified.Refused y) p q =
        ap (λ (z : EfficPlace). verified.Refused z) (refused_one x y p q)
    found_one (verified.Refused x) (verified.StepsEnded s) p q = absurd (refused_in_time x p q.1 q.2)
    found_one (verified.StepsEnded s) (verified.Accepted k v n) p q =
        absurd (omega (arith, q.3, ends_spend line ok cert steps n p.2 q.2))
    found_one (verified.StepsEnded s) (verified.Refused y) p q = absurd (refused_in_time y q p.1 p.2)
    found_one (verified.StepsEnded s) (verified.StepsEnded t) p q =
        ap (λ (z : ℕ). verified.StepsEnded z) (p.0 ∙ sym q.0)

pub certificate_one : (line : Line) → IsLine line → IsRanked line → (cert : EfficCert) (steps : ℕ)
    (v w : EfficVerified) → IsVerdict line cert steps v → IsVerdict line cert steps w → v ≡ w
certificate_one line ok ranked cert steps v w p q = elim p [
  | inl x ↦ elim q [ inl y ↦ x.0 ∙ sym y.0 | inr y ↦ absurd (x.1 y.0) ]
  | inr x ↦ elim q [
    | inl y ↦ absurd (y.1 x.0)
    | inr y ↦ found_one line ok ranked cert steps v w x.1 y.1
  ]
]
