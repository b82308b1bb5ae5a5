-- What is refused isn't accepted, and where the steps ended an accepted certificate has more units.
use Rattle.std.proofs.Common.{◌≡◌, ℕ, ◌-◌, ◌<◌, ◌++◌, ◌∷◌, [], List, sym, subst, inl, inr, arith, Option, Some}
use Rattle.std.proofs.Common.{None}
use Rattle.std.specs.Prelude.{slice_get}
use Rattle.line_instance.specs.Line.{Line, IsLine}
use Rattle.line_rules.specs.Balance.{all_tasks}
use Rattle.line_rules.specs.Units.{TrailUnits}
use Rattle.line_rules.specs.declared.types.OpenFrame.{OpenFrame}
use Rattle.line_rules.specs.declared.types.Trail.{Trail}
use Rattle.line_check.proofs.VerdictFacts.{head_most}
use Rattle.line_check.proofs.ListFacts.{refused_not}
use Rattle.line_check.proofs.RefusalFacts.{frame_not, first_of}
use Rattle.line_check.proofs.UnitFacts.{entries_more, frames_spend}
use Rattle.line_check.specs.declared.types.FrameFault.{FrameFault}
use Rattle.line_rules.specs.declared.products.EfficCert.{EfficCert}
use Rattle.effic_check.specs.Accepted.{MayBegin, HasTrail, ShowsUpper, IsAccepted}
use Rattle.effic_check.specs.Verdict.{BalanceFails, IsAllowed, TrailFails, TrailEnds, ProofFails, ProofEnds, IsFound}
use Rattle.effic_check.specs.Verdict.{IsVerdict, IsAcceptedSo, IsRejectedSo}
use Rattle.effic_check.specs.declared.verdict.EfficPlace.{EfficPlace}
use Rattle.effic_check.specs.declared.verdict.EfficPlace.TheVariants as place
use Rattle.effic_check.specs.declared.verdict.EfficVerified.{EfficVerified}
use Rattle.effic_check.specs.declared.verdict.EfficVerified.TheVariants as verified
use Rattle.line_rules.proofs.Monotone.{entries_same}

module _ (line : Line) (ok : IsLine line) (cert : EfficCert) where
  pub balance_not : (p : EfficPlace) → BalanceFails line cert p → ShowsUpper line cert → ⊥
  balance_not (place.Tasks said real) h s = h
  balance_not (place.Stations n) h s = h.1 s.asked
  balance_not (place.Station i) h s =
      let m = h.1.1.passes.0 in
      h.1.1.passes.1 (s.right.balance.first i m, s.right.balance.last i m)
  balance_not (place.Side i) h s = h.1.2.passes.1 (s.right.sides i h.1.2.passes.0)
  balance_not (place.Overfull n t) h s = omega (arith, h.1.4.passes, s.right.balance.fits n)
  balance_not (place.Broken i j) h s =
      let q = h.1.4.passes in
      q.broken (s.right.balance.keeps i j q.first q.second q.before)
  balance_not (place.Upper u) h s = h.3 s.upper
  balance_not (place.Entry entry why) h s = h
  balance_not (place.Goal m) h s = h
  balance_not (place.Frame frame why) h s = h

  allowed_of : (t : Trail) → HasTrail cert.kind line cert (Some t) → IsAllowed cert t
  allowed_of t h =
      let g : (f : OpenFrame) × (slice_get (h.2.passed ++ h.2.deepest ∷ []) 0 ≡ Some f) = first_of h.2.passed
      h.2.deepest in
      let G : List OpenFrame → Type 0 = λ z. slice_get z 0 ≡ Some g.0 in
      let there : slice_get t.frames 0 ≡ Some g.0 = subst G (sym h.2.all) g.1 in
      let M : ℕ → Type 0 = λ n. MayBegin cert t.cycle n in (
        g.0,
        (
          there,
          subst M
              (sym (head_most cert.kind line t.cycle cert.entries (all_tasks line) h.0 t.frames g.0 h.2 there)) h.1,
        ),
      )

  trail_not : (left : Option Trail) (steps j : ℕ) (why : FrameFault) → TrailFails line cert left steps j why
      → HasTrail cert.kind line cert left → ⊥
  trail_not None steps j why h t = h
  trail_not (Some left) steps j why h t = elim h [
    | inl w ↦ w.0 (allowed_of left t)
    | inr w ↦ frame_not cert.kind line left.cycle cert.entries left.frames steps j why w.1 (t.0, t.2)
  ]

  proof_not : (steps units : ℕ) (p : EfficPlace) → ProofFails line cert steps p → IsAccepted line cert units → ⊥
  proof_not steps units (place.Tasks said real) h q = h
  proof_not steps units (place.Stations s) h q = h
  proof_not steps units (place.Station i) h q = h
  proof_not steps units (place.Side i) h q = h
  proof_not steps units (place.Overfull s t) h q = h
  proof_not steps units (place.Broken i j) h q = h
  proof_not steps units (place.Upper u) h q = h
  proof_not steps units (place.Entry entry why) h q = refused_not cert.kind line cert.entries steps entry why h
      q.derived
  proof_not steps units (place.Goal m) h q = h.1.1.passes.1 (q.closed m h.1.1.passes.0)
  proof_not steps units (place.Frame frame why) h q = trail_not cert.trail (steps - h.0) frame why h.1.2 q.trail

  trail_spends : (left : Option Trail) (steps x : ℕ) → TrailEnds line cert left steps → TrailUnits line left x
      → steps < x
  trail_spends None steps x h u = absurd h
  trail_spends (Some t) steps x h u = frames_spend line t.cycle cert.kind cert.entries t.frames steps x h.1 u

  pub ends_spend : (steps x : ℕ) → ProofEnds line cert steps → IsAccepted line cert x → steps < x
  ends_spend steps x h q = elim h [
    | inl w ↦ omega (arith, entries_more cert.kind line cert.entries steps q.spent.0 w q.spent.2.0, q.spent.2.2)
    | inr w ↦ omega (
      arith,
      entries_same line cert.entries w.0 q.spent.0 w.1.0.1 q.spent.2.0,
      w.1.0.2,
      trail_spends cert.trail (steps - w.0) q.spent.1 w.1.2 q.spent.2.1,
      q.spent.2.2,
    )
  ]

  pub found_refused : (steps units : ℕ) (p : EfficPlace) → IsFound line cert steps (verified.Refused p)
      → IsAccepted line cert units → ⊥
  found_refused steps units p h q = elim h [
    | inl f ↦ balance_not p f q.shown
    | inr f ↦ proof_not steps units p f.1 q
  ]

  pub rejected_so : (steps : ℕ) (v : EfficVerified) → IsVerdict line cert steps v → IsRejectedSo line cert steps v
  rejected_so steps (verified.Accepted l u units) h = tt
  rejected_so steps (verified.Refused p) h = elim h [
    | inl w ↦ (λ units q. w.1 q.tasks)
    | inr w ↦ (λ units q. found_refused steps units p w.1 q)
  ]
  rejected_so steps (verified.StepsEnded s) h = elim h [
    | inl w ↦ (λ units q. absurd (w.1 q.tasks))
    | inr w ↦ (λ units q. ends_spend steps units w.1.2 q)
  ]

  -- a yes is no refusal
  abbrev Says : EfficVerified → Type 0
  Says (verified.Accepted l u units) = Unit {0}
  Says (verified.Refused p) = ⊥
  Says (verified.StepsEnded s) = Unit {0}

  pub accepted_so : (steps : ℕ) (v : EfficVerified) → IsVerdict line cert steps v → IsAcceptedSo line cert steps v
  accepted_so steps (verified.Accepted l u units) h = elim h [
    | inl w ↦ absurd (subst Says w.0 tt)
    | inr w ↦ w.1
  ]
  accepted_so steps (verified.Refused p) h = tt
  accepted_so steps (verified.StepsEnded s) h = tt
