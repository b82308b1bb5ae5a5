-- What a verdict that isn't a yes rules out.
use Rattle.std.proofs.Common.{ℕ, ◌-◌, ◌<◌, List, inl, inr, arith, Option, Some, None}
use Rattle.line_instance.specs.Line.{Line, IsLine}
use Rattle.line_rules.specs.Accepted.{HasTrail, IsProof, ClaimIsAccepted, ClaimIsInfeasible}
use Rattle.line_rules.specs.Entries.{IsDerived}
use Rattle.line_rules.specs.Units.{UnitsWhole}
use Rattle.line_rules.specs.declared.types.LineKind.{LineKind}
use Rattle.line_rules.specs.declared.types.Balance.{Balance as Assignment}
use Rattle.line_rules.specs.declared.types.Entry.{Entry}
use Rattle.line_rules.specs.declared.types.Trail.{Trail}
use Rattle.line_rules.specs.declared.types.Ask.{Ask}
use Rattle.line_rules.specs.declared.types.Ask.TheVariants as ask
use Rattle.line_rules.specs.declared.types.Claim.{Claim}
use Rattle.line_rules.specs.declared.types.Claim.TheVariants as claim
use Rattle.line_rules.specs.declared.types.Certificate.{Certificate}
use Rattle.line_check.specs.Certificates.{ProofFails, ProofEnds, TrailFails, IsClaimVerdict, IsVerdict, IsRejectedSo}
use Rattle.line_check.specs.Verdicts.{IsTrailOrNothing, IsListRefused, IsListEnded, IsListChecked, IsListRejected}
use Rattle.line_check.specs.declared.types.ListChecked.{ListChecked}
use Rattle.line_check.specs.declared.types.ListChecked.TheVariants as checked
use Rattle.line_check.specs.declared.types.FrameFault.{FrameFault}
use Rattle.line_check.specs.declared.types.Place.{Place}
use Rattle.line_check.specs.declared.types.Place.TheVariants as place
use Rattle.line_check.specs.declared.types.Verified.{Verified}
use Rattle.line_check.specs.declared.types.Verified.TheVariants as verified
use Rattle.line_check.proofs.ListFacts.{refused_not}
use Rattle.line_check.proofs.RefusalFacts.{balance_not, frame_not, allowed_of}
use Rattle.line_check.proofs.UnitFacts.{entries_more, frames_spend}
use Rattle.line_rules.proofs.Monotone.{entries_same}

module _ (kind : LineKind) (line : Line) (ok : IsLine line) (a : Ask) (lower upper : ℕ) (b : Assignment)
    (es : List Entry) where
  trail_not : (left : Option Trail) (steps j : ℕ) (why : FrameFault)
      → TrailFails kind line a lower upper es left steps j why → HasTrail kind line a lower upper es left → ⊥
  trail_not None steps j why h t = h
  trail_not (Some left) steps j why h t = elim h [
    | inl w ↦ w.0 (allowed_of kind line a lower upper es left t)
    | inr w ↦ frame_not kind line left.cycle es left.frames steps j why w.1 (t.0, t.2)
  ]

  pub proof_not : (left : Option Trail) (steps : ℕ) (p : Place) → ProofFails kind line a lower upper es left steps p
      → IsProof kind line a lower upper b es left → ⊥
  proof_not left steps (place.Tasks said real) h q = h
  proof_not left steps (place.Infeasible task t) h q = h
  proof_not left steps (place.Earlier task least) h q = h
  proof_not left steps (place.Stations s) h q = h
  proof_not left steps (place.Station i) h q = h
  proof_not left steps (place.Side i) h q = h
  proof_not left steps (place.Overfull s t) h q = h
  proof_not left steps (place.Broken i j) h q = h
  proof_not left steps (place.Together i j) h q = h
  proof_not left steps (place.Entry entry why) h q = refused_not kind line es steps entry why h q.derived
  proof_not left steps place.Goal h q = h.1.2 (q.goal h.1.1)
  proof_not left steps (place.Frame frame why) h q = trail_not left (steps - h.0) frame why h.1.2 q.trail

  pub ends_spend : (left : Option Trail) (steps x : ℕ) → ProofEnds kind line a lower upper es left steps
      → UnitsWhole line es left x → steps < x
  ends_spend None steps x h u = elim h [
    | inl w ↦ omega (arith, entries_more kind line es steps u.0 w u.2.0, u.2.2)
    | inr w ↦ absurd w.1.2
  ]
  ends_spend (Some left) steps x h u = elim h [
    | inl w ↦ omega (arith, entries_more kind line es steps u.0 w u.2.0, u.2.2)
    | inr w ↦ omega (
      arith,
      entries_same line es w.0 u.0 w.1.0.1 u.2.0,
      w.1.0.2,
      frames_spend line left.cycle kind es left.frames (steps - w.0) u.1 w.1.2.1 u.2.1,
      u.2.2,
    )
  ]

claim_refused : (kind : LineKind) (line : Line) → IsLine line → (steps : ℕ) (p : Place) (a : Ask) (c : Claim)
    → IsClaimVerdict kind line a c steps (verified.Refused p) → (l u x : ℕ) → ClaimIsAccepted kind line a c l u x → ⊥
claim_refused kind line ok steps p a (claim.TooLong task) h l u x w = w
claim_refused kind line ok steps p a (claim.Bounds lower upper b es left) h l u x w = elim h [
  | inl f ↦ balance_not kind line ok a upper b p f (w.2.stations, w.2.balance)
  | inr f ↦ proof_not kind line ok a lower upper b es left steps p f.1 w.2
]

claim_ended : (kind : LineKind) (line : Line) → IsLine line → (steps s : ℕ) (a : Ask) (c : Claim)
    → IsClaimVerdict kind line a c steps (verified.StepsEnded s) → (l u x : ℕ) → ClaimIsAccepted kind line a c l u x
    → steps < x
claim_ended kind line ok steps s a (claim.TooLong task) h l u x w = absurd w
claim_ended kind line ok steps s a (claim.Bounds lower upper b es left) h l u x w =
    ends_spend kind line ok a lower upper b es left steps x h.2 w.3

task_refused : (kind : LineKind) (line : Line) (steps : ℕ) (p : Place) (a : Ask) (c : Claim)
    → IsClaimVerdict kind line a c steps (verified.Refused p) → (i : ℕ) → ClaimIsInfeasible line a c i → ⊥
task_refused kind line steps p (ask.Stations cycle) (claim.TooLong task) h i w = elim h [
  | inl f ↦ omega (arith, f.1.2, w.1.passes.1, f.1.1)
  | inr f ↦ w.1.least f.0 f.1.3 f.1.2.passes
]
task_refused kind line steps p (ask.Cycle stations) (claim.TooLong task) h i w = h
task_refused kind line steps p (ask.Stations cycle) (claim.Bounds lower upper b es left) h i w = w
task_refused kind line steps p (ask.Cycle stations) (claim.Bounds lower upper b es left) h i w = w

task_ended : (kind : LineKind) (line : Line) (steps s : ℕ) (a : Ask) (c : Claim)
    → IsClaimVerdict kind line a c steps (verified.StepsEnded s) → (i : ℕ) → ClaimIsInfeasible line a c i → ⊥
task_ended kind line steps s (ask.Stations cycle) (claim.TooLong task) h i w = h
task_ended kind line steps s (ask.Cycle stations) (claim.TooLong task) h i w = h
task_ended kind line steps s (ask.Stations cycle) (claim.Bounds lower upper b es left) h i w = w
task_ended kind line steps s (ask.Cycle stations) (claim.Bounds lower upper b es left) h i w = w

pub rejected_so : (line : Line) → IsLine line → (cert : Certificate) (steps : ℕ) (v : Verified)
    → IsVerdict line cert steps v → IsRejectedSo line cert steps v
rejected_so line ok cert steps (verified.Accepted l u units) h = tt
rejected_so line ok cert steps (verified.TooLong i) h = tt
rejected_so line ok cert steps (verified.Refused p) h = elim h [
  | inl w ↦ (λ l u x g. w.1 g.tasks, λ i g. w.1 g.tasks)
  | inr w ↦ (
    λ l u x g. claim_refused cert.kind line ok steps p cert.ask cert.claim w.1 l u x g.claim,
    λ i g. task_refused cert.kind line steps p cert.ask cert.claim w.1 i g.claim,
  )
]
rejected_so line ok cert steps (verified.StepsEnded s) h = elim h [
  | inl w ↦ (λ l u x g. absurd (w.1 g.tasks), λ i g. w.1 g.tasks)
  | inr w ↦ (
    λ l u x g. claim_ended cert.kind line ok steps s cert.ask cert.claim w.1 l u x g.claim,
    λ i g. task_ended cert.kind line steps s cert.ask cert.claim w.1 i g.claim,
  )
]

-- the same of a list with a trail
pub list_not : (kind : LineKind) (line : Line) (es : List Entry) (trail : Option Trail) (steps : ℕ) (p : Place)
    → IsListRefused kind line es trail steps p → IsDerived kind line es → IsTrailOrNothing kind line es trail → ⊥
list_not kind line es trail steps (place.Tasks said real) h d t = h
list_not kind line es trail steps (place.Infeasible task x) h d t = h
list_not kind line es trail steps (place.Earlier task least) h d t = h
list_not kind line es trail steps (place.Stations s) h d t = h
list_not kind line es trail steps (place.Station i) h d t = h
list_not kind line es trail steps (place.Side i) h d t = h
list_not kind line es trail steps (place.Overfull s x) h d t = h
list_not kind line es trail steps (place.Broken i j) h d t = h
list_not kind line es trail steps (place.Together i j) h d t = h
list_not kind line es trail steps (place.Entry entry why) h d t = refused_not kind line es steps entry why h d
list_not kind line es trail steps place.Goal h d t = h
list_not kind line es None steps (place.Frame frame why) h d t = h.2
list_not kind line es (Some x) steps (place.Frame frame why) h d t =
    frame_not kind line x.cycle es x.frames (steps - h.0) frame why h.2 t

pub list_spends : (kind : LineKind) (line : Line) (es : List Entry) (trail : Option Trail) (steps x : ℕ)
    → IsListEnded kind line es trail steps → UnitsWhole line es trail x → steps < x
list_spends kind line es None steps x h u = elim h [
  | inl w ↦ omega (arith, entries_more kind line es steps u.0 w u.2.0, u.2.2)
  | inr w ↦ absurd w.2
]
list_spends kind line es (Some t) steps x h u = elim h [
  | inl w ↦ omega (arith, entries_more kind line es steps u.0 w u.2.0, u.2.2)
  | inr w ↦ omega (
    arith,
    entries_same line es w.0 u.0 w.1.1 u.2.0,
    w.1.2,
    frames_spend line t.cycle kind es t.frames (steps - w.0) u.1 w.2 u.2.1,
    u.2.2,
  )
]

pub list_rejected : (kind : LineKind) (line : Line) (es : List Entry) (trail : Option Trail) (steps : ℕ)
    (v : ListChecked) → IsListChecked kind line es trail steps v → IsListRejected kind line es trail steps v
list_rejected kind line es trail steps (checked.Right units) h = tt
list_rejected kind line es trail steps (checked.Refused p) h = list_not kind line es trail steps p h
list_rejected kind line es trail steps (checked.StepsEnded s) h =
    λ units u. list_spends kind line es trail steps units h.1 u
