-- What a verdict on a certificate says of the line.
use Rattle.std.proofs.Common.{◌≡◌, ℕ, ◌≤◌, Bool, List, [], ◌∷◌, ◌++◌, sym, ap, ◌∙◌, subst, inl, inr, Some}
use Rattle.std.specs.Prelude.{slice_get}
use Rattle.std.proofs.lemmas.Option.{same_Some}
use Rattle.line_instance.specs.Line.{Line, IsLine, tasks}
use Rattle.line_rules.specs.Accepted.{MayBegin, HasTrail, ClaimIsAccepted, ClaimIsInfeasible}
use Rattle.line_rules.specs.Balance.{all_tasks}
use Rattle.line_rules.specs.Trails.{Leads, IsTrail}
use Rattle.line_rules.specs.declared.types.LineKind.{LineKind}
use Rattle.line_rules.specs.declared.types.Entry.{Entry}
use Rattle.line_rules.specs.declared.types.OpenFrame.{OpenFrame}
use Rattle.line_rules.specs.declared.types.Trail.{Trail}
use Rattle.line_rules.specs.declared.types.Ask.{Ask}
use Rattle.line_rules.specs.declared.types.Ask.TheVariants as ask
use Rattle.line_rules.specs.declared.types.Claim.{Claim}
use Rattle.line_rules.specs.declared.types.Claim.TheVariants as claim
use Rattle.line_rules.specs.declared.types.Certificate.{Certificate}
use Rattle.line_rules.proofs.AcceptedIsTrue.{accepted_true, infeasible_true}
use Rattle.line_check.specs.Frames.{IsTrailOf}
use Rattle.line_check.specs.Certificates.{IsAllowed, IsClaimVerdict, IsVerdict, IsAcceptedSo, IsTrueOf}
use Rattle.line_check.specs.declared.types.Place.TheVariants as place
use Rattle.line_check.specs.declared.types.Verified.{Verified}
use Rattle.line_check.specs.declared.types.Verified.TheVariants as verified

module _ (kind : LineKind) (line : Line) (X : ℕ) (es : List Entry) (R : List Bool) (most : ℕ) where
  head_of : (ps : List OpenFrame) (d f : OpenFrame) → Leads kind line X es R most ps d.set d.most
      → slice_get (ps ++ d ∷ []) 0 ≡ Some f → f.most ≡ most
  head_of [] d f l e = ap (λ (z : OpenFrame). z.most) (sym (same_Some d f e)) ∙ l.1
  head_of (p ∷ ps) d f l e = ap (λ (z : OpenFrame). z.most) (sym (same_Some p f e)) ∙ l.1.1

  -- a trail begins with the stations of its first frame
  pub head_most : (fs : List OpenFrame) (f : OpenFrame) → IsTrail kind line X es R most fs → slice_get fs 0 ≡ Some f
      → f.most ≡ most
  head_most fs f t e =
      let G : List OpenFrame → Type 0 = λ z. slice_get z 0 ≡ Some f in
      head_of t.passed t.deepest f t.leads (subst G t.all e)

pub trail_begins : (kind : LineKind) (line : Line) (a : Ask) (lower upper : ℕ) (es : List Entry) (t : Trail)
    → IsAllowed a lower upper t → IsTrailOf kind line t.cycle es t.frames → HasTrail kind line a lower upper es (Some t)
trail_begins kind line a lower upper es t w o =
    let M : ℕ → Type 0 = λ n. MayBegin a lower upper t.cycle n in
    (o.0, subst M (head_most kind line t.cycle es (all_tasks line) o.0 t.frames w.0 o.1 w.1.0) w.1.1, o.1)

claim_accepted : (kind : LineKind) (line : Line) (steps l u units : ℕ) (a : Ask) (c : Claim)
    → IsClaimVerdict kind line a c steps (verified.Accepted l u units)
    → ClaimIsAccepted kind line a c l u units × (units ≤ steps)
claim_accepted kind line steps l u units (ask.Stations cycle) (claim.TooLong task) h = absurd h
claim_accepted kind line steps l u units (ask.Cycle stations) (claim.TooLong task) h = absurd h
claim_accepted kind line steps l u units (ask.Stations cycle) (claim.Bounds lower upper b es trail) h =
    ((h.0, h.1, h.2, h.3), h.4)
claim_accepted kind line steps l u units (ask.Cycle stations) (claim.Bounds lower upper b es trail) h =
    ((h.0, h.1, h.2, h.3), h.4)

claim_infeasible : (kind : LineKind) (line : Line) (steps i : ℕ) (a : Ask) (c : Claim)
    → IsClaimVerdict kind line a c steps (verified.TooLong i) → ClaimIsInfeasible line a c i
claim_infeasible kind line steps i (ask.Stations cycle) (claim.TooLong task) h = h
claim_infeasible kind line steps i (ask.Cycle stations) (claim.TooLong task) h = absurd h
claim_infeasible kind line steps i (ask.Stations cycle) (claim.Bounds lower upper b es trail) h = absurd h
claim_infeasible kind line steps i (ask.Cycle stations) (claim.Bounds lower upper b es trail) h = absurd h

-- a yes is no refusal
abbrev Says : Verified → Type 0
Says (verified.Accepted l u units) = Unit {0}
Says (verified.TooLong i) = Unit {0}
Says (verified.Refused place) = ⊥
Says (verified.StepsEnded s) = Unit {0}

not_accepted : (v : Verified) (said real : ℕ) → v ≡ verified.Refused (place.Tasks said real) → Says v → ⊥
not_accepted v said real e h = subst Says e h

pub accepted_so : (line : Line) (cert : Certificate) (steps : ℕ) (v : Verified) → IsVerdict line cert steps v
    → IsAcceptedSo line cert steps v
accepted_so line cert steps (verified.Accepted l u units) h = elim h [
  | inl w ↦ absurd (not_accepted (verified.Accepted l u units) cert.tasks (tasks line) w.0 tt)
  | inr w ↦ (let r : ClaimIsAccepted cert.kind line cert.ask cert.claim l u units × (units ≤ steps) =
      claim_accepted cert.kind line steps l u units cert.ask cert.claim w.1 in
      (record { tasks = w.0; claim = r.0 }, r.1))
]
accepted_so line cert steps (verified.TooLong i) h = elim h [
  | inl w ↦ absurd (not_accepted (verified.TooLong i) cert.tasks (tasks line) w.0 tt)
  | inr w ↦ record { tasks = w.0; claim = claim_infeasible cert.kind line steps i cert.ask cert.claim w.1 }
]
accepted_so line cert steps (verified.Refused place) h = tt
accepted_so line cert steps (verified.StepsEnded s) h = tt

pub true_of : (line : Line) → IsLine line → (cert : Certificate) (steps : ℕ) (v : Verified)
    → IsAcceptedSo line cert steps v → IsTrueOf line cert v
true_of line ok cert steps (verified.Accepted l u units) h = accepted_true line cert l u units ok h.0
true_of line ok cert steps (verified.TooLong i) h = infeasible_true line cert i ok h
true_of line ok cert steps (verified.Refused place) h = tt
true_of line ok cert steps (verified.StepsEnded s) h = tt
