-- The least number of stations that is left open, and the frame that a trail begins with.
use Rattle.std.proofs.Common.{ℕ, ◌+◌, ◌<◌, ◌≤◌, sym, subst, inl, inr, arith, Some}
use Rattle.std.proofs.lemmas.Bool.{cases_eq}
use Rattle.line_instance.specs.Line.{Line}
use Rattle.line_rules.specs.Balance.{all_tasks}
use Rattle.line_rules.specs.declared.types.Trail.{Trail}
use Rattle.line_check.specs.Frames.{IsTrailOf}
use Rattle.line_check.proofs.VerdictFacts.{head_most}
use Rattle.line_rules.specs.declared.products.EfficCert.{EfficCert}
use Rattle.effic_check.specs.Accepted.{IsClosed, MayBegin, HasTrail}
use Rattle.effic_check.specs.Verdict.{IsAllowed}

-- a trail that is allowed and valid is one of the certificate
pub trail_begins : (line : Line) (cert : EfficCert) (t : Trail) → IsAllowed cert t
    → IsTrailOf cert.kind line t.cycle cert.entries t.frames → HasTrail cert.kind line cert (Some t)
trail_begins line cert t w o =
    let M : ℕ → Type 0 = λ n. MayBegin cert t.cycle n in (
      o.0,
      subst M (head_most cert.kind line t.cycle cert.entries (all_tasks line) o.0 t.frames w.0 o.1 w.1.0) w.1.1,
      o.1,
    )

-- one number of stations more is closed
pub closed_more : (line : Line) (cert : EfficCert) (k : ℕ)
    → ((m : ℕ) → cert.least_m ≤ m → m < k → IsClosed line cert.entries cert.lower m)
    → IsClosed line cert.entries cert.lower k
    → (m : ℕ) → cert.least_m ≤ m → m < k + 1 → IsClosed line cert.entries cert.lower m
closed_more line cert k h here m from less = elim (cases_eq m k) [
  | inl s ↦ (let P : ℕ → Type 0 = λ z. IsClosed line cert.entries cert.lower z in subst P (sym s) here)
  | inr d ↦ h m from (omega (arith, less, d))
]
