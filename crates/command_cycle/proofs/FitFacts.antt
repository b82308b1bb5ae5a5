-- The check reads files of the length of a certificate of `cycle`.
use Rattle.std.proofs.Common.{◌≡◌, ◌≤◌, ℕ, length, nat_eq, Some, None, ap, arith}
use Rattle.line_instance.specs.Line.{Line}
use Rattle.line_rules.specs.declared.types.LineKind.{LineKind}
use Rattle.line_rules.specs.declared.types.Balance.{Balance as Assignment}
use Rattle.line_rules.specs.declared.types.Certificate.{Certificate}
use Rattle.cert_text.specs.Cert.{cert_text}
use Rattle.cycle_search.specs.rounds.declared.plans.Plan.{Plan}
use Rattle.cycle_search.specs.CycleCertified.{IsOptimum, IsStop}
use Rattle.input_files.specs.InputFile.{max_certificate}
use Rattle.solution_page.proofs.TextLengths.{bounds_fit, few_added}

pub stop_fits : (kind : LineKind) (line : Line) (m : ℕ) (plan : Plan) (lower upper : ℕ) (b : Assignment)
    (cert : Certificate) → IsStop kind line m plan lower upper b cert → plan.units ≤ 1000000
    → length (cert_text cert) ≤ max_certificate
stop_fits kind line m plan lower upper b cert s h = omega (
  arith,
  bounds_fit line cert lower upper s.units b s.entries (Some s.trail) (ap (λ (z : Certificate). z.claim) s.certified.said)
      s.certified.sayable s.certified.accepted,
  s.spent.stopped.some.many,
  s.certified.few,
  few_added (nat_eq plan.seek 0) plan.units h,
)

-- the same of an optimum
pub optimum_fits : (kind : LineKind) (line : Line) (m : ℕ) (plan : Plan) (c : ℕ) (b : Assignment)
    (cert : Certificate) → IsOptimum kind line m plan c b cert → plan.units ≤ 1000000
    → length (cert_text cert) ≤ max_certificate
optimum_fits kind line m plan c b cert o h = omega (
  arith,
  bounds_fit line cert c c o.units b o.entries None (ap (λ (z : Certificate). z.claim) o.certified.said)
      o.certified.sayable o.certified.accepted,
  o.some.many,
  o.certified.few,
  few_added (nat_eq plan.seek 0) plan.units h,
)
