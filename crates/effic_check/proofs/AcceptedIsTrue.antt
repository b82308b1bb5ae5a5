-- What an accepted certificate proves of the line.
use Rattle.std.proofs.Common.{◌≡◌, ℕ, ◌-◌, ◌*◌, ◌<◌, ◌≤◌, sym, subst, arith}
use Rattle.std.proofs.lemmas.Nat.{le-div}
use Rattle.std.proofs.Math.Nat.{mul_comm}
use Rattle.line_instance.specs.Line.{Line, IsLine}
use Rattle.line_rules.specs.Balance.{all_tasks, seat}
use Rattle.line_rules.proofs.AcceptedIsTrue.{answer_holds}
use Rattle.line_rules.proofs.SubBalance.{holds_more}
use Rattle.line_rules.specs.Products.{IsSayable}
use Rattle.line_rules.specs.declared.products.EfficCert.{EfficCert}
use Rattle.effic_check.specs.Accepted.{IsAccepted, cycle_below}
use Rattle.effic_check.specs.Truth.{NoneBelow, IsReached, IsBetween}
use Rattle.effic_check.specs.Verdict.{IsAcceptedSo, IsTrueOf}
use Rattle.effic_check.specs.declared.verdict.EfficVerified.{EfficVerified}
use Rattle.effic_check.specs.declared.verdict.EfficVerified.TheVariants as verified

-- a cycle whose product is below a bound is at most the greatest such cycle
pub below_cycle : (m c bound : ℕ) → 1 ≤ m → m * c < bound → c ≤ cycle_below bound m
below_cycle m c bound some less = le-div c (bound - 1) m (omega (arith, some))
    (let e : c * m ≡ m * c = mul_comm c m in omega (arith, less, e))

module _ (line : Line) (ok : IsLine line) (cert : EfficCert) (said : IsSayable cert) (units : ℕ)
    (a : IsAccepted line cert units) where
  none_below : NoneBelow cert.kind line cert.least_m cert.most_m cert.lower
  none_below m c from to one less =
      let d : ℕ = cycle_below cert.lower m in
      let near : c ≤ d = below_cycle m c cert.lower (omega (arith, said.least.some, from)) less in
      holds_more cert.kind line c d (all_tasks line) (all_tasks line) m m near (omega arith) (λ i x. x)
      (answer_holds cert.kind line ok cert.entries a.derived (all_tasks line) m d
      (a.closed m (from, to) (omega (arith, one, near))))

  reached : IsReached cert.kind line cert.least_m cert.most_m cert.upper
  reached = record {
    stations = cert.balance.stations;
    from = a.shown.asked.0;
    to = a.shown.asked.1;
    cycle = cert.cycle;
    some = said.cycle.some;
    product = a.shown.upper;
    balance = (seat cert.balance.place, a.shown.right.balance);
  }

  pub between : IsBetween cert.kind line cert.least_m cert.most_m cert.lower cert.upper
  between = record { reached = reached; none = none_below }

pub true_of : (line : Line) → IsLine line → (cert : EfficCert) → IsSayable cert → (steps : ℕ) (v : EfficVerified)
    → IsAcceptedSo line cert steps v → IsTrueOf line cert v
true_of line ok cert said steps (verified.Accepted l u units) h =
    let P : ℕ → Type 0 = λ x. IsBetween cert.kind line cert.least_m cert.most_m x u in
    let Q : ℕ → Type 0 = λ x. IsBetween cert.kind line cert.least_m cert.most_m cert.lower x in
    subst P (sym h.0) (subst Q (sym h.1) (between line ok cert said units h.2))
true_of line ok cert said steps (verified.Refused p) h = tt
true_of line ok cert said steps (verified.StepsEnded s) h = tt
