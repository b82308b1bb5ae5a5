use Rattle.std.proofs.Common.{sym, subst, arith}
use Rattle.line_rules.specs.declared.types.Claim.{Claim}
use Rattle.line_check.specs.Certificates.{ClaimNeeds}
use Rattle.line_check.proofs.checking.needs_entries.Goals as goal

pub returns-in-Bounds : goal.returns-in-Bounds
returns-in-Bounds c =
    let P : Claim → Type 0 = λ z. ClaimNeeds c.args.cert.now.kind c.args.inst.now c.args.cert.now.ask z in (
      λ e. (
        omega (arith, c.if-cert-tasks.false, c.tasks-tasks.ensures.tasks),
        subst P (sym c.in-Bounds.is) (c.is_shown.ensures.0 e),
      ),
      λ n. c.is_shown.ensures.1 (subst P c.in-Bounds.is n.1),
    )
