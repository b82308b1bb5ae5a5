use Rattle.std.proofs.Common.{sym, subst, arith}
use Rattle.line_rules.specs.declared.types.Claim.{Claim}
use Rattle.line_check.specs.Certificates.{ClaimNeeds, ClaimFound}
use Rattle.line_check.proofs.checking.judge.Goals as goal

pub check_bounds-requires-clause-found : goal.check_bounds-requires-clause-found
check_bounds-requires-clause-found c = λ s.
    let P : Claim → Type 0 = λ z. ClaimNeeds c.args.cert.now.kind c.args.inst.now c.args.cert.now.ask z in
    let F : Claim → Type 0 = λ z. ClaimFound c.args.cert.now.kind c.args.inst.now z c.args.steps c.args.found in
    subst F c.in-Bounds.is (c.requires.found (
      omega (arith, c.if-cert-tasks.false, c.tasks-tasks.ensures.tasks),
      subst P (sym c.in-Bounds.is) s,
    ))
