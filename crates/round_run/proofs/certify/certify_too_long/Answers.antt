use Rattle.std.proofs.Common.{sym, subst}
use Rattle.line_rules.specs.declared.types.Certificate.{Certificate}
use Rattle.round_run.specs.Certified.{IsNoBalance}
use Rattle.round_run.proofs.CertificateFacts.{refusal}
use Rattle.round_run.proofs.certify.certify_too_long.Goals as goal

pub returns : goal.returns
returns c =
    let R : Certificate → Type 0 = IsNoBalance c.args.kind c.args.inst.now c.args.cycle c.args.task in
    subst R (sym c.about_stations.ensures.said) (refusal c.args.kind c.args.inst.now c.args.cycle c.args.task
    c.about_stations.ensures.line c.requires.cycle c.requires.long)
