use Rattle.std.proofs.Common.{◌≤◌, []}
use Rattle.std.proofs.lemmas.Result.{IfOk-weaker}
use Rattle.line_rules.specs.declared.types.Certificate.{Certificate}
use Rattle.round_run.specs.Certified.{IsOptimum}
use Rattle.round_run.specs.Solving.{IsSolved}
use Rattle.round_run.specs.declared.plans.Plan.{Plan}
use Rattle.round_run.proofs.CertificateFacts.{room_alone}
use Rattle.round_run.proofs.certify.certify_optimum.Goals as goal

pub certify_warm_optimum-requires : goal.certify_warm_optimum-requires
certify_warm_optimum-requires c = record {
  cycle = c.requires.cycle;
  solved = (
    [],
    c.requires.solved.0,
    room_alone c.args.inst.now c.requires.solved.0.units c.requires.solved.1,
    c.requires.solved.2,
  );
}

pub returns : goal.returns
returns c =
    let P : Certificate → Type 0 = λ cert. (plan : Plan) → plan.units ≤ 3000000
    → IsSolved c.args.kind c.args.inst.now c.args.cycle plan c.args.book
    → IsOptimum c.args.kind c.args.inst.now c.args.cycle plan c.args.book.state.best cert in
    IfOk-weaker c.certify_warm_optimum.result _ P
    (λ cert all plan limit solved. all [] plan (room_alone c.args.inst.now plan.units limit) solved)
    c.certify_warm_optimum.ensures
