use Rattle.std.proofs.Common.{[]}
use Rattle.round_run.proofs.CertificateFacts.{room_alone}
use Rattle.round_run.proofs.certify.certify_stop.Goals as goal

pub returns : goal.returns
returns c = λ plan limit spent.
    c.certify_warm_stop.ensures [] spent.top plan (room_alone c.args.inst.now plan.units limit) spent.spent
