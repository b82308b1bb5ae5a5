use Rattle.std.proofs.Common.{◌≡◌, ◌+◌, Bool, List, length, ap, ◌∙◌, arith}
use Rattle.line_rules.specs.declared.types.Load.{Load}
use Rattle.line_rules.specs.declared.types.Mode.{Mode}
use Rattle.station_search.specs.Mode.{mode_of}
use Rattle.round_helpers.proofs.OfferFacts.{job_seated, around_long}
use Rattle.round_helpers.proofs.question_work.offer_job.Goals as goal

pub offer_loads-requires-clause-seated : goal.offer_loads-requires-clause-seated
offer_loads-requires-clause-seated g c =
    let M : List Bool → Mode = λ z. mode_of c.args.question.kind c.args.inst.now z in
    job_seated c.args.question.kind c.args.inst.now c.args.question.cycle c.args.question.most c.args.job.now
    c.choose_mode.result c.args.loads c.in_ok-loads.loads c.requires.job
    (c.choose_mode.ensures.mode ∙ ap M c.all-all.ensures.value) c.choose_mode.ensures.belongs c.in_ok-loads.ensures
    c.requires.seated

pub offer_loads-requires-clause-few : goal.offer_loads-requires-clause-few
offer_loads-requires-clause-few g c =
    let long : length c.in_ok-loads.loads ≡ length c.args.loads + 1 =
    ap (λ (z : List Load). length z) c.in_ok-loads.ensures
    ∙ around_long c.choose_mode.result c.args.job.now.load c.args.loads in
    omega (arith, c.requires.few, long)
