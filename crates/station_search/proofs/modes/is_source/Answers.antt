use Rattle.line_instance.specs.Line.{is_before}
use Rattle.station_search.proofs.Sources.{none_common}
use Rattle.station_search.proofs.modes.is_source.Goals as goal

pub returns : goal.returns
returns c = none_common (λ i. is_before c.args.inst.now i c.args.task) c.before-2.result.now c.args.set.now
    c.is_disjoint.result (λ i m. (c.before-2.ensures.members i).0 m) (λ i m. (c.before-2.ensures.members i).1 m)
    c.is_disjoint.ensures
