use Rattle.std.proofs.Common.{◌<◌, ◌∙◌, length, arith}
use Rattle.line_instance.specs.Line.{tasks}
use Rattle.line_rules.specs.Ranges.{AreEntries}
use Rattle.rayon.specs.Numbers.{nat_range}
use Rattle.rayon.proofs.ListFacts.{IfOk-then}
use Rattle.rayon.proofs.ToStd.{nat_range-All}
use Rattle.wide_check.proofs.RangeFacts.{checked_range}
use Rattle.wide_check.proofs.batches.batch_found.Goals as goal

pub collect-requires-clause-ready : goal.collect-requires-clause-ready
collect-requires-clause-ready g c κs within =
    let ends = c.into_par_iter.ensures in
    let inside = nat_range-All (λ i. (i < length c.args.entries.now)
    × AreEntries (tasks c.args.inst.now) c.args.entries.now) c.args.from c.args.to
    (λ i low high. (omega (arith, high, c.requires.to), c.requires.range)) in
    rw (c.map.ensures.base, c.map.ensures.f, c.with_min_len.ensures.base, ends.0, ends.1)
    (λ k d lt. (inside k d lt, λ y p. tt))

pub returns : goal.returns
returns g c =
    let ends = c.into_par_iter.ensures in
    IfOk-then c.collect.result _ _ c.collect.ensures (λ v h.
    let chain = rw (c.map.ensures.base, c.map.ensures.f, c.with_min_len.ensures.base) at h.1 in
    let places = chain.1 ∙ (λ i. nat_range (ends.0 i) (ends.1 i)) in
    checked_range c.args.kind c.args.inst.now c.args.entries.now c.args.from c.args.to 65536 chain.0 h.0 v.items h.2
    places chain.2)
