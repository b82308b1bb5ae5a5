use Rattle.std.proofs.Common.{◌∙◌, ap, arith, take}
use Rattle.std.proofs.lemmas.List.{length-take-le}
use Rattle.warm_book.specs.Warm.{untaken}
use Rattle.warm_book.specs.inner.Takings.{taking}
use Rattle.warm_book.proofs.TakingFacts.{takes_next, step_adds, all_add, all_kept}
use Rattle.warm_book.proofs.NumberedFacts.{spared_next}
use Rattle.warm_book.proofs.warming.Warming.take_batch.Goals as goal

pub take-requires-clause-same : goal.take-requires-clause-same
take-requires-clause-same c = ap (λ z. z.line) c.loop-k.invariant.about ∙ c.requires.same

pub take-requires-clause-range : goal.take-requires-clause-range
take-requires-clause-range c =
    let r = c.requires.range.each c.loop-k.k c.at.result.now c.at.ensures in
    record { most = r.most; cycle = r.cycle }

pub take-requires-clause-walked : goal.take-requires-clause-walked
take-requires-clause-walked c =
    let b = c.requires.taken.0 in
    let h = c.loop-k.invariant.taken b c.requires.taken.1 in
    spared_next c.args.room b (taking c.loop-k.self) c.args.old.now c.at.result.now c.args.from c.loop-k.k
    c.args.self.now.book.about.kind c.args.inst.now c.args.walked.now h c.requires.walked c.loop-k.auto.k c.at.ensures
    (ap (λ z. z.kind) c.loop-k.invariant.about) (ap (λ z. z.line) c.loop-k.invariant.about ∙ c.requires.same)
    c.units_at-units.result c.units_at-units.ensures

pub take-requires-clause-within : goal.take-requires-clause-within
take-requires-clause-within c =
    let b = c.requires.taken.0 in
    let h = c.loop-k.invariant.taken b c.requires.taken.1 in
    (all_add c.args.room (untaken b) (take c.loop-k.k c.args.old.now) (taking c.loop-k.self) h).spent (omega arith)

pub take-requires-clause-kept : goal.take-requires-clause-kept
take-requires-clause-kept c =
    let b = c.requires.taken.0 in
    let h = c.loop-k.invariant.taken b c.requires.taken.1 in
    omega (
      arith,
      all_kept c.args.room b (take c.loop-k.k c.args.old.now) (taking c.loop-k.self) h,
      length-take-le c.loop-k.k c.args.old.now (omega (arith, c.loop-k-test.true, c.requires.to)),
      c.requires.range.many,
      c.loop-k-test.true,
      c.requires.to,
    )

pub take-requires-clause-free : goal.take-requires-clause-free
take-requires-clause-free c =
    omega (arith, c.loop-k.invariant.filled, c.loop-k.invariant.free, c.loop-k-test.true, c.requires.to)

pub loop-k-preserved : goal.loop-k-preserved
loop-k-preserved c =
    let step = c.in_ok-take.ensures.ok in
    let adds = step_adds c.args.room (taking c.loop-k.self) (taking c.take.new.self) c.at.result.now step in
    record {
      taken = λ b h. takes_next c.args.room (untaken b) c.args.old.now c.loop-k.k (taking c.loop-k.self)
          (taking c.take.new.self) c.at.result.now c.at.ensures (c.loop-k.invariant.taken b h) step;
      about = adds.about ∙ c.loop-k.invariant.about;
      filled = omega (arith, c.loop-k.invariant.filled, c.in_ok-take.ensures.filled);
      free = omega (arith, c.loop-k.invariant.free, c.take.ensures.capacity);
      reserved = λ r. c.take.ensures.reserved (c.loop-k.invariant.reserved r);
    }
