use Rattle.line_seek.proofs.SeekFacts.{tables}
use Rattle.line_seek.proofs.trying.try_beam.Goals as goal

pub beam-requires-clause-pairs : goal.beam-requires-clause-pairs
beam-requires-clause-pairs c =
    tables c.args.inst.now c.args.scratch.now.about.kind c.args.scratch.now.about.cycle c.args.pairs.now
    c.requires.pairs
