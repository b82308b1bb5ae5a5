use Rattle.std.proofs.Common.{refl, arith}
use Rattle.line_seek.specs.inner.Trying.{may_add}
use Rattle.line_seek.proofs.SeekFacts.{seeking_on}
use Rattle.line_seek.proofs.seeking.Seeker.make_try.Goals as goal

pub returns-in_ok-tried-in-Search-clause-seeking : goal.returns-in_ok-tried-in-Search-clause-seeking
returns-in_ok-tried-in-Search-clause-seeking c =
    seeking_on c.args.self.now _ c.in_ok-tried-in-Search.tried.listed (may_add c.in_ok-tried-in-Search.tried.told)
    c.requires.seeking c.in_ok-tried-in-Search.ensures.gains refl refl (omega arith)
