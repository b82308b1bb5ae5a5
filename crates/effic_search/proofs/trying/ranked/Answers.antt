use Rattle.effic_search.proofs.trying.ranked.Goals as goal

pub unreachable-requires : goal.unreachable-requires
unreachable-requires c = c.requires.short c.in-TooLong.field-0 c.in-TooLong.ensures.passes
