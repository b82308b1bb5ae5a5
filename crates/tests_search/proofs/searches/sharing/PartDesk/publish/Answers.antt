use Rattle.lemma_core.proofs.HistoryGrows.{follows_still}
use Rattle.tests_search.specs.inner.Shared.{part_of}
use Rattle.tests_search.proofs.PartFacts.{publishes_too, own_published}
use Rattle.tests_search.proofs.searches.sharing.PartDesk.publish.Goals as goal

pub publish-requires-clause-follows : goal.publish-requires-clause-follows
publish-requires-clause-follows c =
    let old = c.args.self.now in
    let part = c.meet_other.new.self in
    follows_still (part_of old.book old.from old.to) (part_of part.book part.from part.to) c.args.step
    c.meet_other.ensures.keeps c.requires.follows

pub returns-clause-publishes : goal.returns-clause-publishes
returns-clause-publishes c =
    let old = c.args.self.now in
    let part = c.meet_other.new.self in
    publishes_too old.book part.book c.publish.new.self old.from old.to part.from part.to c.args.step c.publish.result
    c.meet_other.ensures part.within c.publish.ensures.publishes

pub returns-clause-own : goal.returns-clause-own
returns-clause-own c =
    let part = c.meet_other.new.self in
    own_published part.book c.publish.new.self part.from part.to c.args.step c.publish.result part.turned part.within
    c.publish.ensures.publishes
