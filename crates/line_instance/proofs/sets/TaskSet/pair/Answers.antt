use Rattle.std.proofs.Common.{◌∙◌, ap, get_or}
use Rattle.line_instance.specs.Tags.{pairs_of}
use Rattle.line_instance.proofs.UsedPairs.{joined}
use Rattle.line_instance.proofs.sets.TaskSet.pair.Goals as goal

pub returns : goal.returns
returns c =
    joined c.self.inside.words c.self.invariant c.args.k c.from.result c.from-2.result c.requires c.from.ensures
    c.from-2.ensures
    ∙ ap (λ set. get_or (pairs_of set) c.args.k 0) c.self.view_is
