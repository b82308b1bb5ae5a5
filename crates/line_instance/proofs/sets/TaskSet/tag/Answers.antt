use Rattle.std.proofs.Common.{◌≡◌, arith}
use Rattle.line_instance.specs.Tags.{pairs_of, used, tag_of}
use Rattle.line_instance.proofs.sets.TaskSet.tag.Goals as goal

pub returns : goal.returns
unfolding tag_of
returns c =
    let all : c.loop-k.k ≡ used (pairs_of c.args.self.now) = omega (arith, c.used_pairs-k-end.ensures.value) in
    cc
