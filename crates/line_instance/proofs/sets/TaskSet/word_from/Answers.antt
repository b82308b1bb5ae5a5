use Rattle.std.proofs.Common.{◌≡◌, ◌∙◌, ◌*◌, ◌+◌, List, [], Bool, drop, get_or, subst, arith}
use Rattle.line_instance.specs.Truths.{members_from, truths_of}
use Rattle.line_instance.specs.inner.Words.{members_left, length-truths}
use Rattle.line_instance.proofs.Ahead.{word_first, left_of_none, past_last}
use Rattle.line_instance.proofs.sets.TaskSet.word_from.Goals as goal

pub returns-then-word-ne0-clause-some : goal.returns-then-word-ne0-clause-some
returns-then-word-ne0-clause-some c =
    let P : List Bool → Type 0 = λ t. members_from (64 * c.args.first) (drop (64 * c.args.first) t)
    ≡ members_left (get_or c.self.inside.words c.loop-k.k 0) (64 * c.loop-k.k) (c.loop-k.k + 1) t in
    subst P c.self.view_is (c.loop-k.invariant ∙ word_first c.self.inside.words c.loop-k.k c.loop-k-test.true)

pub loop-k-preserved : goal.loop-k-preserved
loop-k-preserved c =
    c.loop-k.invariant ∙ word_first c.self.inside.words c.loop-k.k c.loop-k-test.true
    ∙ left_of_none (get_or c.self.inside.words c.loop-k.k 0) (64 * c.loop-k.k) (c.loop-k.k + 1)
    (truths_of c.self.inside.words) c.if-word-ne0.false

pub returns-clause-none : goal.returns-clause-none
returns-clause-none c = λ _.
    let P : List Bool → Type 0 = λ t. members_from (64 * c.args.first) (drop (64 * c.args.first) t) ≡ [] in
    subst P c.self.view_is (c.loop-k.invariant ∙ past_last (truths_of c.self.inside.words) c.loop-k.k
    (omega (arith, length-truths c.self.inside.words)))
