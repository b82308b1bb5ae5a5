use Rattle.std.proofs.Common.{◌≡◌, ◌∙◌, sym, ap, ◌<◌, ◌+◌, ◌*◌, ◌≤◌, take, get_or, arith}
use Rattle.line_instance.specs.Truths.{truths_of, count}
use Rattle.line_instance.specs.inner.Words.{length-truths}
use Rattle.line_instance.proofs.Bits.{count_word}
use Rattle.std.specs.Prelude.{count_ones}
use Rattle.std.proofs.lemmas.List.{take_all}
use Rattle.std.proofs.lemmas.Nat.{ones-le}
use Rattle.line_instance.proofs.sets.TaskSet.count.Goals as goal

pub loop-i-preserved : goal.loop-i-preserved
loop-i-preserved c =
    let l : c.loop-i.i < 16 = omega arith in
    let o : count_ones (get_or c.self.inside.words c.loop-i.i 0) ≤ 64 =
    ones-le 64 (get_or c.self.inside.words c.loop-i.i 0) (c.self.invariant.fit c.loop-i.i) in
    record {
      counted = ap (λ n. n + count_ones (get_or c.self.inside.words c.loop-i.i 0)) c.loop-i.invariant.counted
          ∙ sym (count_word c.self.inside.words c.self.invariant c.loop-i.i l);
      small = omega (arith, o);
    }

pub returns-clause-value : goal.returns-clause-value
returns-clause-value c =
    let e : c.loop-i.i ≡ 16 = omega arith in
    c.loop-i.invariant.counted ∙ ap (λ k. count (take (64 * k) (truths_of c.self.inside.words))) e
    ∙ ap count (take_all 1024 (truths_of c.self.inside.words) (omega (arith, length-truths c.self.inside.words)))
    ∙ ap count c.self.view_is
