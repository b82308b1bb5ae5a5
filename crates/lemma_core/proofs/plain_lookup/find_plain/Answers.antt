use Rattle.std.proofs.Common.{◌∙◌, sym, arith, ◌-◌}
use Rattle.lemma_core.proofs.Runs.{answers_is}
use Rattle.lemma_core.proofs.LastAnswers.{last_is, none_is, passes, fails_so}
use Rattle.lemma_core.proofs.plain_lookup.find_plain.Goals as goal

pub returns-then-is_answer : goal.returns-then-is_answer
returns-then-is_answer c = sym (last_is c.args.entries.now c.args.set.now c.args.most c.args.cycle (c.loop-k.k - 1)
    (record {
      entry = c.at.result.now;
      there = c.at.ensures;
      answers = answers_is c.at.result.now c.args.set.now c.args.most c.args.cycle
          (sym c.is_answer.ensures ∙ c.if-is_answer.true);
      last = λ j e l g a. c.loop-k.invariant.above j e (omega arith) g a;
    }))

pub loop-k-preserved : goal.loop-k-preserved
loop-k-preserved c = record {
  within = omega (arith, c.loop-k.invariant.within);
  above = passes c.args.entries.now c.args.set.now c.args.most c.args.cycle (c.loop-k.k - 1) c.at.result.now
      c.at.ensures
      (fails_so c.at.result.now c.args.set.now c.args.most c.args.cycle
      (sym c.is_answer.ensures ∙ c.if-is_answer.false))
      (λ j e l g a. c.loop-k.invariant.above j e (omega arith) g a);
}

pub returns : goal.returns
returns c = sym (none_is c.args.entries.now c.args.set.now c.args.most c.args.cycle
    (λ k e g a. c.loop-k.invariant.above k e (omega arith) g a))
