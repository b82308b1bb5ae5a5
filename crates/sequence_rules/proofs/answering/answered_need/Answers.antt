use Rattle.std.proofs.Common.{sym, ◌∙◌, inl, inr, arith}
use Rattle.std.proofs.lemmas.Bool.{false≢true, cases_lt}
use Rattle.sequence_rules.proofs.answering.answered_need.Goals as goal

pub returns-then-answers : goal.returns-then-answers
returns-then-answers c = record {
  answers = λ some. c.answers.ensures.0 c.if-answers.true;
  most = (c.need_of-need.ensures c.args.starts.now).most;
}

pub returns-else-answers : goal.returns-else-answers
returns-else-answers c = record {
  answers = λ some. absurd (omega (arith, some));
  most = λ n a. elim (cases_lt 0 n) [
    | inr none ↦ none
    | inl some ↦ absurd (false≢true (sym c.if-answers.false
        ∙ c.answers.ensures.1 ((c.need_of-need.ensures c.args.starts.now).answers n some a)))
  ];
}
