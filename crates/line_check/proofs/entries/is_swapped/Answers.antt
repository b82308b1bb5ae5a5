use Rattle.std.proofs.Common.{◌∙◌, List, Bool, true, set, ap, sym, arith}
use Rattle.std.proofs.lemmas.Bool.{false≢true}
use Rattle.line_check.proofs.entries.is_swapped.Goals as goal

pub returns-then-not-is_same : goal.returns-then-not-is_same
returns-then-not-is_same c = (
  λ e. absurd (false≢true e),
  λ f. absurd (false≢true (sym c.if-not-is_same.true ∙ c.is_same.ensures.1
      (f.set ∙ sym (c.with.ensures.value ∙ ap (λ (s : List Bool). set s c.args.in_task true)
      c.without.ensures.value)))),
)

pub returns : goal.returns
returns c = (
  λ e. record {
    out_in = sym c.has.ensures ∙ c.if-not-has.false;
    task = omega (arith, c.if-in_task-tasks.false, c.tasks-tasks.ensures.tasks);
    into_out = sym c.has-else-not-has.ensures ∙ c.if-has.false;
    stations = c.if-cited-entry.false;
    cycle = c.if-cited-entry-2.false;
    set = c.is_same.ensures.0 c.if-not-is_same.false ∙ (c.with.ensures.value
        ∙ ap (λ (s : List Bool). set s c.args.in_task true) c.without.ensures.value);
    stands = c.stands_for.ensures.0 e;
  },
  λ f. c.stands_for.ensures.1 f.stands,
)
