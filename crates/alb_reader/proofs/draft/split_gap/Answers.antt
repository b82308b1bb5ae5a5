use Rattle.std.proofs.Common.{◌≡◌, ◌∙◌, ap, sym, arith, add-one, take, drop, Some, length, ◌-◌, ◌+◌, suc}
use Rattle.alb_reader.proofs.Blanks.{no_gap, first_gap}
use Rattle.alb_reader.proofs.draft.split_gap.Goals as goal
use Rattle.line_io.proofs.ReadFacts.{to_end}

pub returns-then-is_gap-clause-some : goal.returns-then-is_gap-clause-some
returns-then-is_gap-clause-some c =
    let rest : take (length c.args.bytes.now - (c.loop-i.i + 1)) (drop (c.loop-i.i + 1) c.args.bytes.now)
    ≡ drop (suc c.loop-i.i) c.args.bytes.now =
    to_end c.args.bytes.now (c.loop-i.i + 1) (length c.args.bytes.now - (c.loop-i.i + 1)) (omega arith)
    ∙ ap (λ k. drop k c.args.bytes.now) (add-one c.loop-i.i) in
    first_gap c.args.bytes.now c.loop-i.i c.loop-i-test.true c.loop-i.invariant
    (sym c.is_gap.ensures ∙ c.if-is_gap.true) ∙ ap (λ r. Some (take c.loop-i.i c.args.bytes.now, r)) (sym rest)

pub returns-clause-none : goal.returns-clause-none
returns-clause-none c = λ _. no_gap c.args.bytes.now (λ k h. c.loop-i.invariant k (omega arith))
