use Rattle.std.proofs.Common.{◌≡◌, ◌∙◌, ap, sym, arith, add-one, take, drop, Some, length, ◌-◌, ◌+◌, suc}
use Rattle.cert_lines.proofs.Parts.{no_mark, first_mark}
use Rattle.cert_lines.proofs.words.split_at.Goals as goal
use Rattle.line_io.proofs.ReadFacts.{to_end}

pub returns : goal.returns
returns c = no_mark c.args.mark c.args.bytes.now (λ k h. c.loop-i.invariant k (omega arith))

pub returns-then-bytes-i : goal.returns-then-bytes-i
returns-then-bytes-i c =
    let rest : take (length c.args.bytes.now - (c.loop-i.i + 1)) (drop (c.loop-i.i + 1) c.args.bytes.now)
    ≡ drop (suc c.loop-i.i) c.args.bytes.now =
    to_end c.args.bytes.now (c.loop-i.i + 1) (length c.args.bytes.now - (c.loop-i.i + 1)) (omega arith)
    ∙ ap (λ k. drop k c.args.bytes.now) (add-one c.loop-i.i) in
    first_mark c.args.mark c.args.bytes.now c.loop-i.i c.loop-i-test.true c.loop-i.invariant c.if-bytes-i.true
    ∙ ap (λ r. Some (take c.loop-i.i c.args.bytes.now, r)) (sym rest)
