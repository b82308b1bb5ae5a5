use Rattle.std.proofs.Common.{◌-◌, arith}
use Rattle.sequence_check.proofs.FrameFacts.{asked_first, asked_further}
use Rattle.sequence_check.proofs.frames.is_asked.Goals as goal

pub is_left_by-requires-clause-above : goal.is_left_by-requires-clause-above
is_left_by-requires-clause-above c = c.requires.posed (c.args.j - 1) c.at.result.now c.at.ensures

pub is_left_by-requires-clause-need : goal.is_left_by-requires-clause-need
is_left_by-requires-clause-need c = (c.requires.posed c.args.j c.args.frame.now c.requires.there).need

pub returns-then-j-eq0 : goal.returns-then-j-eq0
returns-then-j-eq0 c =
    let p = asked_first c.args.times.now c.args.interval c.args.reach c.args.frames.now c.args.j c.args.frame.now
    c.if-j-eq0.true in
    (λ e. p.0 (c.is_root.ensures.0 e), λ h. c.is_root.ensures.1 (p.1 h))

pub returns : goal.returns
returns c =
    let p = asked_further c.args.times.now c.args.interval c.args.reach c.args.frames.now c.args.j c.at.result.now
    c.args.frame.now (omega (arith, c.if-j-eq0.false)) c.at.ensures in
    (λ e. p.0 (c.is_left_by.ensures.0 e), λ h. c.is_left_by.ensures.1 (p.1 h))
