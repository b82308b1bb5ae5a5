use Rattle.std.proofs.Common.{arith, ◌≡◌, true, refl}
use Rattle.line_rules.specs.Ranges.{IsFrame}
use Rattle.cert_ranges.proofs.Items.{one_more, each_item}
use Rattle.cert_ranges.proofs.trails.is_trail.Goals as goal

pub returns-then-not-is_frame : goal.returns-then-not-is_frame
returns-then-not-is_frame c = (
  λ t. absurd (cc),
  λ r. let e : c.is_frame.result ≡ true = c.is_frame.ensures.1 (r.each c.loop-k.k c.at.result.now c.at.ensures) in cc,
)

pub loop-k-preserved : goal.loop-k-preserved
loop-k-preserved c = one_more (IsFrame c.args.tasks c.args.count) c.args.trail.now.frames c.loop-k.k c.at.result.now
    c.at.ensures (c.is_frame.ensures.0 c.if-not-is_frame.false) c.loop-k.invariant

pub returns : goal.returns
returns c = (
  λ t. record {
    cycle = c.is_cycle.ensures.0 c.if-not-is_cycle.false;
    some = omega (arith, c.if-many-lt1.false, c.len-many.ensures);
    few = omega (arith, c.if-many-gt-MAX_FRAMES.false, c.len-many.ensures);
    each = each_item (IsFrame c.args.tasks c.args.count) c.args.trail.now.frames c.loop-k.k
        (omega (arith, c.loop-k-test.false, c.len-many.ensures)) c.loop-k.invariant;
  },
  λ r. refl,
)
