use Rattle.std.proofs.Common.{ℕ, ◌+◌, nat_eq, refl, subst, arith}
use Rattle.std.proofs.lemmas.Option.{slice_get_within}
use Rattle.line_check.specs.Walks.{AreBelow, IsUncovered, CountsTo}
use Rattle.line_check.specs.Frames.{EndsWell, WalksTo, NeedsTo}
use Rattle.line_check.proofs.frames.check_frame.Goals as goal

pub overflow_add-deepest : goal.overflow_add-deepest
overflow_add-deepest c = omega (
  arith,
  slice_get_within c.args.frames.now c.args.j c.args.frame.now c.requires.there,
  c.requires.few,
)

pub returns-in-Uncovered : goal.returns-in-Uncovered
returns-in-Uncovered c =
    let E : ℕ → Type 0 = λ n. EndsWell (nat_eq (c.args.j + 1) n) c.args.inst.now c.args.cycle c.args.frame.now.mode
    c.args.frame.now.set c.args.frame.now.last in
    let B : ℕ → Type 0 = λ n. AreBelow c.args.frame.now.cites n in
    let N : ℕ → Type 0 = λ n. IsUncovered c.args.inst.now (WalksTo c.args.inst.now c.args.cycle c.args.frame.now)
    (NeedsTo c.args.kind c.args.inst.now c.args.cycle (nat_eq (c.args.j + 1) n) c.args.frame.now) c.args.entries.now
    c.args.frame.now.set c.args.frame.now.most c.args.cycle c.args.frame.now.cites c.in-Uncovered.load in
    let M : ℕ → Type 0 = λ n. CountsTo c.args.inst.now (WalksTo c.args.inst.now c.args.cycle c.args.frame.now)
    (NeedsTo c.args.kind c.args.inst.now c.args.cycle (nat_eq (c.args.j + 1) n) c.args.frame.now) c.args.entries.now
    c.args.frame.now.set c.args.frame.now.most c.args.cycle c.args.frame.now.cites c.in-Uncovered.load
    c.in-Uncovered.units in (
      (
        record {
          asked = c.is_asked.ensures.0 c.if-not-is_asked.false;
          belongs = c.belongs.ensures.0 c.if-not-belongs.false;
          last = subst E c.len.ensures (c.ends_well.ensures.0 c.if-not-ends_well.false);
          below = subst B c.len-2.ensures (c.in_default.ensures.none refl);
        },
        subst N c.len.ensures c.in-Uncovered.ensures.0,
        subst M c.len.ensures c.in-Uncovered.ensures.1,
      ),
      c.in-Uncovered.ensures.2,
    )
