use Rattle.std.proofs.Common.{◌≤◌, arith, refl}
use Rattle.std.proofs.lemmas.Bool.{false≢true}
use Rattle.std.proofs.lemmas.List.Elements.{AllZip-get_or}
use Rattle.std.proofs.lemmas.Slice.Zip.{AllZip-long}
use Rattle.sequence_rules.proofs.Starts.{zip_from}
use Rattle.sequence_rules.proofs.comparing.is_no_later.Goals as goal

pub returns-then-starts-other : goal.returns-then-starts-other
returns-then-starts-other c = (
  λ e. absurd (false≢true e),
  λ z.
      absurd (omega (arith, AllZip-long (λ a b. a ≤ b) c.args.starts.now c.args.other.now z, c.if-starts-other.true)),
)

pub returns-then-starts-k : goal.returns-then-starts-k
returns-then-starts-k c = (
  λ e. absurd (false≢true e),
  λ z.
      absurd (omega (
        arith,
        AllZip-get_or (λ a b. a ≤ b) c.args.starts.now c.args.other.now c.loop-k.k 0 0 z
            (omega arith),
        c.if-starts-k.true,
      )),
)

pub returns : goal.returns
returns c = (
  λ e. zip_from c.args.starts.now c.args.other.now (omega arith)
      (λ j l. c.loop-k.invariant j (omega (arith, l))),
  λ z. refl,
)
