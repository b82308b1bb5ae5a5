use Rattle.std.proofs.Common.{◌*◌, nat_le, nat_lt, arith}
use Rattle.line_rules.proofs.SizeClasses.{byte_is, sixths_steps}
use Rattle.lower_bounds.proofs.sizes.sixths.Goals as goal

pub returns-clause-value : goal.returns-clause-value
returns-clause-value c =
    let t = c.args.time in
    let d = c.args.cycle in
    omega (
      arith,
      sixths_steps d t c.requires.some,
      c.from.ensures,
      c.from-2.ensures,
      c.from-3.ensures,
      c.from-4.ensures,
      byte_is (nat_le d (3 * t)),
      byte_is (nat_lt d (3 * t)),
      byte_is (nat_le (2 * d) (3 * t)),
      byte_is (nat_lt (2 * d) (3 * t)),
    )
