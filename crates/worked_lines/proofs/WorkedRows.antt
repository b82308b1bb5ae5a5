-- The worked rows, by computing.
use Rattle.std.proofs.Common.{refl}
use Rattle.line_instance.specs.Truths.{full_to}
use Rattle.line_rules.specs.Bounds.{bound, lm1, lm2, lm3, sixths, head, tail, chained}
use Rattle.worked_lines.specs.Rows.{BoundsOfTheRows}

pub bounds_of_the_rows : BoundsOfTheRows
unfolding full_to bound lm1 lm2 lm3 sixths head tail chained
bounds_of_the_rows = record {
  chain_lm1 = refl;
  chain_lm2 = refl;
  chain_lm3 = refl;
  chain_second = refl;
  chain_straight = refl;
  chain_u = refl;
  five_at_8 = refl;
  five_at_7 = refl;
  five_at_6 = refl;
  five_at_3 = refl;
  none = refl;
  jackson_at_10 = refl;
  jackson_at_7 = refl;
}
