use Rattle.std.proofs.Common.{◌-◌, ◌*◌, ◌^◌, ◌%◌, ℕ, bit_and, w64, refl, arith}
use Rattle.std.proofs.lemmas.Nat.{and_le_l}
use Rattle.std.specs.Int.{bit_not}
use lib.Count.{count_leading_zeros}
use Rattle.station_load.proofs.LeftFacts.{last_left, rest_left}
use Rattle.station_load.proofs.marks.Marks.take_last.Goals as goal

pub returns-clause-last : goal.returns-clause-last
returns-clause-last c = last_left c.requires.left c.requires.some

pub returns-clause-left : goal.returns-clause-left
returns-clause-left c =
    let w : ℕ = c.args.left.now.word in
    let out : ℕ = bit_not w64 (1 * 2 ^ (63 - count_leading_zeros 64 w) % 2 ^ 64) in
    rest_left c.requires.left c.requires.some (bit_and w out)
    (omega (arith, and_le_l w out, c.requires.left.fits)) refl
