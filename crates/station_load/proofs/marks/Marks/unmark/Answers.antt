use Rattle.line_instance.specs.inner.Words.{length-truths}
use Rattle.std.proofs.Common.{◌∙◌, ap, ◌<◌, ◌*◌, ◌^◌, ◌/◌, ◌%◌, get_or, set, false, eqb, bit_and, w64, arith}
use Rattle.line_instance.proofs.Bits.{truths-set}
use Rattle.std.specs.Int.{bit_not}
use Rattle.std.proofs.lemmas.Nat.Bits.{bit_at_clear_same, bit_at_clear_other}
use Rattle.station_load.proofs.marks.Marks.unmark.Goals as goal

pub returns-clause-value : goal.returns-clause-value
returns-clause-value c =
    let ws = c.self.inside.words in
    let r : c.args.place % 64 < 64 = omega arith in
    truths-set ws c.self.invariant c.args.place c.requires (bit_and (get_or ws (c.args.place / 64) 0)
    (bit_not w64 (1 * 2 ^ (c.args.place % 64) % 2 ^ 64))) false
    (ap (λ b. eqb b 1) (bit_at_clear_same w64 (get_or ws (c.args.place / 64) 0) (c.args.place % 64) r))
    (λ j l n. bit_at_clear_other w64 (get_or ws (c.args.place / 64) 0) (c.args.place % 64) r j l n)
    ∙ ap (λ t. set t c.args.place false) c.self.view_is

pub returns-clause-truths : goal.returns-clause-truths
returns-clause-truths c = length-truths _
