use Rattle.line_instance.specs.inner.Words.{length-truths}
use Rattle.std.proofs.Common.{◌∙◌, ap, ◌<◌, ◌*◌, ◌^◌, ◌/◌, ◌%◌, get_or, set, true, eqb, bit_or, w64, arith}
use Rattle.line_instance.proofs.Bits.{truths-set, fits_set}
use Rattle.std.proofs.lemmas.Nat.{or_lt}
use Rattle.std.proofs.lemmas.Nat.Bits.{bit_at_set_same, bit_at_set_other}
use Rattle.station_load.proofs.marks.Marks.mark.Goals as goal

pub invariant_of-self : goal.invariant_of-self
invariant_of-self c =
    let ws = c.self.inside.words in
    fits_set ws c.self.invariant (c.args.place / 64) (bit_or (get_or ws (c.args.place / 64) 0)
    (1 * 2 ^ (c.args.place % 64) % 2 ^ 64))
    (or_lt 64 (get_or ws (c.args.place / 64) 0) (1 * 2 ^ (c.args.place % 64) % 2 ^ 64) (c.self.invariant.fit (c.args.place / 64))
    (omega arith))

pub returns-clause-value : goal.returns-clause-value
returns-clause-value c =
    let ws = c.self.inside.words in
    let r : c.args.place % 64 < 64 = omega arith in
    truths-set ws c.self.invariant c.args.place c.requires (bit_or (get_or ws (c.args.place / 64) 0)
    (1 * 2 ^ (c.args.place % 64) % 2 ^ 64)) true
    (ap (λ b. eqb b 1) (bit_at_set_same w64 (get_or ws (c.args.place / 64) 0) (c.args.place % 64) r))
    (λ j l n. bit_at_set_other w64 (get_or ws (c.args.place / 64) 0) (c.args.place % 64) r j n)
    ∙ ap (λ t. set t c.args.place true) c.self.view_is

pub returns-clause-truths : goal.returns-clause-truths
returns-clause-truths c = length-truths _
