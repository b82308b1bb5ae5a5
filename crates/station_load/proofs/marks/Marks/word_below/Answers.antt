use Rattle.std.proofs.Common.{◌≡◌, ◌-◌, ◌+◌, ◌*◌, ◌/◌, ◌%◌, ◌^◌, ◌<◌, ◌↔◌, Bool, List, get_or, subst, bit_and}
use Rattle.std.specs.Int.{bit_at}
use Rattle.line_instance.specs.Truths.{In}
use Rattle.station_load.proofs.LeftFacts.{part_left}
use Rattle.station_load.proofs.marks.Marks.word_below.Goals as goal

pub returns-then-at-lt16-clause-bits : goal.returns-then-at-lt16-clause-bits
returns-then-at-lt16-clause-bits c = λ i h.
    let P : List Bool → Type 0 = λ b. bit_at (bit_and (get_or c.self.inside.words (c.args.below / 64) 0)
    (1 * 2 ^ (c.args.below % 64) % 2 ^ 64 - 1)) i ≡ 1
    ↔ In b (64 * (c.args.below / 64) + i) × (64 * (c.args.below / 64) + i < c.args.below) in
    subst P c.self.view_is (part_left c.self.inside.words c.args.below i c.if-at-lt16.true h)
