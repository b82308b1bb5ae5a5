use Rattle.std.proofs.Common.{ap, rules}
use Rattle.book_share.specs.Steps.{Mine}
use Rattle.book_share.proofs.SplitFacts.{splits}
use Rattle.book_share.proofs.CallFacts.{sound_of, cut_off}
use Rattle.book_share.proofs.pass.Share.split.Goals as goal

pub split_seat-seat-requires : goal.split_seat-seat-requires
split_seat-seat-requires c =
    let seat = c.pass.inside.seat in
    (search rules, search rules, splits seat.id seat.me.0 (ap (λ (m : Mine). m.0.phase) c.pass.invariant.0.me))

pub invariant_of-result : goal.invariant_of-result
invariant_of-result c = (
  cut_off c.pass.inside.seat.me c.split_seat-seat.result.me c.pass.invariant.0
      c.split_seat-seat.ensures.4,
  tt,
)

pub returns-clause-sound : goal.returns-clause-sound
returns-clause-sound c = (
  sound_of c.split_seat-seat.new.seat.me (search rules),
  sound_of c.split_seat-seat.result.me (cut_off c.pass.inside.seat.me c.split_seat-seat.result.me c.pass.invariant.0
      c.split_seat-seat.ensures.4),
)
