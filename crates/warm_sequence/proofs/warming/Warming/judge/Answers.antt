use Rattle.std.proofs.Common.{◌≡◌, ◌∙◌, sym, ap, arith, Some}
use Rattle.warm_sequence.specs.Warm.{renumbered}
use Rattle.warm_sequence.proofs.RangeFacts.{renumbered_of_mix}
use Rattle.warm_sequence.proofs.warming.Warming.judge.Goals as goal

pub verify_seq_entry-requires-clause-entry : goal.verify_seq_entry-requires-clause-entry
verify_seq_entry-requires-clause-entry c =
    renumbered_of_mix c.args.self.now.numbers.items
    (λ j n g. omega (arith, c.requires.sound.numbered j n g, c.requires.sound.few, c.requires.room))
    c.args.times.now c.args.charges.now c.args.old.now c.in-Some.entry c.requires.old
    (ap (λ z. renumbered z c.args.old.now) (sym c.deref.ensures.value)
    ∙ (sym c.in_ok-renumbered.ensures ∙ c.in-Some.is))

pub returns-in-Right : goal.returns-in-Right
returns-in-Right c =
    let is : renumbered c.args.self.now.numbers.items c.args.old.now ≡ Some c.in-Some.entry =
    ap (λ z. renumbered z c.args.old.now) (sym c.deref.ensures.value)
    ∙ (sym c.in_ok-renumbered.ensures ∙ c.in-Some.is) in (
      record {
        cites = is;
        follows = c.in-Right.ensures.checked.0;
        count = omega (arith, c.if-len-room.false, c.len.ensures);
        sum = omega (
          arith,
          c.in-Right.ensures.checked.1,
          c.in-Right.ensures.checked.2,
          c.requires.sound.total,
          c.requires.sound.paid,
        );
      },
      renumbered_of_mix c.args.self.now.numbers.items
          (λ j n g. omega (arith, c.requires.sound.numbered j n g, c.requires.sound.few, c.requires.room))
          c.args.times.now c.args.charges.now c.args.old.now c.in-Some.entry c.requires.old is,
      c.in-Right.ensures.checked.1,
    )
