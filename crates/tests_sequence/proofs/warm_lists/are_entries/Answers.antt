use Rattle.std.proofs.Common.{ℕ, Some, arith}
use Rattle.std.proofs.lemmas.Option.{slice_get_within}
use Rattle.sequence_values.specs.declared.types.SeqEntry.{SeqEntry}
use Rattle.sequence_rules.specs.Ranges.{IsEntry}
use Rattle.sequence_check.proofs.EntryFacts.{below_next}
use Rattle.tests_sequence.proofs.warm_lists.are_entries.Goals as goal

pub loop-k-init : goal.loop-k-init
loop-k-init c = λ j e l g. absurd (omega (arith, l))

pub loop-k-preserved : goal.loop-k-preserved
loop-k-preserved c =
    below_next (λ (j : ℕ) (e : SeqEntry). IsEntry c.args.models c.args.stations
    (Some c.args.charges.now) e) c.args.entries.now
    c.loop-k.k c.at.result.now c.at.ensures c.loop-k.invariant (c.is_entry.ensures c.if-not-is_entry.false)

pub returns : goal.returns
returns c = λ t k e g. c.loop-k.invariant k e
    (omega (arith, slice_get_within c.args.entries.now k e g, c.loop-k-test.false, c.len-k-end.ensures)) g
