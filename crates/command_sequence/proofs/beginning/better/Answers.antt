use Rattle.std.proofs.Common.{ℕ, ◌<◌, List, length, ap, sym, subst, arith}
use Rattle.std.specs.Prelude.{All}
use Rattle.sequence_search.proofs.OrderFacts.{sequence_short, sequence_within}
use Rattle.command_sequence.proofs.beginning.better.Goals as goal

pub sequence_cost-total-requires-clause-few : goal.sequence_cost-total-requires-clause-few
sequence_cost-total-requires-clause-few c = omega (
  arith,
  ap (λ (xs : List ℕ). length xs) c.as_slice.ensures,
  sequence_short c.args.times.now c.args.found c.requires.times c.requires.found,
)

pub sequence_cost-total-requires-clause-models : goal.sequence_cost-total-requires-clause-models
sequence_cost-total-requires-clause-models c =
    let P : List ℕ → Type 0 = λ xs. All (λ m. m < length c.args.times.now.demands) xs in
    subst P (sym c.as_slice.ensures) (sequence_within c.args.times.now.demands c.args.found c.requires.found)

pub sequence_cost-requires-clause-few : goal.sequence_cost-requires-clause-few
sequence_cost-requires-clause-few c = omega (
  arith,
  ap (λ (xs : List ℕ). length xs) c.as_slice-2.ensures,
  sequence_short c.args.times.now c.args.order c.requires.times c.requires.order,
)

pub sequence_cost-requires-clause-models : goal.sequence_cost-requires-clause-models
sequence_cost-requires-clause-models c =
    let P : List ℕ → Type 0 = λ xs. All (λ m. m < length c.args.times.now.demands) xs in
    subst P (sym c.as_slice-2.ensures) (sequence_within c.args.times.now.demands c.args.order c.requires.order)
