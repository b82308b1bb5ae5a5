use Rattle.std.proofs.Common.{◌≡◌, ap, ℕ, ◌≤◌, List, length, sum, sym, subst, arith}
use Rattle.sequence_values.specs.declared.types.Times.{Times}
use Rattle.sequence_walk.proofs.StateFacts.{few_left}
use Rattle.sequence_walk.proofs.steps.led_by.Goals as goal

pub state_bound-bound-requires-clause-few : goal.state_bound-bound-requires-clause-few
state_bound-bound-requires-clause-few c =
    let same : length c.times-times.result.now.demands ≡ length c.args.table.now.times.demands =
    ap (λ (t : Times). length t.demands) c.times-times.ensures.times in
    let few : length c.args.table.now.times.demands ≤ 16 = omega (arith, same, c.times-times.ensures.range.models) in
    let P : List ℕ → Type 0 = λ xs. sum xs ≤ 16000 in
    subst P (sym c.launch.ensures) (few_left (length c.args.table.now.times.demands) c.args.table.now.times.stations c.args.model
    c.args.rem.now c.args.starts.now few c.requires.state)
