use Rattle.std.proofs.Common.{◌≡◌, ◌∙◌, ◌++◌, ◌∷◌, [], ◌+◌, ◌/◌, ◌%◌, ℕ, List, length, sym, ap, subst}
use Rattle.sequence_rules.specs.Charges.{unit_cost}
use Rattle.sequence_table.specs.Nodes.{starts_of}
use Rattle.sequence_table.specs.inner.Levels.{AreCostsTo}
use Rattle.sequence_table.proofs.PassFacts.{costs_more}
use Rattle.sequence_table.proofs.pass.costs.Goals as goal

pub loop-i-preserved : goal.loop-i-preserved
loop-i-preserved c =
    let t = c.args.table.now in
    let models : c.models-models.result ≡ length c.args.table.now.times.demands = c.models-models.ensures.models in
    let cost : c.unit_cost.result ≡ unit_cost c.args.table.now.times c.args.table.now.reach c.args.charges.now
    (starts_of c.args.table.now (c.loop-i.i / length c.args.table.now.times.demands))
    (c.loop-i.i % length c.args.table.now.times.demands) =
    c.unit_cost.ensures.cost
    ∙ ap (λ k. unit_cost c.args.table.now.times c.args.table.now.reach c.args.charges.now
    (starts_of c.args.table.now (c.loop-i.i / k)) (c.loop-i.i % k)) models in
    let P : List ℕ → Type 0 = λ xs. AreCostsTo c.args.table.now c.args.charges.now xs (c.loop-i.i + 1) in
    let pushed : c.push.new.self.items ≡ c.loop-i.costs.items ++ c.unit_cost.result ∷ [] =
    c.in_ok-push.ensures.items in
    subst P (sym pushed) (costs_more c.args.table.now c.args.charges.now c.loop-i.costs.items c.loop-i.i
    c.unit_cost.result c.loop-i.invariant cost c.unit_cost.ensures.limit)
