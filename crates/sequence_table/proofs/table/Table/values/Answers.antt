use Rattle.std.proofs.Common.{◌≡◌, ◌∙◌, ◌++◌, ◌∷◌, [], ◌+◌, ◌-◌, ◌*◌, ◌<◌, ◌%◌, ℕ, List, length, get_or, replicate}
use Rattle.std.proofs.Common.{sym, ap, subst, arith, rules}
use Rattle.std.specs.Prelude.{All}
use Rattle.sequence_table.specs.Nodes.{next_of}
use Rattle.sequence_table.specs.Values.{least_to}
use Rattle.sequence_table.specs.inner.Levels.{AreValuesTo}
use Rattle.sequence_table.proofs.PassFacts.{values_none, limit_none, values_more, limit_more, pass_told}
use Rattle.sequence_table.proofs.table.Table.values.Goals as goal

pub loop-i-init : goal.loop-i-init
loop-i-init c =
    let items : c.in_ok-all.all.items ≡ replicate c.len-nodes.result 0 = search rules in
    let V : List ℕ → Type 0 = λ xs. AreValuesTo c.args.self.now c.args.charges.now xs c.len-nodes.result in
    let L : List ℕ → Type 0 = λ xs. All (λ v. v < 1000000000000000000) xs in
    record {
      values = subst V (sym items) (values_none c.args.self.now c.args.charges.now c.len-nodes.result
          c.len-nodes.ensures.nodes);
      limit = subst L (sym items) (limit_none c.len-nodes.result);
    }

pub loop-i-preserved : goal.loop-i-preserved
loop-i-preserved c =
    let i : ℕ = c.loop-i.i in
    let n : ℕ = c.len-nodes.result in
    let k : ℕ = length c.args.self.now.times.demands in
    let costs : List ℕ = c.in_ok-costs.costs.items in
    let all : List ℕ = c.loop-i.all.items in
    let is : c.least-value.result ≡ least_to (λ m. get_or costs (i % n * k + m) 0
    + get_or all (i - i % n - n + next_of c.args.self.now (i % n) m) 0) (k - 1) =
    c.least-value.ensures
    ∙ ap (λ (xs : List ℕ). least_to (λ m. get_or xs (i % n * k + m) 0
    + get_or c.as_slice-in-loop-i.result.now (i - i % n - n + next_of c.args.self.now (i % n) m) 0) (k - 1))
    c.as_slice.ensures.value
    ∙ ap (λ (xs : List ℕ). least_to (λ m. get_or costs (i % n * k + m) 0
    + get_or xs (i - i % n - n + next_of c.args.self.now (i % n) m) 0) (k - 1))
    c.as_slice-in-loop-i.ensures.value in
    let pushed : c.push.new.self.items ≡ all ++ c.least-value.result ∷ [] = c.in_ok-push.ensures.items in
    let V : List ℕ → Type 0 = λ xs. AreValuesTo c.args.self.now c.args.charges.now xs (i + 1) in
    let L : List ℕ → Type 0 = λ xs. All (λ v. v < 1000000000000000000) xs in
    record {
      values = subst V (sym pushed) (values_more c.args.self.now c.args.charges.now costs all n i c.least-value.result
          c.len-nodes.ensures.table c.in_ok-costs.ensures c.loop-i.invariant.values c.len-nodes.ensures.nodes
          c.loop-i.auto.i is);
      limit = subst L (sym pushed) (limit_more c.args.self.now c.args.charges.now costs all n c.units-left.result i
          c.least-value.result c.len-nodes.ensures.table c.requires c.in_ok-costs.ensures c.loop-i.invariant.values
          c.len-nodes.ensures.nodes c.loop-i.auto.i c.loop-i-test.true c.units-left.ensures.few is
          c.loop-i.invariant.limit);
    }

pub returns : goal.returns
returns c =
    let V : ℕ → Type 0 = λ p. AreValuesTo c.args.self.now c.args.charges.now c.loop-i.all.items p in
    let end : c.loop-i.i ≡ (c.units-left.result + 1) * c.len-nodes.result =
    omega (arith, c.loop-i-test.false, c.loop-i.auto.i-end) in
    pass_told c.args.self.now c.args.charges.now c.loop-i.all.items c.units-left.result c.len-nodes.result
    c.len-nodes.ensures.table c.requires (subst V end c.loop-i.invariant.values) c.units-left.ensures.units
    c.len-nodes.ensures.nodes
