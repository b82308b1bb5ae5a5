use Rattle.std.proofs.Common.{◌*◌, subst, sym, MatchResult}
use Rattle.std.proofs.lemmas.Result.{err_from_is_err_and}
use Rattle.line_rules.specs.declared.types.LineKind.TheVariants.{Straight}
use Rattle.command_outcome.specs.Outcome.{Files, Outcome, Stops, outside}
use Rattle.command_outcome.proofs.OutcomeFacts.{stops_as}
use Rattle.mix_files.specs.BalanceFile.{IsNoBalance}
use Rattle.mix_files.specs.Balanced.{IsBalanced, IsUnbalanced}
use Rattle.mix_files.proofs.BalancedFacts.{some_station, unbalanced}
use Rattle.mix_files.proofs.balanced.balanced_of.Goals as goal

pub returns-in_err-balance-clause-said : goal.returns-in_err-balance-clause-said
returns-in_err-balance-clause-said g c = λ t.
    let files : Files = g.S.Shelf.file c.args.shelf.now in
    let mid : Files = g.S.Shelf.file c.combined_of.new.shelf in
    let blames = g.S.Shelf.blames c.balance_of.new.shelf in
    let joined = c.in_ok-combined.combined in
    let mix_name = c.args.mix.now in
    let cert_name = c.args.cert.now in
    let Q : Outcome → Type 0 = IsUnbalanced (outside files blames) mix_name cert_name c.args.interval in
    let N : Outcome → Type 0 =
    IsNoBalance (outside mid blames) cert_name joined.line (c.args.interval * joined.demand) in
    let q = err_from_is_err_and c.from_residual-in_err-balance.result c.from_residual-in_err-balance.ensures.1 in
    subst (λ r. MatchResult r (λ p. IsBalanced files mix_name cert_name c.args.interval p.mix p.balance) (Stops Q))
    (sym q.1)
    (subst (λ s. Stops Q s) (sym q.2)
    (stops_as N Q c.in_err-balance.field-0.0
    (unbalanced files mid mix_name cert_name c.args.interval joined.demand joined.mix joined.line
    (c.in_ok-combined.ensures.files t) (c.in_ok-combined.ensures.said t) c.in_ok-combined.ensures.demand blames)
    (c.in_err-balance.ensures.said t)))

pub returns-clause-some : goal.returns-clause-some
returns-clause-some g c =
    let line = c.in_ok-combined.combined.line in
    some_station Straight line (c.args.interval * c.in_ok-combined.combined.demand) c.in_ok-balance.balance
    c.tasks-tasks.ensures.line c.in_ok-balance.ensures.right
