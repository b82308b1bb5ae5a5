use Rattle.std.proofs.Common.{◌∙◌, ℕ, sym, subst, inl, arith}
use Rattle.line_instance.specs.Truths.{In}
use Rattle.line_rules.specs.Bounds.{IsChained}
use Rattle.std.proofs.lemmas.Bool.{false≢true}
use Rattle.line_rules.proofs.BoundCases.{not_exceeded, none_is_exceeded}
use Rattle.lower_bounds.proofs.SizeFacts.{chains_tell}
use Rattle.lower_bounds.proofs.bounds.exceeds_by_chains_of.Goals as goal

pub returns-then-is_empty : goal.returns-then-is_empty
returns-then-is_empty c = not_exceeded c.args.kind c.args.cycle c.args.most c.tasks-tasks.ensures.line
    c.tasks-tasks.ensures.ranked c.requires.set c.requires.some (inl (c.is_empty.ensures.0 c.if-is_empty.true))

pub returns-then-most-eq0 : goal.returns-then-most-eq0
returns-then-most-eq0 c = none_is_exceeded c.args.kind c.args.inst.now c.args.cycle c.args.set.now c.is_empty.ensures
    c.if-is_empty.false c.args.most c.if-most-eq0.true

pub returns : goal.returns
returns c = chains_tell c.args.kind c.args.inst.now c.args.cycle c.args.set.now
    (λ h. false≢true (sym c.if-is_empty.false ∙ c.is_empty.ensures.1 h)) c.from.ensures c.requires.some
    c.requires.times.total c.requires.total c.requires.sizes c.has_longer_chain.ensures
    (omega (arith, c.if-most-eq0.false))

pub has_longer_chain-requires-clause-asked : goal.has_longer_chain-requires-clause-asked
has_longer_chain-requires-clause-asked c =
    let P : ℕ → Type 0 = λ n. (j : ℕ) → IsChained c.args.kind c.args.inst.now c.args.cycle c.args.set.now n j
    → In c.args.chained.now j in
    subst P (sym c.from.ensures) c.requires.chained
