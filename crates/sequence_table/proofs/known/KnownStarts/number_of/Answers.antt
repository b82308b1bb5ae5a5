use Rattle.std.proofs.Common.{◌∙◌, ℕ, Option, sym, subst}
use Rattle.std.proofs.lemmas.Bool.{false≢true}
use Rattle.sequence_table.specs.Index.{IsLooking}
use Rattle.sequence_table.proofs.IndexFacts.{found_last, turns_on, turns_down, is_missing}
use Rattle.sequence_table.proofs.known.KnownStarts.number_of.Goals as goal

pub returns-then-is_same-clause-some : goal.returns-then-is_same-clause-some
returns-then-is_same-clause-some c = found_last c.self.view_is c.loop-next.invariant c.in-Some.is c.index.ensures
    (sym c.as_slice.ensures ∙ c.is_same.ensures.0 c.if-is_same.true)

pub loop-next-smaller : goal.loop-next-smaller
loop-next-smaller c = turns_down c.self.view_is c.loop-next.invariant c.in-Some.is c.index.ensures c.self.invariant
    c.index-next.ensures

pub loop-next-preserved : goal.loop-next-preserved
loop-next-preserved c = turns_on c.self.view_is c.loop-next.invariant c.in-Some.is c.index.ensures c.self.invariant
    c.index-next.ensures (λ h. false≢true (sym c.if-is_same.false ∙ c.is_same.ensures.1 (c.as_slice.ensures ∙ h)))

pub returns-clause-none : goal.returns-clause-none
returns-clause-none c = λ _.
    let L : Option ℕ → Type 0 = IsLooking c.args.self.now c.args.starts.now in
    is_missing c.args.self.now c.args.starts.now (subst L c.in_default.is c.loop-next.invariant)
