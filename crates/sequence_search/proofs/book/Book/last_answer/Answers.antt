use Rattle.std.proofs.Common.{◌∙◌, ℕ, Option, sym, subst}
use Rattle.std.proofs.lemmas.Bool.{false≢true}
use Rattle.sequence_search.specs.Index.{IsLooking}
use Rattle.sequence_search.proofs.IndexFacts.{found_last, turns_on, turns_down, none_answers}
use Rattle.sequence_search.proofs.book.Book.last_answer.Goals as goal

pub returns-then-answers_plainly-clause-some : goal.returns-then-answers_plainly-clause-some
returns-then-answers_plainly-clause-some c = found_last c.self.view_is c.loop-next.invariant c.in-Some.is c.index.ensures
    (c.answers_plainly.ensures.0 c.if-answers_plainly.true)

pub loop-next-smaller : goal.loop-next-smaller
loop-next-smaller c = turns_down c.self.view_is c.loop-next.invariant c.in-Some.is c.index.ensures c.self.invariant
    c.index-next.ensures

pub loop-next-preserved : goal.loop-next-preserved
loop-next-preserved c = turns_on c.self.view_is c.loop-next.invariant c.in-Some.is c.index.ensures c.self.invariant
    c.index-next.ensures (λ h. false≢true (sym c.if-answers_plainly.false ∙ c.answers_plainly.ensures.1 h))

pub returns-clause-none : goal.returns-clause-none
returns-clause-none c = λ _ h.
    let L : Option ℕ → Type 0 = IsLooking c.args.self.now c.args.rem.now c.args.starts.now c.args.need in
    none_answers c.args.self.now c.args.rem.now c.args.starts.now c.args.need
    (subst L c.in_default.is c.loop-next.invariant) h
