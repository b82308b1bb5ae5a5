use Rattle.std.proofs.Common.{◌∙◌, refl, sym, ap}
use Rattle.warm_book.specs.Warm.{renumbered}
use Rattle.warm_book.specs.inner.Takings.{taking}
use Rattle.warm_book.proofs.TakingFacts.{fails_so, ends_so}
use Rattle.warm_book.proofs.WalkedFacts.{spared_walks}
use Rattle.warm_book.proofs.warming.Warming.judge.Goals as goal

pub check-requires-clause-walked : goal.check-requires-clause-walked
check-requires-clause-walked c =
    spared_walks (taking c.args.self.now) c.args.old.now c.in-Some.entry c.args.inst.now c.requires.same
    (ap (λ z. renumbered z c.args.old.now) (sym c.deref.ensures.value)
    ∙ (sym c.in_ok-renumbered.ensures ∙ c.in-Some.is))
    c.args.walked c.requires.walked

pub returns-in-Fails : goal.returns-in-Fails
returns-in-Fails c =
    let b = c.args.self.now.book in
    fails_so c.args.room (taking c.args.self.now) c.args.old.now c.in-Some.entry b.about.kind c.args.inst.now
    b.state.entries refl c.requires.same refl
    (ap (λ z. renumbered z c.args.old.now) (sym c.deref.ensures.value)
    ∙ (sym c.in_ok-renumbered.ensures ∙ c.in-Some.is))
    c.in-Fails.ensures.0

pub returns-in-StepsEnded : goal.returns-in-StepsEnded
returns-in-StepsEnded c =
    let b = c.args.self.now.book in
    ends_so c.args.room (taking c.args.self.now) c.args.old.now c.in-Some.entry b.about.kind c.args.inst.now
    b.state.entries refl c.requires.same refl
    (ap (λ z. renumbered z c.args.old.now) (sym c.deref.ensures.value)
    ∙ (sym c.in_ok-renumbered.ensures ∙ c.in-Some.is))
    _ refl c.in-StepsEnded.ensures
