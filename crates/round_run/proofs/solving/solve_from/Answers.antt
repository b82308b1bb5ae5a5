use Rattle.std.proofs.Common.{◌≡◌, ℕ, sym, ◌∙◌, subst}
use Rattle.line_rules.specs.Balance.{all_tasks}
use Rattle.line_rules.specs.Bounds.{bound}
use Rattle.line_rules.specs.declared.types.Balance.{Balance as Assignment}
use Rattle.lemma_core.specs.Machine.{About}
use Rattle.lemma_core.specs.Books.{MayBeBest}
use Rattle.round_run.specs.Plans.{all_left}
use Rattle.round_run.specs.inner.Questions.{HasAsked}
use Rattle.round_run.specs.Solving.{SolvesFrom}
use Rattle.round_run.proofs.Endings.{begins}
use Rattle.round_run.proofs.solving.solve_from.Goals as goal

pub ask_all-asked-requires-clause-begun : goal.ask_all-asked-requires-clause-begun
ask_all-asked-requires-clause-begun g c κs within =
    let P : Assignment → Type 0 = λ z. MayBeBest c.args.book.about z in
    let first : c.bound-first.result ≡ bound c.args.book.about.kind c.args.inst.now c.args.book.about.cycle
    (all_tasks c.args.inst.now) =
    c.bound-first.ensures.value
    ∙ (λ i. bound (c.kind.ensures i) c.args.inst.now (c.cycle.ensures i) (c.all.ensures.value i)) in
    begins c.args.inst.now c.bound-first.result c.args.book c.tasks-tasks.ensures.line c.requires.same
    c.requires.cycle.some
    (subst P c.best-right.ensures.best c.best-right.ensures.right) c.requires.reserved first

pub ask_all-asked-requires-clause-fresh : goal.ask_all-asked-requires-clause-fresh
ask_all-asked-requires-clause-fresh g c κs within = (c.in-Ok.ensures.used, c.in-Ok.ensures.none_used)

pub concluded-requires-clause-run : goal.concluded-requires-clause-run
concluded-requires-clause-run g c =
    let P : About → Type 0 =
    λ z. HasAsked z.kind c.args.inst.now z.cycle c.args.book.state.entries c.args.book.state.best.stations
    c.in-Ok.purse.closing.left (all_left c.in-Ok.purse.helper.items) c.bound-first.result c.ask_all-asked.result in
    let h = subst P (sym c.ask_all-asked.ensures.run.about) c.ask_all-asked.ensures in
    (c.args.book.state.entries, h.added, c.args.book.state.best.stations, h.run)

pub returns : goal.returns
returns g c =
    let P : About → Type 0 =
    λ z. HasAsked z.kind c.args.inst.now z.cycle c.args.book.state.entries c.args.book.state.best.stations
    c.in-Ok.purse.closing.left (all_left c.in-Ok.purse.helper.items) c.bound-first.result c.ask_all-asked.result in
    let N : ℕ → Type 0 =
    λ z. HasAsked c.ask_all-asked.result.book.about.kind c.args.inst.now c.ask_all-asked.result.book.about.cycle
    c.args.book.state.entries c.args.book.state.best.stations z (all_left c.in-Ok.purse.helper.items)
    c.bound-first.result c.ask_all-asked.result in
    let Q : About → Type 0 =
    λ z. SolvesFrom z.kind c.args.inst.now z.cycle c.args.plan.now c.args.book.state.entries
    c.args.book.state.best.stations c.concluded.result in
    subst Q c.ask_all-asked.ensures.run.about (c.concluded.ensures c.args.book.state.entries
    c.args.book.state.best.stations c.args.plan.now
    (all_left c.in-Ok.purse.helper.items) c.in-Ok.ensures.few c.in-Ok.ensures.alone
    (subst N c.in-Ok.ensures.left (subst P (sym c.ask_all-asked.ensures.run.about) c.ask_all-asked.ensures)))
