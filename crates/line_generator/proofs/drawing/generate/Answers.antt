use Rattle.std.proofs.Common.{◌≡◌, ℕ, List, length, sym, ap, ◌∙◌, subst}
use Rattle.line_instance.specs.declared.arcs.Prec.{Prec}
use Rattle.line_instance.specs.Made.{AreTimes}
use Rattle.line_instance.specs.Walks.{AreArcs, IsRing}
use Rattle.line_generator.proofs.Drawings.{are_times, are_arcs, no_ring, many_times}
use Rattle.line_generator.proofs.drawing.generate.Goals as goal

pub line_of-requires-clause-times : goal.line_of-requires-clause-times
line_of-requires-clause-times c = subst AreTimes (sym c.in-Ok.ensures.times)
    (are_times c.args.seed c.args.tasks c.requires.some c.requires.few)

pub line_of-requires-clause-arcs : goal.line_of-requires-clause-arcs
line_of-requires-clause-arcs c =
    let many : c.args.tasks ≡ length c.in-Ok.draft.times.items =
    sym (ap length c.in-Ok.ensures.times ∙ many_times c.args.seed c.args.tasks) in
    let P : List Prec → Type 0 = AreArcs c.args.tasks in
    let Q : ℕ → Type 0 = λ n. AreArcs n c.in-Ok.draft.arcs.items in
    subst Q many (subst P (sym c.in-Ok.ensures.arcs) (are_arcs c.args.seed c.args.tasks))

pub line_of-requires-clause-ringless : goal.line_of-requires-clause-ringless
line_of-requires-clause-ringless c = λ ring r.
    let P : List Prec → Type 0 = λ arcs. IsRing arcs ring in
    no_ring c.args.seed c.args.tasks ring (subst P c.in-Ok.ensures.arcs r)
