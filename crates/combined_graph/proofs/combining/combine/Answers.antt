use Rattle.std.proofs.Common.{◌≡◌, ◌∙◌, ap, sym, subst, arith, rules, length, List, ℕ}
use Rattle.in2_reader.proofs.Acyclic.{no_ring}
use Rattle.line_instance.specs.Walks.{IsRing}
use Rattle.combined_graph.specs.Combined.{all_arcs}
use Rattle.line_instance.specs.Made.{AreTimes}
use Rattle.combined_graph.proofs.Arcs.{combined_arcs, nothing_else}
use Rattle.combined_graph.proofs.combining.combine.Goals as goal

pub unreachable-requires : goal.unreachable-requires
unreachable-requires c =
    let tasks : length c.in-Ok.times.items ≡ c.mix.inside.tasks =
    c.in-Ok.ensures.many ∙ c.tasks-tasks.ensures.tasks ∙ ap (λ m. m.tasks) (sym c.mix.view_is) in
    let some = c.mix.invariant.draft.some in
    let few = c.mix.invariant.draft.few in
    let right : AreTimes c.in-Ok.times.items = record {
      some = omega (arith, tasks, some);
      few = omega (arith, tasks, few);
      limit = c.in-Ok.ensures.limit;
    } in
    nothing_else c.in-Ok.times.items c.deref-3.result.now c.make.result right
    (combined_arcs (record { tasks = c.mix.inside.tasks; models = c.mix.inside.models.items }) c.deref-2.result.now
    c.in-Ok-arcs_of.arcs.items c.deref-3.result.now (length c.in-Ok.times.items) c.mix.invariant
    c.deref-2.ensures.value tasks c.in-Ok-arcs_of.ensures c.deref-3.ensures.value)
    c.make.ensures c.in_default-make.not-Good c.in_default-make.not-Cycle c.in_default-make.not-NoMemory

pub returns-in-Cycle-clause-cycle : goal.returns-in-Cycle-clause-cycle
returns-in-Cycle-clause-cycle c =
    let arcs = all_arcs c.args.mix.now.models in
    let P : List ℕ → Type 0 = IsRing arcs in
    let is : IsRing (all_arcs c.args.mix.now.models) c.in-Cycle.ring = search rules in
    λ ring e line i. no_ring line.times arcs line ring i.made (subst P (cc e) is)
