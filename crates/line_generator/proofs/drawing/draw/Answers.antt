use Rattle.std.proofs.Common.{◌≡◌, ℕ, ◌<◌, List, [], ◌∷◌, ◌++◌, sym, ap, ◌∙◌, arith}
use Rattle.rand_pcg.specs.Lcg.{Lcg}
use Rattle.line_instance.specs.declared.arcs.Prec.{Prec}
use Rattle.line_generator.specs.Drawn.{word, next, in_front, time_from, arc_from, times_of, arcs_of}
use Rattle.line_generator.proofs.Drawings.{front_none, front_first, front_more, times_first, times_more, arcs_first}
use Rattle.line_generator.proofs.Drawings.{arcs_more}
use Rattle.line_generator.proofs.drawing.draw.Goals as goal

pub loop-task-init : goal.loop-task-init
loop-task-init c =
    let seed = c.args.seed in
    let g : Lcg = c.seed_from_u64-rng.result in
    let begins : g ≡ in_front seed 0 = c.seed_from_u64-rng.ensures ∙ sym (front_none seed) in
    record {
      times = c.in_ok-draw_time.ensures.times ∙ ap (λ (xs : List ℕ). xs ++ time_from (word g) ∷ [])
          c.new-times.ensures.items ∙ ap (λ (h : Lcg). time_from (word h) ∷ []) begins ∙ sym (times_first seed);
      arcs = c.new-arcs.ensures.items ∙ sym (arcs_first seed);
      rng = c.in_ok-draw_time.ensures.rng ∙ ap next begins ∙ sym (front_first seed);
    }

pub loop-task-preserved : goal.loop-task-preserved
loop-task-preserved c =
    let seed = c.args.seed in
    let t = c.loop-task.task in
    let inv = c.loop-task.invariant in
    let some : 0 < t = omega (arith, c.loop-task.auto.task) in
    let behind : c.draw_time-in-loop-task.new.rng ≡ next (in_front seed t) =
    c.in_ok-draw_time-2.ensures.rng ∙ ap next inv.rng in
    record {
      times = c.in_ok-draw_time-2.ensures.times ∙ ap (λ (xs : List ℕ). xs ++ time_from (word c.loop-task.rng) ∷ [])
          inv.times ∙ ap (λ (h : Lcg). times_of seed t ++ time_from (word h) ∷ []) inv.rng ∙ sym (times_more seed t);
      arcs = c.in_ok-draw_arc.ensures.arcs ∙ ap (λ (xs : List Prec). xs
          ++ arc_from (word c.draw_time-in-loop-task.new.rng) t) inv.arcs
          ∙ ap (λ (h : Lcg). arcs_of seed t ++ arc_from (word h) t) behind ∙ sym (arcs_more seed t some);
      rng = c.in_ok-draw_arc.ensures.rng ∙ ap next behind ∙ sym (front_more seed t some);
    }

pub returns-clause-times : goal.returns-clause-times
returns-clause-times c =
    let all : c.loop-task.task ≡ c.args.tasks = omega (
      arith,
      c.loop-task-test.false,
      c.loop-task.auto.task-end,
      c.loop-task.auto.task,
      c.requires,
    ) in
    c.loop-task.invariant.times ∙ ap (times_of c.args.seed) all

pub returns-clause-arcs : goal.returns-clause-arcs
returns-clause-arcs c =
    let all : c.loop-task.task ≡ c.args.tasks = omega (
      arith,
      c.loop-task-test.false,
      c.loop-task.auto.task-end,
      c.loop-task.auto.task,
      c.requires,
    ) in
    c.loop-task.invariant.arcs ∙ ap (arcs_of c.args.seed) all
