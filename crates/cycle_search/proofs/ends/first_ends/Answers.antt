use Rattle.std.proofs.Common.{◌≡◌, ℕ, max, Bool, List, ap, ◌∙◌}
use Rattle.std.specs.Int.{div_ceil}
use Rattle.line_instance.specs.Line.{has}
use Rattle.line_instance.specs.Sums.{sum_where}
use Rattle.line_rules.specs.Balance.{all_tasks}
use Rattle.line_rules.specs.Bounds.{total_time, up}
use Rattle.line_rules.specs.Times.{longest_of}
use Rattle.line_rules.proofs.HeadTail.{up_ceil}
use Rattle.cycle_search.proofs.ends.first_ends.Goals as goal

pub returns-clause-lower : goal.returns-clause-lower
returns-clause-lower c =
    let line = c.args.inst.now in
    let total : c.times_in-times.result.total ≡ total_time line =
    c.times_in-times.ensures.times.total ∙ ap (λ (s : List Bool). sum_where (has s) line.times) c.all.ensures.value in
    let long : c.times_in-times.result.longest ≡ longest_of line (all_tasks line) =
    c.times_in-times.ensures.longest ∙ ap (λ (s : List Bool). longest_of line s) c.all.ensures.value in
    let share : c.div_ceil.result ≡ up (total_time line) c.args.stations =
    c.div_ceil.ensures
    ∙ ((λ i. div_ceil (total i) (c.from.ensures i)) ∙ up_ceil (total_time line) c.args.stations c.requires.some) in
    c.max-2.ensures ∙ ap (λ (x : ℕ). max x 1) (c.max.ensures ∙ (λ i. max (share i) (long i)))
