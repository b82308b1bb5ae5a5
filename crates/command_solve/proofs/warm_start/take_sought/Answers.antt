use Rattle.std.proofs.Common.{◌≡◌, ◌∙◌, ◌++◌, ◌-◌, ◌*◌, ℕ, max, ap, string_bytes, subst, arith}
use Rattle.warm_book.specs.Warm.{Taking, TakesAll, untaken}
use Rattle.command_outcome.specs.Bounds.{seek_line}
use Rattle.command_solve.proofs.BegunFacts.{has_sought, sought_behind}
use Rattle.command_solve.proofs.warm_start.take_sought.Goals as goal

pub returns-in_ok-first-in-Done-warm_wide-clause-sought : goal.returns-in_ok-first-in-Done-warm_wide-clause-sought
returns-in_ok-first-in-Done-warm_wide-clause-sought g c = λ at same_kept same_units.
    let taken = c.args.taken in
    let effort = c.args.effort in
    let N : ℕ = c.args.plan.now.units in
    let done = c.in-Done.ensures in
    let warm = c.in-Done-warm_wide in
    let sought = has_sought taken.book c.args.inst.now effort.seek c.in-Done.used c.in-Done.best c.in-Done.lemmas
    c.requires.same done.used done.right done.few (done.ranges (omega (arith, c.requires.effort.seek))) done.cycles
    done.units done.members done.derived done.shown done.over in
    let left : 6000000 - 2 * N - c.max.result ≡ 6000000 - 2 * N - max taken.kept taken.units =
    ap (λ z. 6000000 - 2 * N - z) (c.max.ensures ∙ ap (λ z. max z taken.units) c.from.ensures) in
    let T : ℕ → Type 0 = λ r. (t : Taking)
    × (TakesAll r (untaken taken.book) c.in-Done.lemmas t × (t.book ≡ warm.book) × (t.kept ≡ warm.kept)) in
    let room = c.saturating_sub-room.ensures ∙ ap (λ r. 6000000 - 2 * N - c.max.result - r) c.first_room.ensures in
    let warmed = subst T room warm.ensures.warmed in
    sought_behind N effort.first effort.seek (6000000 - 2 * N - c.max.result) at taken.book taken.kept taken.units
    c.in-Done.used warm.kept c.in-Done.best c.in-Done.lemmas warm.book c.offer.new.self (string_bytes taken.first)
    (string_bytes c.in_ok-first-in-Done-warm_wide.first) same_kept same_units left sought warmed
    c.offer.ensures.ran (c.in_ok-first-in-Done-warm_wide.ensures
    ∙ ap (λ k. string_bytes taken.first ++ seek_line c.in-Done.used effort.seek k) c.from-in-Done-warm_wide.ensures)
