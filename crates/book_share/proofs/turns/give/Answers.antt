use Rattle.std.proofs.Common.{◌≡◌, sym, ap, ◌∙◌, subst, rules}
use mathlib.Core.Option.{none}
use Rattle.atomic_table.specs.Table.{Allows, step}
use Rattle.book_share.specs.Passes.{Phase, Idle, Holding, Spent}
use Rattle.book_share.specs.Rule.{Kept, counted, fewest}
use Rattle.book_share.specs.Steps.{Mine, Gives}
use Rattle.book_share.proofs.TurnSteps.{gives_turn}
use Rattle.book_share.proofs.turns.give.Goals as goal

pub store-requires : goal.store-requires
store-requires c =
    let n = c.args.room.now.shared.table_id.slots in
    let id = c.put.new.seat.id in
    let v = c.args.seat.now.me.0 in
    let h = c.requires.seat.1 in (
      search rules,
      search rules,
      subst (λ (m : Mine). Allows Kept n id m 0 (λ _. 0) (λ _. Gives (step n 0 0 0 none) m 0)) (sym c.put.ensures.me)
          (gives_turn n id v c.args.book (λ e. (let f : Holding ≡ Idle = sym h.phase ∙ e in absurd (cc)))
          (λ e. (let f : Holding ≡ Spent = sym h.phase ∙ e in absurd (cc))) h.book
          (ap (λ (p : Phase). fewest v.base (counted p v.seen)) h.phase)),
    )
