use Rattle.std.proofs.Common.{ℕ, eqb, List, ◌∷◌, Option, Some, refl, sym, ap, ◌∙◌, subst, rules}
use mathlib.Core.Option.{none}
use prog.Atomic.{either}
use Rattle.atomic_table.specs.Table.{Allows, step, rest}
use Rattle.lemma_core.specs.Books.{BookView}
use Rattle.book_share.specs.Rule.{Kept}
use Rattle.book_share.specs.Steps.{Mine, given, Takes}
use Rattle.book_share.proofs.TurnSteps.{takes_turn}
use Rattle.book_share.proofs.turns.take.Goals as goal

pub compare_exchange-found-requires : goal.compare_exchange-found-requires
compare_exchange-found-requires c =
    let seat = c.args.seat.now in
    let n = c.args.room.now.shared.table_id.slots in (
      search rules,
      search rules,
      subst (λ (m : Mine). Allows Kept n seat.id m 0 (λ k. either (eqb k 0) 1 k)
          (Takes (step n 0 0 1 none) m)) (sym c.requires.seat.1) (takes_turn n seat.id (given seat.me.0) refl),
    )

pub exchange-requires : goal.exchange-requires
exchange-requires c =
    let t = c.compare_exchange-found.ensures.2.0 c.if-found-ne0.false in (
      search rules,
      (
        Some t.0,
        ap (λ (m : Mine). m.1) t.1 ∙ ap
            (λ (l : List (ℕ × Option BookView)). (0, Some t.0) ∷ rest l) (sym (ap (λ (m : Mine). m.1) t.1)),
      ),
    )
