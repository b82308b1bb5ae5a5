use Rattle.std.proofs.Common.{ℕ, List, ◌∷◌, Option, Some, None, sym, ap, ◌∙◌, rules}
use Rattle.atomic_table.specs.Table.{rest}
use Rattle.lemma_core.specs.Books.{BookView}
use Rattle.book_share.proofs.turns.put.Goals as goal

pub exchange-requires : goal.exchange-requires
exchange-requires c = let e = c.requires.seat.1 in (
  search rules,
  (None, e ∙ ap (λ (l : List (ℕ × Option BookView)). (0, None) ∷ rest l) (sym e)),
)

pub returns-clause-me : goal.returns-clause-me
returns-clause-me c = c.exchange.ensures.3 ∙ ap (λ (l : List (ℕ × Option BookView)).
    (c.args.seat.now.me.0, (0, Some c.args.book) ∷ rest l)) c.requires.seat.1
