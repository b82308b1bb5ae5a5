use Rattle.std.proofs.Common.{◌≡◌, ◌+◌, ◌%◌, ◌^◌, [], ◌∷◌, Some, sym, ap, ◌∙◌, subst, arith, rules}
use mathlib.Core.Option.{none}
use Rattle.atomic_table.specs.Table.{Allows, step}
use Rattle.lemma_core.specs.Books.{BookView}
use Rattle.book_share.specs.Rule.{Kept}
use Rattle.book_share.specs.Steps.{Mine, Gives, Records, recorded, given, log_in}
use Rattle.book_share.proofs.TurnSteps.{gives_turn, records_item}
use Rattle.book_share.proofs.LoadSteps.{same_quiet}
use Rattle.book_share.proofs.Hands.{exact_for}
use Rattle.book_share.proofs.turns.give_published.Goals as goal

pub fetch_add-requires : goal.fetch_add-requires
fetch_add-requires c =
    let n = c.args.room.now.shared.table_id.slots in
    let h = c.requires.new.2 in (
      search rules,
      search rules,
      subst (λ (m : Mine). Allows Kept n c.put.new.seat.id m 1 (λ k. (k + 1) % 2 ^ 64) (Records (step n 1 1 0 none) m))
          (sym c.put.ensures.me)
          (records_item n c.put.new.seat.id c.args.seat.now.me.0 c.args.book c.requires.new.0 h.phase h.events
          (exact_for c.args.seat.now.me.0 c.args.book h.book c.log_len-count.ensures.exact)
          (omega (arith, c.log_len-count.ensures.len, c.log_len-count.type_inv))),
    )

pub store-requires : goal.store-requires
store-requires c =
    let n = c.args.room.now.shared.table_id.slots in
    let v = c.args.seat.now.me.0 in
    let b : BookView = c.args.book in
    let h = c.requires.new.2 in
    let me : c.fetch_add.new.seat.me ≡ (recorded v b.events, (0, Some b) ∷ []) =
    c.fetch_add.ensures.2.0 ∙ ap (λ (m : Mine). (recorded m.0 (log_in m.1), m.1)) c.put.ensures.me in (
      search rules,
      search rules,
      subst (λ (m : Mine). Allows Kept n c.fetch_add.new.seat.id m 0 (λ _. 0) (λ _. Gives (step n 0 0 0 none) m 0))
          (sym me)
          (gives_turn n c.fetch_add.new.seat.id (recorded v b.events) b (λ e. absurd (cc)) (λ e. absurd (cc)) h.book
          (same_quiet v.base v.seen b.events c.requires.new.0 c.requires.new.1 h.events)),
    )

pub returns-clause-me : goal.returns-clause-me
returns-clause-me c =
    let v = c.args.seat.now.me.0 in
    let b : BookView = c.args.book in
    let me : c.fetch_add.new.seat.me ≡ (recorded v b.events, (0, Some b) ∷ []) =
    c.fetch_add.ensures.2.0 ∙ ap (λ (m : Mine). (recorded m.0 (log_in m.1), m.1)) c.put.ensures.me in
    c.store.ensures.2 ∙ ap (λ (m : Mine). (given m.0, [])) me
