use Rattle.std.proofs.Common.{◌≡◌, ℕ, ◌+◌, ◌%◌, ◌^◌, min, [], ◌∷◌, ◌++◌, Some, refl, sym, ap, ◌∙◌, subst, arith, rules}
use mathlib.Core.Option.{none}
use Rattle.atomic_table.specs.Table.{Allows, step}
use Rattle.lemma_core.specs.Books.{BookView}
use Rattle.lemma_core.specs.History.{better}
use Rattle.book_share.specs.Rule.{Kept}
use Rattle.book_share.specs.Steps.{Mine, Gives, Records, Lowers, recorded, lowered, given, log_in}
use Rattle.book_share.proofs.TurnSteps.{gives_turn, records_item}
use Rattle.book_share.proofs.LoadSteps.{lowers_best}
use Rattle.book_share.proofs.Hands.{exact_for, reached_for}
use Rattle.book_share.proofs.turns.give_offered.Goals as goal

pub fetch_add-requires : goal.fetch_add-requires
fetch_add-requires c =
    let n = c.args.room.now.shared.table_id.slots in
    let h = c.requires.new in (
      search rules,
      search rules,
      subst (λ (m : Mine). Allows Kept n c.put.new.seat.id m 1 (λ k. (k + 1) % 2 ^ 64) (Records (step n 1 1 0 none) m))
          (sym c.put.ensures.me)
          (records_item n c.put.new.seat.id c.args.seat.now.me.0 c.args.book (better c.args.stations) h.phase h.events
          (exact_for c.args.seat.now.me.0 c.args.book h.book c.log_len-count.ensures.exact)
          (omega (arith, c.log_len-count.ensures.len, c.log_len-count.type_inv))),
    )

pub fetch_min-requires : goal.fetch_min-requires
fetch_min-requires c =
    let n = c.args.room.now.shared.table_id.slots in
    let v = c.args.seat.now.me.0 in
    let b : BookView = c.args.book in
    let h = c.requires.new in
    let me : c.fetch_add.new.seat.me ≡ (recorded v b.events, (0, Some b) ∷ []) =
    c.fetch_add.ensures.2.0 ∙ ap (λ (m : Mine). (recorded m.0 (log_in m.1), m.1)) c.put.ensures.me in (
      search rules,
      search rules,
      subst (λ (m : Mine). Allows Kept n c.fetch_add.new.seat.id m 2 (λ k. min k c.from-least.result)
          (Lowers (step n 2 c.from-least.result 0 none) m)) (sym me)
          (lowers_best n c.fetch_add.new.seat.id (recorded v b.events) ((0, Some b) ∷ []) v.seen c.from-least.result
          refl (h.events ∙ ap (λ (k : ℕ). v.seen ++ better k ∷ []) (sym c.from-least.ensures))
          (reached_for v b h.book c.len-len.ensures.kept)),
    )

pub store-requires : goal.store-requires
store-requires c =
    let n = c.args.room.now.shared.table_id.slots in
    let v = c.args.seat.now.me.0 in
    let b : BookView = c.args.book in
    let h = c.requires.new in
    let me : c.fetch_add.new.seat.me ≡ (recorded v b.events, (0, Some b) ∷ []) =
    c.fetch_add.ensures.2.0 ∙ ap (λ (m : Mine). (recorded m.0 (log_in m.1), m.1)) c.put.ensures.me in
    let me' : c.fetch_min.new.seat.me ≡ (lowered (recorded v b.events), (0, Some b) ∷ []) =
    c.fetch_min.ensures.2 ∙ ap (λ (m : Mine). (lowered m.0, m.1)) me in (
      search rules,
      search rules,
      subst (λ (m : Mine). Allows Kept n c.fetch_min.new.seat.id m 0 (λ _. 0) (λ _. Gives (step n 0 0 0 none) m 0))
          (sym me')
          (gives_turn n c.fetch_min.new.seat.id (lowered (recorded v b.events)) b (λ e. absurd (cc)) (λ e. absurd (cc))
          h.book refl),
    )

pub returns-clause-me : goal.returns-clause-me
returns-clause-me c =
    let v = c.args.seat.now.me.0 in
    let b : BookView = c.args.book in
    let me : c.fetch_add.new.seat.me ≡ (recorded v b.events, (0, Some b) ∷ []) =
    c.fetch_add.ensures.2.0 ∙ ap (λ (m : Mine). (recorded m.0 (log_in m.1), m.1)) c.put.ensures.me in
    let me' : c.fetch_min.new.seat.me ≡ (lowered (recorded v b.events), (0, Some b) ∷ []) =
    c.fetch_min.ensures.2 ∙ ap (λ (m : Mine). (lowered m.0, m.1)) me in
    c.store.ensures.2 ∙ ap (λ (m : Mine). (given m.0, [])) me'
