use Rattle.std.proofs.Common.{List, [], ◌∷◌, ◌++◌, rules, sym, ap, ◌∙◌, subst}
use Rattle.std.proofs.lemmas.List.{nil_from_length}
use Rattle.std.specs.Vec.Iter.{into_iter_items}
use Rattle.lemma_core.specs.declared.types.Event.{Event}
use Rattle.lemma_core.specs.declared.types.Reply.{Reply}
use Rattle.lemma_core.specs.Books.{BookView, IsReserved, DidSome}
use Rattle.lemma_core.proofs.MidRun.{IsMidRun, run_first, run_next, did_some, all_done}
use Rattle.lemma_core.proofs.event_run.run_events.Goals as goal

pub loop-event-init : goal.loop-event-init
loop-event-init c =
    let P : List Event → Type 0 = λ z. IsMidRun c.args.book.now c.args.events.items c.args.replies.now.items
    c.args.book.now c.args.replies.now.items z in
    subst P (sym c.into_iter-event-iterator.ensures.into_iter_gives.0)
    (run_first c.args.book.now c.args.events.items c.args.replies.now.items c.requires.reserved c.requires.may)

pub returns-in_err-reserve-clause-some : goal.returns-in_err-reserve-clause-some
returns-in_err-reserve-clause-some c =
    let P : List Reply → Type 0 = λ z. DidSome c.args.book.now c.args.events.items c.args.replies.now.items
    c.loop-event.book z in
    let d : DidSome c.args.book.now c.args.events.items c.args.replies.now.items c.loop-event.book
    c.reserve.new.self.items =
    subst P (sym c.reserve.ensures.items) (did_some c.args.book.now c.args.events.items c.args.replies.now.items
    c.loop-event.book c.loop-event.replies.items (into_iter_items c.loop-event.event-iterator)
    c.loop-event.invariant) in
    search rules

pub respond-requires-clause-reserved : goal.respond-requires-clause-reserved
respond-requires-clause-reserved c = c.loop-event.invariant.reserved

pub respond-requires-clause-may : goal.respond-requires-clause-may
respond-requires-clause-may c =
    let P : List Event → Type 0 = λ z. IsMidRun c.args.book.now c.args.events.items c.args.replies.now.items
    c.loop-event.book c.loop-event.replies.items z in
    (subst P c.in-Some.ensures.steps.0 c.loop-event.invariant).may.0

pub returns-in_err-reply-clause-some : goal.returns-in_err-reply-clause-some
returns-in_err-reply-clause-some c =
    let P : BookView → List Reply → Type 0 = λ b z. DidSome c.args.book.now c.args.events.items c.args.replies.now.items
    b z in
    let Q : List Reply → Type 0 = λ z. P c.loop-event.book z in
    let R : BookView → Type 0 = λ b. P b c.reserve.new.self.items in
    let d : P c.respond.new.book c.reserve.new.self.items =
    subst R (sym c.in_err-reply.ensures.same) (subst Q (sym c.reserve.ensures.items)
    (did_some c.args.book.now c.args.events.items c.args.replies.now.items c.loop-event.book
    c.loop-event.replies.items (into_iter_items c.loop-event.event-iterator) c.loop-event.invariant)) in
    search rules

pub loop-event-preserved : goal.loop-event-preserved
loop-event-preserved c =
    let P : List Event → Type 0 = λ z. IsMidRun c.args.book.now c.args.events.items c.args.replies.now.items
    c.loop-event.book c.loop-event.replies.items z in
    run_next c.args.book.now c.args.events.items c.args.replies.now.items c.loop-event.book c.loop-event.replies.items
    c.in-Some.event (into_iter_items c.next.new.self) c.respond.new.book c.push_reserved.new.self.items
    c.in_ok-reply.reply
    (subst P c.in-Some.ensures.steps.0 c.loop-event.invariant) c.in_ok-reply.ensures.ran c.in_ok-reply.ensures.reply
    (c.push_reserved.ensures.items ∙ ap (λ (z : List Reply). z ++ c.in_ok-reply.reply ∷ []) c.reserve.ensures.items)

pub returns-clause-replies : goal.returns-clause-replies
returns-clause-replies c =
    (all_done c.args.book.now c.args.events.items c.args.replies.now.items c.loop-event.book c.loop-event.replies.items
    (into_iter_items c.loop-event.event-iterator)
    (nil_from_length (into_iter_items c.loop-event.event-iterator)
    (sym c.loop-event.event-iterator.rest.ok.0 ∙ c.in-None.ensures.steps.0)) c.loop-event.invariant).0

pub returns-clause-ran : goal.returns-clause-ran
returns-clause-ran c =
    (all_done c.args.book.now c.args.events.items c.args.replies.now.items c.loop-event.book c.loop-event.replies.items
    (into_iter_items c.loop-event.event-iterator)
    (nil_from_length (into_iter_items c.loop-event.event-iterator)
    (sym c.loop-event.event-iterator.rest.ok.0 ∙ c.in-None.ensures.steps.0)) c.loop-event.invariant).1

pub returns-in_err-reserve-clause-reserved : goal.returns-in_err-reserve-clause-reserved
returns-in_err-reserve-clause-reserved c = c.loop-event.invariant.reserved

pub returns-in_err-reply-clause-reserved : goal.returns-in_err-reply-clause-reserved
returns-in_err-reply-clause-reserved c = let P : BookView → Type 0 = λ b. IsReserved b in
    subst P (sym c.in_err-reply.ensures.same) c.loop-event.invariant.reserved

pub returns-clause-reserved : goal.returns-clause-reserved
returns-clause-reserved c = c.loop-event.invariant.reserved
