use Rattle.lemma_core.specs.Books.{BookView, desk_of}
use Rattle.book_share.proofs.Hands.{turn_offers, has_same}
use Rattle.book_share.proofs.MemoFacts.{behind, keeps_offer, memo_after, memo_still}
use Rattle.book_share.proofs.turns.offer.Goals as goal

pub returns-in-Better-clause-ends : goal.returns-in-Better-clause-ends
returns-in-Better-clause-ends c = turn_offers c.args.seat.now.me c.give_offered.new.seat.me c.args.book
    c.offer-offered.new.self c.args.balance.stations c.requires.seat.1 c.requires.seat.2 c.in-Better.ensures.offers
    c.log_len-exact.ensures.exact c.give_offered.ensures.me

pub catch_up-requires : goal.catch_up-requires
catch_up-requires c =
    let b : BookView = c.args.book in
    let b' : BookView = c.offer-offered.new.self in
    behind c.args.memo.now c.args.seat.now.me.0 b b' c.requires.seat.1.book
    (keeps_offer (desk_of b) (desk_of b') c.args.balance.stations c.offer-offered.result
    c.offer-offered.ensures.offers) c.log_len-exact.ensures.replays c.requires.memo

pub returns-in-Better-clause-memo : goal.returns-in-Better-clause-memo
returns-in-Better-clause-memo c =
    let b : BookView = c.args.book in
    let b' : BookView = c.offer-offered.new.self in
    memo_after c.catch_up.new.memo c.args.seat.now.me c.give_offered.new.seat.me b b' c.requires.seat.1
    (keeps_offer (desk_of b) (desk_of b') c.args.balance.stations c.offer-offered.result
    c.offer-offered.ensures.offers)
    c.log_len-exact.ensures.replays c.catch_up.ensures c.give_offered.ensures.me

pub returns-in-NotBetter-clause-memo : goal.returns-in-NotBetter-clause-memo
returns-in-NotBetter-clause-memo c =
    let m = c.args.seat.now.me in
    let b' : BookView = c.offer-offered.new.self in
    memo_still c.catch_up.new.memo m c.give.new.seat.me b'
    (has_same m c.args.book b' c.requires.seat.1 c.in-NotBetter.ensures.offers.0) c.log_len-exact.ensures.replays
    c.catch_up.ensures c.give.ensures.me
