use Rattle.std.proofs.Common.{Option, subst}
use Rattle.lemma_core.specs.Desks.{HasDerived}
use Rattle.book_share.specs.Calls.{IsSound}
use Rattle.book_share.specs.Passes.{PassOf, desk_by}
use Rattle.book_share.specs.declared.memo.Memo.{Memo}
use Rattle.book_share.specs.inner.Memo.{IsMemoOfSeen, IsMemoBy}
use Rattle.book_share.proofs.CallFacts.{sound_of}
use Rattle.book_share.proofs.pass.Share.glimpse.Goals as goal

pub returns-in-Some-clause-derived : goal.returns-in-Some-clause-derived
returns-in-Some-clause-derived c known =
    let seen : IsMemoOfSeen c.in-Some.memo (desk_by c.pass.inside.seat.me.0) =
    subst (λ (m : Option Memo). IsMemoBy m (desk_by c.pass.inside.seat.me.0)) c.in-Some.is c.pass.invariant.1 in
    subst (λ (p : PassOf). HasDerived (desk_by p.view)) c.pass.view_is (seen.derived (c.glimpse.ensures.ready known))

pub returns-in-Some-clause-sound : goal.returns-in-Some-clause-sound
returns-in-Some-clause-sound c = subst (λ (p : PassOf). IsSound p.view) c.pass.view_is
    (sound_of c.pass.inside.seat.me c.pass.invariant.0)

pub returns-in-None-clause-sound : goal.returns-in-None-clause-sound
returns-in-None-clause-sound c = subst (λ (p : PassOf). IsSound p.view) c.pass.view_is
    (sound_of c.pass.inside.seat.me c.pass.invariant.0)
