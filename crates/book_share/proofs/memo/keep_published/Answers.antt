use Rattle.std.proofs.Common.{Option, subst}
use Rattle.lemma_core.specs.declared.types.Published.{Published}
use Rattle.book_share.specs.declared.memo.Memo.{Memo}
use Rattle.book_share.specs.inner.Memo.{LacksLast, IsMemoBut}
use Rattle.book_share.proofs.MemoFacts.{seen_last}
use Rattle.book_share.proofs.memo.keep_published.Goals as goal

pub returns : goal.returns
returns c d e own but =
    let h : LacksLast c.in-Some.memo d e c.in-Added.id = subst (λ (p : Published × Option Memo). IsMemoBut p.1 d e p.0)
    (λ t. (c.in-Added.is t, c.in-Some.is t)) but in
    seen_last c.in-Some.memo c.keep_own.new.self d e c.in-Added.id h
    (c.keep_own.ensures d.about.cycle h.front e own h.number h.whole)
