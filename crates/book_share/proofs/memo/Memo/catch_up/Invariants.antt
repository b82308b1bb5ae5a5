use Rattle.std.proofs.Common.{take}
use Rattle.book_share.specs.inner.Memo.{HasKept}
use Rattle.book_share.proofs.memo.Memo.catch_up.Given as goal

abbrev pub invariant-loop-id : goal.invariant-loop-id
invariant-loop-id l = HasKept l.self l.book.about.cycle (take l.id l.book.state.entries)
