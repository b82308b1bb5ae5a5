use Rattle.std.proofs.Common.{take}
use Rattle.lemma_core.specs.inner.Chains.{tags_of}
use Rattle.book_share.proofs.MemoFacts.{none_kept}
use Rattle.book_share.proofs.memo.Memo.glimpse.Goals as goal

pub returns-then-lack-clause-tells : goal.returns-then-lack-clause-tells
returns-then-lack-clause-tells c cycle es memo all =
    let m = c.args.self.now in
    none_kept es m.count c.tag-tag.result c.args.set.now (all c.if-not-self.false) c.tag-tag.ensures
    (c.lack.ensures c.if-lack.true (tags_of (take m.count es)) memo.kept.marks) c.args.most cycle
