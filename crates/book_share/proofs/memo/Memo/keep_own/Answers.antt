use Rattle.std.proofs.Common.{◌∷◌, [], ◌++◌, arith}
use Rattle.lemma_core.specs.inner.Chains.{tags_of}
use Rattle.book_share.proofs.MemoFacts.{kept_all, own_more, own_row, rows_longer}
use Rattle.book_share.proofs.memo.Memo.keep_own.Goals as goal

pub returns-then-own-self : goal.returns-then-own-self
returns-then-own-self c cycle es e own number whole =
    let m = c.args.self.now in
    let kept = kept_all m cycle es whole in
    own_more c.put.new.self m.rows cycle c.args.id c.tag-tag.result c.args.own.now e es m.ready own number
    c.tag-tag.ensures (c.put.ensures (tags_of es) kept.marks) (rows_longer m.rows cycle es (e ∷ []) kept.rows)
    m.cycle whole.asked

pub returns : goal.returns
returns c cycle es e own number whole =
    let m = c.args.self.now in
    let kept = kept_all m cycle es whole in
    own_more c.put.new.self c.put-2.new.self cycle c.args.id c.tag-tag.result c.args.own.now e es m.ready own number
    c.tag-tag.ensures (c.put.ensures (tags_of es) kept.marks)
    (c.put-2.ensures cycle (es ++ e ∷ []) (rows_longer m.rows cycle es (e ∷ []) kept.rows)
    (own_row c.args.own.now e c.args.id cycle es own number (omega (arith, whole.asked, c.if-own-self.false))))
    m.cycle whole.asked
