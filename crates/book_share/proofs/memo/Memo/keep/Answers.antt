use Rattle.std.proofs.Common.{◌+◌, take, arith}
use Rattle.lemma_core.specs.inner.Chains.{tags_of}
use Rattle.book_share.proofs.MemoFacts.{marks_more, rows_more, row_of}
use Rattle.book_share.proofs.memo.Memo.keep.Goals as goal

pub returns-then-entry-cycle : goal.returns-then-entry-cycle
returns-then-entry-cycle c =
    let es = c.args.book.now.state.entries in
    let e = c.entry-entry.result.now in
    let old = c.requires.kept in
    record {
      marks = marks_more c.put.new.self es c.args.id c.tag-tag.result e c.entry-entry.ensures.entry c.tag-tag.ensures
          (c.put.ensures (tags_of (take c.args.id es)) old.marks);
      rows = rows_more c.args.self.now.rows c.args.book.now.about.cycle es c.args.id e c.entry-entry.ensures.entry
          old.rows;
    }

pub returns : goal.returns
returns c =
    let es = c.args.book.now.state.entries in
    let cycle = c.args.book.now.about.cycle in
    let e = c.entry-entry.result.now in
    let old = c.requires.kept in
    record {
      marks = marks_more c.put.new.self es c.args.id c.tag-tag.result e c.entry-entry.ensures.entry c.tag-tag.ensures
          (c.put.ensures (tags_of (take c.args.id es)) old.marks);
      rows = c.put-2.ensures cycle (take (c.args.id + 1) es)
          (rows_more c.args.self.now.rows cycle es c.args.id e c.entry-entry.ensures.entry old.rows)
          (row_of es c.args.id cycle e c.entry-entry.ensures.entry
          (omega (arith, c.cycle.ensures, c.if-entry-cycle.false)));
    }
