use Rattle.std.proofs.Common.{◌∙◌, ◌+◌, sym, subst, Err, arith}
use Rattle.in2_reader.specs.Contents.{contents_from, lines_in}
use Rattle.alb_reader.specs.inner.Drafts.{IsDrafted}
use Rattle.alb_reader.proofs.UpToEnd.{amid_marked, amid_wrong, amid_on}
use Rattle.alb_reader.proofs.lines.read_draft.Goals as goal

pub returns-in-End : goal.returns-in-End
returns-in-End c =
    amid_marked (contents_from 1 c.args.bytes.now) c.lines.draft (contents_from c.lines.at c.lines.left.now)
    (c.in-Ok.content.line, c.in-Ok.content.bytes.now) (contents_from (c.in-Ok.content.line + 1)
    c.in-Ok.content.rest.now)
    c.lines.invariant.amid c.in-Ok.ensures.0 (sym c.in_ok-mark.ensures ∙ c.in-End.is)

pub returns-in-Err-take : goal.returns-in-Err-take
returns-in-Err-take c =
    let w = amid_wrong (contents_from 1 c.args.bytes.now) c.lines.draft (contents_from c.lines.at c.lines.left.now)
    (c.in-Ok.content.line, c.in-Ok.content.bytes.now) (contents_from (c.in-Ok.content.line + 1)
    c.in-Ok.content.rest.now)
    c.lines.invariant.amid c.in-Ok.ensures.0 (lines_in 1 c.args.bytes.now) c.in-Err-take.error
    (λ m. c.in_default.not-End (c.in_ok-mark.ensures ∙ m)) c.in-Err-take.ensures in
    subst (λ x. IsDrafted (contents_from 1 c.args.bytes.now) (lines_in 1 c.args.bytes.now) (Err x))
    (sym c.error_at.ensures) w

pub lines-preserved : goal.lines-preserved
lines-preserved c = record {
  amid = amid_on (contents_from 1 c.args.bytes.now) c.lines.draft (contents_from c.lines.at c.lines.left.now)
      (c.in-Ok.content.line, c.in-Ok.content.bytes.now) (contents_from (c.in-Ok.content.line + 1)
      c.in-Ok.content.rest.now)
      c.lines.invariant.amid c.in-Ok.ensures.0 c.take.new.self (λ m. c.in_default.not-End (c.in_ok-mark.ensures ∙ m))
      c.in_default-take.ensures;
  same = sym c.in-Ok.ensures.1 ∙ c.lines.invariant.same;
  room = omega (arith, c.in-Ok.ensures.2, c.lines.invariant.room);
}
