use Rattle.std.proofs.Common.{◌∙◌, sym, ap, Some}
use Rattle.cert_lines.specs.Words.{numbers_in, pieces_at}
use Rattle.cert_lines.proofs.Lists.{behind, behind_none, split_shorter, piece_read, piece_fails, last_read, last_fails}
use Rattle.cert_lines.proofs.words.numbers_of.Goals as goal

pub returns-in-None : goal.returns-in-None
returns-in-None c = piece_fails c.loop-piece.cites c.loop-piece.left.now c.args.word.now
    (c.in-Some.piece.now, c.in-Some.rest.now) c.in-Some.ensures (sym c.in-None.ensures) c.loop-piece.invariant

pub loop-piece-init : goal.loop-piece-init
loop-piece-init c = ap (λ x. behind x (numbers_in (pieces_at 44 c.args.word.now)))
    (c.from_vec-cites.ensures ∙ c.new.ensures.items) ∙ behind_none (numbers_in (pieces_at 44 c.args.word.now))

pub loop-piece-smaller : goal.loop-piece-smaller
loop-piece-smaller c = split_shorter 44 c.loop-piece.left.now (c.in-Some.piece.now, c.in-Some.rest.now)
    c.in-Some.ensures

pub loop-piece-preserved : goal.loop-piece-preserved
loop-piece-preserved c =
    ap (λ x. behind x (numbers_in (pieces_at 44 c.in-Some.rest.now))) c.in_ok-push-in-Some-number.ensures.ok
    ∙ piece_read c.loop-piece.cites c.loop-piece.left.now c.args.word.now (c.in-Some.piece.now, c.in-Some.rest.now)
    c.in-Some-number.cite c.in-Some.ensures (sym c.in-Some-number.ensures) c.loop-piece.invariant

pub returns-in_ok-push-in-Some-number-2 : goal.returns-in_ok-push-in-Some-number-2
returns-in_ok-push-in-Some-number-2 c =
    ap (λ x. Some x) c.in_ok-push-in-Some-number-2.ensures.ok
    ∙ last_read c.loop-piece.cites c.loop-piece.left.now c.args.word.now c.in-Some-number-2.cite c.in_default.ensures
    (sym c.in-Some-number-2.ensures) c.loop-piece.invariant

pub returns-in-None-number : goal.returns-in-None-number
returns-in-None-number c = last_fails c.loop-piece.cites c.loop-piece.left.now c.args.word.now c.in_default.ensures
    (sym c.in-None-number.ensures) c.loop-piece.invariant
