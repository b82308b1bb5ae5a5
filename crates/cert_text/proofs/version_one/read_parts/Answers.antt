use Rattle.std.proofs.Common.{[], ◌∷◌, ◌++◌, ◌∙◌, ap, arith}
use Rattle.cert_text.specs.inner.OldParts.{one_part, so_many, counted}
use Rattle.cert_text.proofs.PartErrors.{ends, first, same, hand}
use Rattle.cert_text.proofs.VersionOneParts.{part_numbers, counted_parts, unique_part_number, same_counted}
use Rattle.cert_text.proofs.VersionOneParts.{some_so_many}
use Rattle.cert_text.proofs.VersionOneParts.{none_read, single_read, pair_read, first_fails, second_fails}
use Rattle.cert_text.proofs.version_one.read_parts.Goals as goal

pub returns-in_err-count-clause-read : goal.returns-in_err-count-clause-read
returns-in_err-count-clause-read g c t =
    hand (counted c.args.tasks) _ _ _ _ c.from_residual.result c.in_err-count.field-0.0 c.from_residual.ensures.1
    (same (counted_parts c.args.tasks) (counted c.args.tasks) (same_counted c.args.tasks)
    (first part_numbers (so_many c.args.tasks) unique_part_number (λ k r. some_so_many c.args.tasks k r.1)
    (ends part_numbers _ 0 _ [] _ (c.in_err-count.ensures.read t))))

pub returns-then-count-eq0-clause-read : goal.returns-then-count-eq0-clause-read
returns-then-count-eq0-clause-read g c t =
    none_read c.args.tasks c.in_ok-count.count c.from_vec.result _ _ _ _
    (c.from_vec.ensures ∙ c.new-parts.ensures.items) c.if-count-eq0.true (c.in_ok-count.ensures.read t)

pub returns-in_err-first-clause-read : goal.returns-in_err-first-clause-read
returns-in_err-first-clause-read g c t =
    hand (counted c.args.tasks) _ _ _ _ c.from_residual-in_err-first.result c.in_err-first.field-0.0
    c.from_residual-in_err-first.ensures.1
    (first_fails c.args.tasks c.in_ok-count.count _ _ _ _ c.requires.few c.if-count-eq0.false
    c.in_ok-count.ensures.said.1 (c.in_ok-count.ensures.read t)
    (ends (one_part c.args.tasks 1024) _ 0 _ [] _ (c.in_err-first.ensures.read t)))

pub returns-then-count-eq1-clause-read : goal.returns-then-count-eq1-clause-read
returns-then-count-eq1-clause-read g c t =
    single_read c.args.tasks c.in_ok-count.count c.in_ok-first.first c.from_vec-then-count-eq1.result _ _ _ _ _ _
    (c.from_vec-then-count-eq1.ensures ∙ c.in_ok-push.ensures.items
    ∙ ap (λ z. z ++ c.in_ok-first.first ∷ []) c.new-parts.ensures.items) c.if-count-eq1.true
    (c.in_ok-count.ensures.read t) (c.in_ok-first.ensures.read t)

pub returns-in_err-second-clause-read : goal.returns-in_err-second-clause-read
returns-in_err-second-clause-read g c t =
    hand (counted c.args.tasks) _ _ _ _ c.from_residual-in_err-second.result c.in_err-second.field-0.0
    c.from_residual-in_err-second.ensures.1
    (second_fails c.args.tasks c.in_ok-count.count c.room_behind-room.result c.in_ok-first.first _ _ _ _ _ _
    c.requires.few (omega (arith, c.in_ok-count.ensures.said.1, c.if-count-eq0.false, c.if-count-eq1.false))
    c.room_behind-room.ensures
    (c.in_ok-count.ensures.read t) (c.in_ok-first.ensures.read t)
    (ends (one_part c.args.tasks c.room_behind-room.result) _ 0 _ [] _ (c.in_err-second.ensures.read t)))

pub returns-clause-read : goal.returns-clause-read
returns-clause-read g c t =
    pair_read c.args.tasks c.in_ok-count.count c.room_behind-room.result c.in_ok-first.first c.in_ok-second.second
    c.from_vec-2.result _ _ _ _ _ _ _ _
    (c.from_vec-2.ensures ∙ c.in_ok-push-2.ensures.items ∙ ap (λ z. z ++ c.in_ok-second.second ∷ [])
    (c.in_ok-push.ensures.items ∙ ap (λ z. z ++ c.in_ok-first.first ∷ []) c.new-parts.ensures.items))
    (omega (arith, c.in_ok-count.ensures.said.1, c.if-count-eq0.false, c.if-count-eq1.false)) c.room_behind-room.ensures
    (c.in_ok-count.ensures.read t) (c.in_ok-first.ensures.read t) (c.in_ok-second.ensures.read t)
