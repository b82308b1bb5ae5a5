use Rattle.std.proofs.Common.{sym, subst, List, [], Ok}
use Rattle.line_rules.specs.declared.types.OpenFrame.{OpenFrame}
use Rattle.cert_lines.specs.Pattern.{IsRead}
use Rattle.cert_text.specs.inner.OldParts.{AreFrames, old_trails}
use Rattle.cert_text.proofs.PartErrors.{ends, first, second, same, hand}
use Rattle.cert_lines.proofs.JudgedEntry.{some_frame}
use Rattle.cert_text.proofs.PartSequences.{both_read}
use Rattle.cert_text.proofs.CertificateParts.{frames_of, some_frames}
use Rattle.cert_text.proofs.VersionOneParts.{trail_numbers, old_trail_parts, unique_trail_number, same_old_trails}
use Rattle.cert_text.proofs.VersionOneParts.{old_trail_said, old_trail_read}
use Rattle.cert_text.proofs.version_one.read_frames.Goals as goal

pub returns-in_err-many-clause-read : goal.returns-in_err-many-clause-read
returns-in_err-many-clause-read g c t =
    hand (old_trails c.args.tasks c.args.count c.args.room) _ _ _ _ c.from_residual.result c.in_err-many.field-0.0
    c.from_residual.ensures.1
    (same (old_trail_parts c.args.tasks c.args.count c.args.room) (old_trails c.args.tasks c.args.count c.args.room)
    (same_old_trails c.args.tasks c.args.count c.args.room)
    (first (trail_numbers c.args.room) (frames_of c.args.tasks c.args.count)
    (unique_trail_number c.args.room c.requires.room) (λ k r. some_frames c.args.tasks c.args.count k)
    (ends (trail_numbers c.args.room) _ 0 _ [] _ (c.in_err-many.ensures.read t))))

pub read_lines-requires-clause-some : goal.read_lines-requires-clause-some
read_lines-requires-clause-some g c = some_frame c.args.tasks c.args.count

pub returns-in_err-frames-clause-read : goal.returns-in_err-frames-clause-read
returns-in_err-frames-clause-read g c t =
    hand (old_trails c.args.tasks c.args.count c.args.room) _ _ _ _ c.from_residual-in_err-frames.result
    c.in_err-frames.field-0.0 c.from_residual-in_err-frames.ensures.1
    (same (old_trail_parts c.args.tasks c.args.count c.args.room) (old_trails c.args.tasks c.args.count c.args.room)
    (same_old_trails c.args.tasks c.args.count c.args.room)
    (second (trail_numbers c.args.room) (frames_of c.args.tasks c.args.count) _ _ _ _ _
    (unique_trail_number c.args.room c.requires.room) (c.in_ok-many.ensures.read t)
    (ends (frames_of c.args.tasks c.args.count c.in_ok-many.many) _ 0 _ [] _ (c.in_err-frames.ensures.read t))))

pub returns-clause-said : goal.returns-clause-said
returns-clause-said g c =
    let Q : List OpenFrame → Type 0 = AreFrames c.args.tasks c.args.count c.args.room in
    subst Q (sym c.from_vec.ensures) (old_trail_said c.args.tasks c.args.count c.args.room c.in_ok-many.many
    c.in_ok-frames.frames.items c.in_ok-many.ensures.said.1 c.in_ok-frames.ensures.said)

pub returns-clause-read : goal.returns-clause-read
returns-clause-read g c t =
    let Q : List OpenFrame → Type 0 = λ fs. IsRead (old_trails c.args.tasks c.args.count c.args.room)
    (g.S.Source.number c.args.source.now) (g.S.Source.left c.args.source.now)
    (g.S.Source.left c.read_lines.new.source) (g.S.Source.number c.read_lines.new.source) (Ok fs) in
    subst Q (sym c.from_vec.ensures)
    (old_trail_read c.args.tasks c.args.count c.args.room c.in_ok-many.many c.in_ok-frames.frames.items _ _ _ _
    (both_read (trail_numbers c.args.room) (frames_of c.args.tasks c.args.count) c.in_ok-many.many
    c.in_ok-frames.frames.items _ _ _ _ _ _ (c.in_ok-many.ensures.read t) (c.in_ok-frames.ensures.read t)))
