use Rattle.std.proofs.Common.{sym, subst, Some, ℕ, List, [], Option, Ok}
use Rattle.line_rules.specs.Ranges.{IsTrailOrNone}
use Rattle.line_rules.specs.declared.types.OpenFrame.{OpenFrame}
use Rattle.cert_lines.specs.LineForms.{IsHead}
use Rattle.cert_text.specs.Parts.{trails}
use Rattle.cert_lines.specs.Pattern.{IsRead}
use Rattle.cert_text.proofs.PartErrors.{ends, first, second, same, hand}
use Rattle.cert_lines.proofs.JudgedEntry.{some_frame}
use Rattle.cert_text.proofs.PartSequences.{both_read}
use Rattle.cert_text.proofs.CertificateParts.{trail_heads, unique_trail_head, frames_of, trail_parts, same_trails}
use Rattle.cert_text.proofs.CertificateParts.{frames_said}
use Rattle.cert_text.proofs.CertificateParts.{some_frames, trail_said, trail_read}
use Rattle.cert_text.proofs.parts.read_trail.Goals as goal

pub returns-in_err-head-clause-read : goal.returns-in_err-head-clause-read
returns-in_err-head-clause-read g c t =
    hand (trails c.args.tasks c.args.count) _ _ _ _ c.from_residual.result c.in_err-head.field-0.0
    c.from_residual.ensures.1
    (same (trail_parts c.args.tasks c.args.count) (trails c.args.tasks c.args.count)
    (same_trails c.args.tasks c.args.count)
    (first trail_heads (λ h. frames_of c.args.tasks c.args.count (frames_said h)) unique_trail_head
    (λ h r. some_frames c.args.tasks c.args.count (frames_said h))
    (ends trail_heads _ 0 _ [] _ (c.in_err-head.ensures.read t))))

pub read_lines-requires-clause-some : goal.read_lines-requires-clause-some
read_lines-requires-clause-some g c = some_frame c.args.tasks c.args.count

pub returns-in_err-frames-clause-read : goal.returns-in_err-frames-clause-read
returns-in_err-frames-clause-read g c t =
    let P : Option (ℕ × ℕ) → Type 0 = λ h. IsRead trail_heads (g.S.Source.number c.args.source.now)
    (g.S.Source.left c.args.source.now) (g.S.Source.left c.read_line.new.source)
    (g.S.Source.number c.read_line.new.source) (Ok h) in
    hand (trails c.args.tasks c.args.count) _ _ _ _ c.from_residual-in_err-frames.result c.in_err-frames.field-0.0
    c.from_residual-in_err-frames.ensures.1
    (same (trail_parts c.args.tasks c.args.count) (trails c.args.tasks c.args.count)
    (same_trails c.args.tasks c.args.count)
    (second trail_heads (λ h. frames_of c.args.tasks c.args.count (frames_said h))
    (Some (c.in-Some.frames, c.in-Some.cycle)) _ _ _ _ unique_trail_head
    (subst P c.in-Some.is (c.in_ok-head.ensures.read t))
    (ends (frames_of c.args.tasks c.args.count c.in-Some.frames) _ 0 _ [] _ (c.in_err-frames.ensures.read t))))

pub returns-clause-said : goal.returns-clause-said
returns-clause-said g c =
    let H : Option (ℕ × ℕ) → Type 0 = IsHead in
    let h : IsHead (Some (c.in-Some.frames, c.in-Some.cycle)) = subst H c.in-Some.is c.in_ok-head.ensures.said in
    let Q : List OpenFrame → Type 0 = λ fs. IsTrailOrNone c.args.tasks c.args.count
    (Some (record { cycle = c.in-Some.cycle; frames = fs })) in
    subst Q (sym c.from_vec.ensures) (trail_said c.args.tasks c.args.count (c.in-Some.frames, c.in-Some.cycle)
    c.in_ok-frames.frames.items h c.in_ok-frames.ensures.said)

pub returns-clause-read : goal.returns-clause-read
returns-clause-read g c t =
    let P : Option (ℕ × ℕ) → Type 0 = λ h. IsRead trail_heads (g.S.Source.number c.args.source.now)
    (g.S.Source.left c.args.source.now) (g.S.Source.left c.read_line.new.source)
    (g.S.Source.number c.read_line.new.source) (Ok h) in
    let Q : List OpenFrame → Type 0 = λ fs. IsRead (trails c.args.tasks c.args.count)
    (g.S.Source.number c.args.source.now) (g.S.Source.left c.args.source.now)
    (g.S.Source.left c.read_lines.new.source) (g.S.Source.number c.read_lines.new.source)
    (Ok (Some (record { cycle = c.in-Some.cycle; frames = fs }))) in
    subst Q (sym c.from_vec.ensures)
    (trail_read c.args.tasks c.args.count (c.in-Some.frames, c.in-Some.cycle) c.in_ok-frames.frames.items _ _ _ _
    (both_read trail_heads (λ h. frames_of c.args.tasks c.args.count (frames_said h))
    (Some (c.in-Some.frames, c.in-Some.cycle)) c.in_ok-frames.frames.items _ _ _ _ _ _
    (subst P c.in-Some.is (c.in_ok-head.ensures.read t)) (c.in_ok-frames.ensures.read t)))
