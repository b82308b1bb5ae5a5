use Rattle.std.proofs.Common.{ap, sym, ◌∙◌, ◌++◌, [], length, map}
use Rattle.cert_lines.specs.Rows.{rows_text}
use Rattle.cert_lines.specs.ValueRows.{frame_row}
use Rattle.cert_text.specs.Cert.{trail_rows}
use Rattle.cert_text.proofs.PutTexts.{puts, puts_as, ◌▹◌, number_as}
use Rattle.cert_text.proofs.PutLines.{next_line, all_lines, no_trail_spelled, trail_spelled}
use Rattle.cert_text.proofs.lines.put_trail.Goals as goal

pub returns-in_default : goal.returns-in_default
returns-in_default g c = puts_as _ _ _ _ _ c.put_text.ensures
    (ap (λ t. rows_text (trail_rows c.args.tasks t)) c.in_default.is ∙ ap (λ t. t ++ []) no_trail_spelled)

pub loop-frame-preserved : goal.loop-frame-preserved
loop-frame-preserved g c =
    puts _ _ _ _ _ _ _ c.loop-frame.invariant c.put_frame.ensures
    (next_line (frame_row c.args.tasks) c.as_slice-frame-items.result.now c.loop-frame.frame-index
    c.frame-item.result (frame_row c.args.tasks c.frame-item.result) c.loop-frame-test.true
    (ap (frame_row c.args.tasks) (sym c.frame-item.is)))

pub returns : goal.returns
returns g c =
    puts_as _ _ _ _ _
    ((c.put_text-2.ensures ▹ number_as (length c.in-Some.trail.frames) c.put_number.ensures c.len.ensures ▹
    c.put_text-3.ensures ▹ c.put_number-2.ensures ▹ c.put.ensures)
    ▹ puts_as _ _ _ _ _ c.loop-frame.invariant (ap (λ fs. rows_text (map (frame_row c.args.tasks) fs))
    (sym c.as_slice-frame-items.ensures) ∙ all_lines (frame_row c.args.tasks) c.as_slice-frame-items.result.now
    c.loop-frame.frame-index c.loop-frame-test.false))
    (ap (λ t. rows_text (trail_rows c.args.tasks t)) c.in-Some.is
    ∙ ap (λ t. t ++ rows_text (map (frame_row c.args.tasks) c.in-Some.trail.frames))
    (trail_spelled (length c.in-Some.trail.frames) c.in-Some.trail.cycle))
