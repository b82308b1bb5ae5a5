use Rattle.std.proofs.Common.{ap, sym, ◌∙◌, ◌++◌, length, map}
use Rattle.std.specs.Prelude.{codes}
use Rattle.cert_lines.specs.Rows.{rows_text, line_text, keyed}
use Rattle.cert_lines.specs.ValueRows.{entry_row}
use Rattle.cert_text.specs.Cert.{trail_rows}
use Rattle.cert_text.proofs.PutTexts.{puts, puts_as, ◌▹◌}
use Rattle.cert_text.proofs.PutLines.{next_line, all_lines}
use Rattle.cert_text.proofs.lines.put_list.Goals as goal
use Rattle.cert_lines.proofs.TextParts.{rows_append}

pub loop-entry-preserved : goal.loop-entry-preserved
loop-entry-preserved g c =
    puts _ _ _ _ _ _ _ c.loop-entry.invariant c.put_entry.ensures
    (next_line (entry_row c.args.tasks) c.as_slice-entry-items.result.now c.loop-entry.entry-index
    c.entry-item.result (entry_row c.args.tasks c.entry-item.result) c.loop-entry-test.true
    (ap (entry_row c.args.tasks) (sym c.entry-item.is)))

pub returns : goal.returns
returns g c =
    puts_as _ _ _ _ _
    (puts_as _ _ _ _ _ c.put_keyed.ensures (ap (λ n. line_text (keyed (codes "entries") n)) (sym c.len.ensures))
    ▹ puts_as _ _ _ _ _ c.loop-entry.invariant (ap (λ es. rows_text (map (entry_row c.args.tasks) es))
    (sym c.as_slice-entry-items.ensures) ∙ all_lines (entry_row c.args.tasks) c.as_slice-entry-items.result.now
    c.loop-entry.entry-index c.loop-entry-test.false)
    ▹ c.put_trail.ensures)
    (ap (λ t. line_text (keyed (codes "entries") (length c.args.entries.now)) ++ t)
    (rows_append (map (entry_row c.args.tasks) c.args.entries.now) (trail_rows c.args.tasks c.args.left.now)))
