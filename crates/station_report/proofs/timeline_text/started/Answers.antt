use Rattle.csv.specs.Writing.{is_blank, fields_text}
use Rattle.station_report.proofs.timeline_text.started.Goals as goal

pub returns-clause-text : goal.returns-clause-text
unfolding is_blank fields_text
returns-clause-text c =
    let text = rw (
      c.as_slice.ensures,
      c.as_slice-2.ensures,
      c.as_slice-3.ensures,
      c.as_slice-4.ensures,
      c.as_slice-5.ensures,
      c.as_slice-6.ensures,
      c.from_writer-table.ensures.wtr,
      c.from_writer-table.ensures.empty,
      c.new.ensures.items,
    ) at c.in_ok-put_fields.ensures.text in
    text
