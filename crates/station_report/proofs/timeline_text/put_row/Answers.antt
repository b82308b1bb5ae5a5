use Rattle.std.proofs.Common.{◌∙◌, ◌++◌, ◌<◌, ◌^◌, List, ℕ, ap, arith}
use Rattle.std.proofs.lemmas.Result.{on_ok_weaker}
use Rattle.station_report.proofs.PlainFields.{row_is}
use Rattle.station_report.proofs.timeline_text.put_row.Goals as goal

pub returns-clause-text : goal.returns-clause-text
returns-clause-text c =
    let old : List ℕ = c.args.table.now.wtr.inner.items ++ c.args.table.now.wtr.buf in
    let hs : c.args.visit.station < 2 ^ 64 = omega arith in
    let hu : c.args.visit.unit < 2 ^ 64 = omega arith in
    let hb : c.args.visit.start < 2 ^ 64 = omega arith in
    let hw : c.args.visit.work < 2 ^ 64 = omega arith in
    let ho : c.args.visit.utility < 2 ^ 64 = omega arith in
    let row =
    row_is c.args.visit.station c.args.visit.unit c.args.visit.start c.args.visit.work c.args.visit.utility
    c.args.name.now c.as_bytes.result.now
    c.as_bytes-2.result.now c.as_bytes-3.result.now c.as_bytes-4.result.now c.as_bytes-5.result.now c.requires.name hs
    hu hb hw ho
    (c.as_bytes.ensures.value ∙ c.format.ensures.text) (c.as_bytes-2.ensures.value ∙ c.format-2.ensures.text)
    (c.as_bytes-3.ensures.value ∙ c.format-3.ensures.text) (c.as_bytes-4.ensures.value ∙ c.format-4.ensures.text)
    (c.as_bytes-5.ensures.value ∙ c.format-5.ensures.text) in
    on_ok_weaker c.put_fields.result (λ e. e ∙ ap (λ (t : List ℕ). old ++ t) row) c.put_fields.ensures.text
