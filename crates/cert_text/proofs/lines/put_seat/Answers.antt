use Rattle.std.proofs.Common.{ap, ◌∙◌, append_assoc, sym, ◌∷◌, []}
use Rattle.std.specs.Prelude.{codes}
use Rattle.cert_lines.specs.Numbers.{number_text}
use Rattle.cert_lines.specs.Rows.{row_text, line_text, seat}
use Rattle.cert_lines.specs.ValueRows.{seat_row}
use Rattle.line_rules.specs.declared.types.LineKind.TheVariants.{U}
use Rattle.cert_text.proofs.PutTexts.{puts, puts_as}
use Rattle.cert_text.proofs.lines.put_seat.Goals as goal

pub returns-in-Straight : goal.returns-in-Straight
unfolding row_text
returns-in-Straight g c =
    puts _ _ _ _ _ _ _ (puts_as _ _ _ _ _ c.put_number.ensures (ap number_text (sym c.from.ensures))) c.put_text.ensures
    (ap (λ k. line_text (seat_row k c.args.place.now)) c.in-Straight.is)

pub returns-in-Front : goal.returns-in-Front
unfolding row_text
returns-in-Front g c =
    puts _ _ _ _ _ _ _ (puts_as _ _ _ _ _ c.put_number.ensures (ap number_text (sym c.from.ensures)))
    c.put_text-in-Front.ensures
    (ap (λ k. line_text (seat_row k c.args.place.now)) c.in-U.is
    ∙ ap (λ s. line_text (seat U c.args.place.now.station s)) c.in-Front.is
    ∙ append_assoc (number_text c.args.place.now.station) (32 ∷ codes "f") (10 ∷ []))

pub returns-in-Back : goal.returns-in-Back
unfolding row_text
returns-in-Back g c =
    puts _ _ _ _ _ _ _ (puts_as _ _ _ _ _ c.put_number.ensures (ap number_text (sym c.from.ensures)))
    c.put_text-in-Back.ensures
    (ap (λ k. line_text (seat_row k c.args.place.now)) c.in-U.is
    ∙ ap (λ s. line_text (seat U c.args.place.now.station s)) c.in-Back.is
    ∙ append_assoc (number_text c.args.place.now.station) (32 ∷ codes "b") (10 ∷ []))
