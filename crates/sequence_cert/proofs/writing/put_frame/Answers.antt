use Rattle.std.proofs.Common.{◌≡◌, ℕ, List, [], ◌∷◌, ◌++◌, ap, sym, Option, append_assoc}
use Rattle.std.specs.Prelude.{codes}
use Rattle.cert_lines.specs.Numbers.{number_text, cites_text}
use Rattle.cert_lines.specs.Rows.{line_text, state_frame, number_or_none, row_text}
use Rattle.cert_text.proofs.PutTexts.{puts_as, ◌▹◌}
use Rattle.sequence_cert.specs.SequenceText.{counted}
use Rattle.sequence_cert.specs.inner.Pieces.{state_text}
use Rattle.sequence_cert.proofs.writing.put_frame.Goals as goal

frame_spelled : (rem starts : List ℕ) (need : ℕ) (last : Option ℕ) (cites : List ℕ)
    → line_text (state_frame rem starts need last cites)
    ≡ codes "open" ++
    (state_text rem starts ++
    (number_text need ++ (32 ∷ (number_or_none last ++ (32 ∷ (cites_text cites ++ 10 ∷ []))))))
unfolding row_text
frame_spelled rem starts need last cites = simp append_assoc

pub returns : goal.returns
returns g c =
    puts_as _ _ _ _ _
    (c.put_text.ensures ▹ c.put_state.ensures ▹ c.put_number.ensures ▹ c.put.ensures ▹ c.put_last.ensures
    ▹ c.put-2.ensures ▹ puts_as _ _ _ _ _ c.put_cites.ensures
    (ap cites_text (sym c.as_slice.ensures)) ▹ c.put-3.ensures)
    (frame_spelled c.args.frame.now.rem c.args.frame.now.starts c.args.frame.now.need
    (counted c.args.frame.now.last) c.args.frame.now.cites)
