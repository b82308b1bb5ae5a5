use Rattle.std.proofs.Common.{◌≡◌, List, ℕ, subst}
use Rattle.timeline_drawing.specs.Visits.{course}
use Rattle.timeline_drawing.specs.Drawing.{timeline_text}
use Rattle.command_mix.specs.TimelineDraw.{IsDrawable}
use Rattle.command_mix.proofs.timeline_draw.picture_of.Goals as goal

pub returns-in-Text-clause-said : goal.returns-in-Text-clause-said
returns-in-Text-clause-said c =
    let launch = c.args.launch.now in
    let drawn = c.in-Text.ensures.drawn in
    let P : List ℕ → Type 0 = λ units. c.in-Text.text.items
    ≡ timeline_text (course launch.mix launch.balance units c.args.interval c.args.reach) in
    let Q : List ℕ → Type 0 = IsDrawable launch.balance in
    (subst P c.deref.ensures.value drawn.0, subst Q c.deref.ensures.value (drawn.1, drawn.2))
