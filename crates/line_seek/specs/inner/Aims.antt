-- What a seek goes for.
use Rattle.std.specs.Prelude.{ℕ, ◌-◌}
use Rattle.line_seek.specs.declared.aims.Aim.{Aim}
use Rattle.line_seek.specs.declared.aims.Aim.TheVariants as aims

-- the stations that the next try of a seek asks for, where its best balance has so many: one less, or those that the
-- seek is for (own)
abbrev pub asked_for : Aim → ℕ → ℕ
asked_for aims.Fewer best = best - 1
asked_for (aims.AtMost most) best = most
