-- Places at which a text can be parted.
use Rattle.std.specs.Prelude.{◌≡◌, ℕ, ◌<◌, true, List, length, Option, Some, None}
use Rattle.named_drawing.specs.Widths.{is_blank_at}
use Rattle.named_drawing.specs.declared.labels.Label.{Label}
use Rattle.named_drawing.specs.declared.labels.Label.TheVariants.{Name, Parts, Number, Nothing}

-- a blank stands there
pub record IsCutAt (text : List ℕ) (at : ℕ) : Type 0 where
  pub within : at < length text
  pub blank : is_blank_at text at ≡ true

-- a place, where there is one, is at a blank
abbrev pub IsCut : List ℕ → Option ℕ → Type 0
IsCut text None = Unit {0}
IsCut text (Some at) = IsCutAt text at

-- the parts of a label are parted at a blank
abbrev pub IsCutLabel : List ℕ → Label → Type 0
IsCutLabel text Name = Unit {0}
IsCutLabel text (Parts at) = IsCutAt text at
IsCutLabel text Number = Unit {0}
IsCutLabel text Nothing = Unit {0}
