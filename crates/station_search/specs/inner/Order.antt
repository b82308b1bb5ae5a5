-- Which frames' loads stand at the front, and which at the back.
use Rattle.std.specs.Prelude.{Option, Some, None, List, [], ◌∷◌, ◌++◌}
use Rattle.line_rules.specs.declared.types.Mode.{Mode}
use Rattle.line_rules.specs.declared.types.Mode.TheVariants as mode
use Rattle.line_rules.specs.declared.types.Load.{Load}
use Rattle.line_rules.specs.declared.types.OpenFrame.{OpenFrame}

abbrev pub fore_load : Mode → Option Load → Option Load
fore_load mode.Fore last = last
fore_load mode.Back last = None
fore_load mode.Both last = last

abbrev pub back_load : Mode → Option Load → Option Load
back_load mode.Fore last = None
back_load mode.Back last = last
back_load mode.Both last = None

abbrev pub one : Option Load → List Load
one None = []
one (Some l) = l ∷ []

-- the loads at the front in order, and those at the back in reverse
abbrev pub fores : List OpenFrame → List Load
fores [] = []
fores (f ∷ fs) = one (fore_load f.mode f.last) ++ fores fs

abbrev pub backs : List OpenFrame → List Load
backs [] = []
backs (f ∷ fs) = backs fs ++ one (back_load f.mode f.last)
