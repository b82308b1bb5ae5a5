use Rattle.std.proofs.Common.{arith, List, ◌∷◌, [], length, ap, length-append}
use Rattle.line_rules.specs.declared.types.OpenFrame.{OpenFrame}
use Rattle.station_search.proofs.standing.go_up.Goals as goal

pub take_from-standing-requires : goal.take_from-standing-requires
take_from-standing-requires c = omega (
  arith,
  c.requires,
  ap (λ (z : List OpenFrame). length z) c.in-Some.ensures.some,
  length-append c.pop_from.new.stack.items (c.in-Some.parent ∷ []),
)
