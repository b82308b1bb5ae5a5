use Rattle.std.proofs.Common.{◌≡◌, map, length}
use Rattle.task_table.specs.Lists.{parts, unblanked}
use Rattle.task_table.specs.inner.Reading.{links_said}
use Rattle.task_table.proofs.links.Links.take_list.Given as goal

abbrev pub invariant-parts : goal.invariant-parts
invariant-parts l = links_said l.lookup l.owner (map unblanked (parts l.left)) l.self
    ≡ links_said l.lookup l.owner (map unblanked (parts l.list)) l.initial.self

abbrev pub decreases-parts : goal.decreases-parts
decreases-parts l = length l.left
