use Rattle.std.proofs.Common.{◌≡◌, map, take}
use Rattle.em_log.specs.Declarations.{group_shape}
use Rattle.em_log.proofs.shapes.groups_of.Given as goal

abbrev pub invariant-loop-group : goal.invariant-loop-group
invariant-loop-group l = l.masks ≡ map group_shape (take l.group-index l.group-items)
