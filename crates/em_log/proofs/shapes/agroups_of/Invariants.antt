use Rattle.std.proofs.Common.{◌≡◌, map, take}
use Rattle.em_log.specs.Declarations.{agroup_shape}
use Rattle.em_log.proofs.shapes.agroups_of.Given as goal

abbrev pub invariant-loop-agroup : goal.invariant-loop-agroup
invariant-loop-agroup l = l.groups ≡ map agroup_shape (take l.agroup-index l.agroup-items)
