use Rattle.std.proofs.Common.{◌≡◌, map}
use Rattle.em_log.specs.Declarations.{agroup_shape}
use Rattle.em_desk_rows.specs.Graphs.{all_cores_groups}
use Rattle.em_desk_rows.proofs.graphs.groups.Given as goal

abbrev pub invariant-loop : goal.invariant-loop
invariant-loop l = map agroup_shape l.agroups ≡ all_cores_groups l.counter
