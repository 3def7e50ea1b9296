use Rattle.std.proofs.Common.{◌≡◌, map, take}
use Rattle.em_log.specs.Declarations.{eo_shape}
use Rattle.em_log.proofs.shapes.running_of.Given as goal

abbrev pub invariant-loop-eo : goal.invariant-loop-eo
invariant-loop-eo l = l.running ≡ map eo_shape (take l.eo-index l.eo-items)
