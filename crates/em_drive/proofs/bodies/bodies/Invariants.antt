use Rattle.em_drive.specs.Bodies.{AreBodies}
use Rattle.em_drive.proofs.bodies.bodies.Given as goal

abbrev pub invariant-loop-core : goal.invariant-loop-core
invariant-loop-core l = AreBodies l.config l.core l.bodies.items
