use Rattle.std.proofs.Common.{◌+◌, ◌-◌, length}
use Rattle.em_log.specs.Declarations.{declarations_of}
use Rattle.em_bounds.specs.Bound.{history_limit}
use Rattle.em_drive.specs.Going.{AreGoing, HasRounded}
use Rattle.em_drive.proofs.run.solo.Given as goal

abbrev pub invariant-loop-core : goal.invariant-loop-core
invariant-loop-core g l = AreGoing l.config l.fn.limits l.desk l.runs.items

abbrev pub decreases-loop-core : goal.decreases-loop-core
decreases-loop-core g l = history_limit (declarations_of l.config) l.fn.limits + 1 - length l.desk.past

abbrev pub invariant-loop-core-2 : goal.invariant-loop-core-2
invariant-loop-core-2 g l = record {
  going : AreGoing l.config l.fn.limits l.desk l.runs.items;
  rounded : HasRounded l.config l.fn.limits l.initial.desk.past l.desk.past l.order l.core-index;
}
