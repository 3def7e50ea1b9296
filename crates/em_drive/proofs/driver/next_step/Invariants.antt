use Rattle.std.proofs.Common.{◌≡◌, None}
use Rattle.em_log.specs.declared.graph.Config.{Config}
use Rattle.em_log.specs.declared.ids.Limits.{Limits}
use Rattle.em_core.specs.Steps.{unreplied, over}
use Rattle.em_board.specs.Passes.{PassView}
use Rattle.em_drive.specs.Driven.{IsDriven}
use Rattle.em_drive.proofs.driver.next_step.Given as goal

abbrev pub invariant-loop : goal.invariant-loop
invariant-loop g l = record {
  unreplied : unreplied g.W.Work l.run ≡ None;
  over : over l.run ≡ None;
  driven : (f : g.W.Work.Fixed) (h : Config) (limits : Limits) (p : PassView) → IsDriven g.W.Work None f h limits p l.fn.run → IsDriven g.W.Work None f h limits p l.run;
}
