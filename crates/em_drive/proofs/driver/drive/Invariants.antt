use Rattle.std.proofs.Common.{None}
use Rattle.em_log.specs.declared.graph.Config.{Config}
use Rattle.em_log.specs.declared.ids.Limits.{Limits}
use Rattle.em_drive.specs.Driven.{IsDriven, IsSamePass}
use Rattle.em_drive.proofs.driver.drive.Given as goal

abbrev pub invariant-loop : goal.invariant-loop
invariant-loop g l = record {
  driven : (f : g.W.Work.Fixed) (h : Config) (limits : Limits) → IsDriven g.W.Work None f h limits l.fn.pass l.fn.run → IsDriven g.W.Work None f h limits l.pass l.run;
  pass : IsSamePass l.fn.pass l.pass;
}
