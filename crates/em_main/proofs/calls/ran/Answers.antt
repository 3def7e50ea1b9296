use Rattle.std.proofs.Common.{sym, ◌∙◌}
use Rattle.em_tool.proofs.Ending.{runs-of}
use Rattle.em_main.proofs.calls.ran.Goals as goal

pub threads-requires-clause-servable : goal.threads-requires-clause-servable
threads-requires-clause-servable g c κs within = c.is_runnable.ensures.servable c.requires.well_formed c.if-not-is_runnable.false

pub returns-in-Ok : goal.returns-in-Ok
returns-in-Ok g c = runs-of c.args.graph.now c.args.limits c.in-Ok.desk c.in-Ok.end (sym c.is_runnable.ensures.value ∙ c.if-not-is_runnable.false) c.in-Ok.ensures
