use Rattle.std.proofs.Common.{sym, ◌∙◌}
use Rattle.em_drive.proofs.Served.{runnable-servable}
use Rattle.em_drive.proofs.runnable.is_runnable.Goals as goal

pub returns-clause-servable : goal.returns-clause-servable
returns-clause-servable c formed runs = runnable-servable c.args.config.now formed (sym c.is_runnable_graph.ensures ∙ runs)
