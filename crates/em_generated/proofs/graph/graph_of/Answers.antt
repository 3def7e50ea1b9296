use Rattle.std.proofs.Common.{◌≡◌, ℕ, ◌≤◌, Result, Ok, Err, IfOk, sym, subst}
use Rattle.em_log.specs.declared.graph.Config.{Config}
use Rattle.em_log.specs.WellFormed.{IsWellFormed}
use Rattle.em_generated.specs.Graph.{generated_graph}
use Rattle.em_generated.proofs.WellFormed.{well-formed}
use Rattle.em_generated.proofs.graph.graph_of.Goals as goal

-- what is answered is well formed
stands : {E : Type 0} (n : ℕ) (r : Result Config E) → n ≤ 40 → IfOk r (λ graph. graph ≡ generated_graph n) → IfOk r (λ graph. IsWellFormed graph)
stands n (Ok graph) few is = subst IsWellFormed (sym is) (well-formed n few)
stands n (Err e) few is = tt

pub returns-clause-well_formed : goal.returns-clause-well_formed
returns-clause-well_formed c = stands c.args.n c.assembled.result c.requires.1 c.assembled.ensures
