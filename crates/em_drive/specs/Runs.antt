-- A whole run, and the runs of its cores at first.
use Rattle.std.specs.Prelude.{ℕ, ◌≡◌, List, [], length, Some, None, slice_get}
use Rattle.em_log.specs.declared.graph.Config.{Config}
use Rattle.em_log.specs.declared.ids.EndKind.{EndKind}
use Rattle.em_log.specs.declared.ids.Limits.{Limits}
use Rattle.em_log.specs.Answers.{end_of}
use Rattle.em_log.specs.Declarations.{declarations_of}
use Rattle.em_log.specs.Legal.{Legal}
use Rattle.em_core.specs.declared.core_run.CoreRun.{CoreRun}
use Rattle.em_core.specs.Stands.{Stands}
use Rattle.em_core.specs.Steps.{unreplied, over}
use Rattle.em_body.specs.contracts.run.BodyRunWork.TheImpl.{ghosts}
use Rattle.em_body.specs.Standings.{Run}
use Rattle.em_laws.specs.AllLaws.{KeepsLaws}
use Rattle.em_desk.specs.State.{DeskState}

-- the run of core c has done nothing yet
pub record IsNew (g : Config) (c : ℕ) (run : CoreRun Run) : Type 0 where
  pub stands : Stands ghosts run c (record { graph = g; core = c }) []
  pub unreplied : unreplied ghosts run ≡ None
  pub over : over run ≡ None

-- a run for each core below n
pub record AreNew (g : Config) (n : ℕ) (runs : List (CoreRun Run)) : Type 0 where
  pub count : length runs ≡ n
  pub each : (c : ℕ) (run : CoreRun Run) → slice_get runs c ≡ Some run → IsNew g c run

-- the desk's history is a legal one of this graph under these limits, keeps the laws of all histories, and has ended so
pub record IsRun (g : Config) (l : Limits) (desk : DeskState) (end : EndKind) : Type 0 where
  pub graph : desk.declarations ≡ declarations_of g
  pub limits : desk.limits ≡ l
  pub legal : Legal g l desk.past
  pub laws : KeepsLaws (declarations_of g) desk.past
  pub ended : end_of (declarations_of g) l desk.past ≡ Some end
