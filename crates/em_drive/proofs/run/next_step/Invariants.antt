use Rattle.std.proofs.Common.{◌≡◌, ℕ, None}
use Rattle.em_log.specs.declared.graph.Config.{Config}
use Rattle.em_log.specs.declared.ids.Limits.{Limits}
use Rattle.em_core.specs.Steps.{unreplied, over}
use Rattle.em_body.specs.contracts.run.BodyRunWork.TheImpl.{ghosts}
use Rattle.em_body.specs.Followed.{steps_left}
use Rattle.em_desk.specs.State.{DeskState}
use Rattle.em_drive.specs.Going.{IsAwaiting}
use Rattle.em_drive.proofs.run.next_step.Given as goal

abbrev pub invariant-loop-step : goal.invariant-loop-step
invariant-loop-step l = record {
  unreplied : unreplied ghosts l.run ≡ None;
  over : over l.run ≡ None;
  awaited : (g : Config) (limits : Limits) (desk : DeskState) (c : ℕ) → IsAwaiting None g limits desk c l.fn.run → IsAwaiting None g limits desk c l.run;
}

abbrev pub decreases-loop-step : goal.decreases-loop-step
decreases-loop-step l = steps_left l.run.work.standing
