-- Where a run stands while a step of it waits for its reply.
use Rattle.std.proofs.Common.{◌≡◌, ◌≢◌, ℕ, List, Option, Some, None, refl, ◌∙◌}
use Rattle.em_log.specs.declared.ask.Ask.{Ask}
use Rattle.em_log.specs.declared.graph.Config.{Config}
use Rattle.em_log.specs.declared.ids.Cells.{Cells}
use Rattle.em_log.specs.declared.ids.Limits.{Limits}
use Rattle.em_core.specs.declared.core_run.CoreRun.{CoreRun}
use Rattle.em_core.specs.declared.core_run.Stage.{Stage}
use Rattle.em_core.specs.declared.core_run.Step.{Step}
use Rattle.em_core.specs.Pieces.{Piece}
use Rattle.em_core.specs.Stands.{Stands}
use Rattle.em_core.specs.Steps.{Steps, unreplied, unreplied_at, over, over_at, awaited}
use Rattle.em_body.specs.contracts.run.BodyRunWork.TheImpl.{ghosts}
use Rattle.em_body.specs.Standings.{Made, Run}
use Rattle.em_desk.specs.State.{DeskState}
use Rattle.em_drive.specs.Going.{IsGoing, IsAwaiting, IsForDesk}

-- stages

pub taking : (u : Option Ask) (stage : Stage) → unreplied_at u stage ≡ Some Step.Take → stage ≡ Stage.Taking
taking u Stage.Taking is = refl
taking None (Stage.Open n) is = absurd cc
taking (Some a) (Stage.Open n) is = absurd cc
taking u (Stage.Ending cells) is = absurd cc
taking u stage is = absurd cc

-- an ask that waits is one of the work, or the end of the context
pub data IsAsking (u : Option Ask) (stage : Stage) (a : Ask) : Type 0 where
  Working : (n : ℕ) → stage ≡ Stage.Open n → u ≡ Some a → IsAsking u stage a
  Ending : (cells : Option Cells) → stage ≡ Stage.Ending cells → a ≡ Ask.End cells → IsAsking u stage a

same-ask : (a b : Ask) → Some (Step.Ask a) ≡ Some (Step.Ask b) → a ≡ b
same-ask a b is = cc is

pub asking : (u : Option Ask) (stage : Stage) (a : Ask) → unreplied_at u stage ≡ Some (Step.Ask a) → IsAsking u stage a
asking None (Stage.Open n) a is = absurd cc
asking (Some b) (Stage.Open n) a is = let same = same-ask b a is in Working n refl (rw same refl)
asking u (Stage.Ending cells) a is = let same = same-ask (Ask.End cells) a is in Ending cells refl (rw same refl)
asking u stage a is = absurd cc

pub not-over : (u : Option Ask) (stage : Stage) (s : Step) → unreplied_at u stage ≡ Some s → over_at stage ≡ None
not-over u (Stage.Over kind) s is = absurd cc
not-over u Stage.Halted s is = absurd cc
not-over u stage s is = refl

-- steps

pub for-desk : (was now : CoreRun Run) (s : Step) → Steps ghosts was s now → over was ≡ None → s ≢ Step.Silent → IsForDesk s
for-desk was now Step.Take steps none loud = tt
for-desk was now Step.Untake steps none loud = absurd steps
for-desk was now (Step.Ask a) steps none loud = tt
for-desk was now Step.Silent steps none loud = absurd (loud refl)
for-desk was now (Step.Over kind) steps none loud = absurd (cc (steps.0, none))
for-desk was now Step.Halted steps none loud = absurd (cc (steps.0, none))

awaited-step : (s : Step) → IsForDesk s → awaited s ≡ Some s
awaited-step Step.Take for = refl
awaited-step (Step.Ask a) for = refl
awaited-step s for = absurd for

-- the run has gone on, and the desk has not
pub gone-on : (g : Config) (l : Limits) (desk : DeskState) (c : ℕ) (was now : CoreRun Run)
    → ((c : ℕ) (f : Made) (m : List Piece) → Stands ghosts was c f m → Stands ghosts now c f m) → IsGoing g l desk c was → IsGoing g l desk c now
gone-on g l desk c was now stands going =
    record {
      well_formed = going.well_formed;
      servable = going.servable;
      burst = going.burst;
      graph = going.graph;
      limits = going.limits;
      running = going.running;
      core = going.core;
      pieces = going.pieces;
      stands = stands c (record { graph = g; core = c }) going.pieces going.stands;
      own = going.own;
      current = going.current;
      ended = going.ended;
    }

pub awaiting-next : (g : Config) (l : Limits) (desk : DeskState) (c : ℕ) (was now : CoreRun Run) (s : Step) → unreplied ghosts now ≡ awaited s → IsForDesk s
    → ((c : ℕ) (f : Made) (m : List Piece) → Stands ghosts was c f m → Stands ghosts now c f m)
    → IsAwaiting None g l desk c was → IsAwaiting (Some s) g l desk c now
awaiting-next g l desk c was now s is for stands waits =
    let waited = is ∙ awaited-step s for in
    record {
      going = gone-on g l desk c was now stands waits.going;
      unreplied = waited;
      over = not-over (ghosts.unanswered (ghosts.state now.work)) now.stage s waited;
    }

-- a silent step leaves nothing to reply to
pub silent-next : (g : Config) (l : Limits) (desk : DeskState) (c : ℕ) (was now : CoreRun Run) → unreplied ghosts now ≡ None → now.stage ≡ was.stage
    → ((c : ℕ) (f : Made) (m : List Piece) → Stands ghosts was c f m → Stands ghosts now c f m)
    → IsAwaiting None g l desk c was → IsAwaiting None g l desk c now
silent-next g l desk c was now none same stands waits =
    record { going = gone-on g l desk c was now stands waits.going; unreplied = none; over = rw same waits.over }
