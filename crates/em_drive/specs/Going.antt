-- A run on its way.
use Rattle.std.specs.Prelude.{◌≡◌, ◌<◌, ◌⊎◌, ℕ, false, List, length, Option, Some, None, slice_get}
use Rattle.em_log.specs.declared.ask.Answer.{Answer}
use Rattle.em_log.specs.declared.entry.What.{What}
use Rattle.em_log.specs.declared.graph.Config.{Config}
use Rattle.em_log.specs.declared.ids.EndKind.{EndKind}
use Rattle.em_log.specs.declared.ids.Limits.{Limits}
use Rattle.em_log.specs.Answers.{Takes}
use Rattle.em_log.specs.Contexts.{context}
use Rattle.em_log.specs.Declarations.{declarations_of}
use Rattle.em_log.specs.History.{Past, part, entries_by, onto}
use Rattle.em_log.specs.Legal.{EndedFollow}
use Rattle.em_log.specs.WellFormed.{IsWellFormed}
use Rattle.em_core.specs.declared.core_run.CoreRun.{CoreRun}
use Rattle.em_core.specs.declared.core_run.Step.{Step}
use Rattle.em_core.specs.Pieces.{Piece, history, open_context, exchanges}
use Rattle.em_core.specs.Stands.{Stands}
use Rattle.em_core.specs.Steps.{unreplied, over}
use Rattle.em_body.specs.contracts.run.BodyRunWork.TheImpl.{ghosts}
use Rattle.em_body.specs.Standings.{Run}
use Rattle.em_desk.specs.State.{DeskState, IsWaited}
use Rattle.em_drive.specs.Readings.{asked_entries, IsCurrent}
use Rattle.em_drive.specs.Runs.{IsRun}
use Rattle.em_drive.specs.Servable.{IsServable}

-- core c's part of the desk's history is that of its run, which runs the bodies of this graph: the open context has followed
-- its body so far, and each that ended, of any core, has followed it to the end
pub record IsGoing (g : Config) (l : Limits) (desk : DeskState) (c : ℕ) (run : CoreRun Run) : Type 0 where
  pub well_formed : IsWellFormed g
  pub servable : IsServable g
  pub burst : l.burst ≡ 1
  pub graph : desk.declarations ≡ declarations_of g
  pub limits : desk.limits ≡ l
  pub running : desk.halted ≡ false
  pub core : c < g.cores
  pub pieces : List Piece
  pub stands : Stands ghosts run c (record { graph = g; core = c }) pieces
  pub own : history c pieces ≡ part desk.past c
  pub current : IsCurrent g desk.past c (open_context pieces) (exchanges pieces) (asked_entries pieces)
  pub ended : EndedFollow g desk.past

-- the same, and this step waits for its reply
pub record IsAwaiting (step : Option Step) (g : Config) (l : Limits) (desk : DeskState) (c : ℕ) (run : CoreRun Run) : Type 0 where
  pub going : IsGoing g l desk c run
  pub unreplied : unreplied ghosts run ≡ step
  pub over : over run ≡ None

-- each of the graph's cores has its run, and no step of them waits for its reply
pub record AreGoing (g : Config) (l : Limits) (desk : DeskState) (runs : List (CoreRun Run)) : Type 0 where
  pub count : length runs ≡ g.cores
  pub each : (c : ℕ) (run : CoreRun Run) → slice_get runs c ≡ Some run → IsAwaiting None g l desk c run

-- a step is a take or an ask
abbrev pub IsForDesk : Step → Type 0
IsForDesk Step.Take = Unit {0}
IsForDesk (Step.Ask a) = Unit {0}
IsForDesk _ = ⊥

-- the run goes on, or has ended so
abbrev pub IsAfter : Config → Limits → DeskState → ℕ → CoreRun Run → Option EndKind → Type 0
IsAfter g l desk c run None = IsAwaiting None g l desk c run
IsAfter g l desk c run (Some end) = IsRun g l desk end

-- the history has grown by entries of core c alone, if at all
abbrev pub IsGrownBy : ℕ → Past → Past → Type 0
IsGrownBy c past now = (ws : List What) × (now ≡ onto (entries_by c ws) past)

-- core c is between contexts, and its take finds nothing to do for now
pub record IsIdle (g : Config) (l : Limits) (past : Past) (c : ℕ) : Type 0 where
  pub closed : context past c ≡ None
  pub takes : Takes (declarations_of g) l false past c Answer.Idle past
  pub waited : IsWaited (declarations_of g) l past c

-- a turn of core c has added an entry, or the core is idle
abbrev pub HasTurned : Config → Limits → Past → ℕ → Past → Type 0
HasTurned g l past c now = (length past < length now) ⊎ ((now ≡ past) × IsIdle g l past c)

-- so many turns of a round in this order have added an entry, or their cores are idle
abbrev pub HasRounded : Config → Limits → Past → Past → List ℕ → ℕ → Type 0
HasRounded g l past now order n =
    (length past < length now) ⊎ ((now ≡ past) × ((i c : ℕ) → i < n → slice_get order i ≡ Some c → IsIdle g l past c))

-- how the answer to a take ends the run, if it does
abbrev pub end_in : Answer → Option EndKind
end_in Answer.Quiet = Some EndKind.Quiet
end_in Answer.Limit = Some EndKind.Limit
end_in _ = None
