-- Cores that each run a work of their own over their passes of one board.
use Rattle.std.specs.Prelude.{ℕ, ◌≡◌, ◌+◌, ◌≤◌, Bool, true, false, List, [], ◌∷◌, length, None, Some, slice_get}
use Rattle.em_log.specs.declared.graph.Config.{Config}
use Rattle.em_log.specs.declared.ids.EndKind.{EndKind}
use Rattle.em_log.specs.declared.ids.Limits.{Limits}
use Rattle.em_log.specs.declared.work.Work.{Ghosts}
use Rattle.em_log.specs.Answers.{end_of}
use Rattle.em_log.specs.Declarations.{declarations_of}
use Rattle.em_log.specs.Lawful.{Lawful}
use Rattle.em_log.specs.WellFormed.{IsWellFormed}
use Rattle.em_laws.specs.AllLaws.{KeepsLaws}
use Rattle.em_desk.specs.State.{DeskState}
use Rattle.em_turn.specs.Seats.{TableId}
use Rattle.em_board.specs.Passes.{PassView, passes_from}
use Rattle.em_board.specs.SharedDesks.{fixed_of}
use Rattle.em_drive.specs.declared.driver.CoreEnd.{CoreEnd}
use Rattle.em_drive.specs.declared.driver.Turned.{Turned}
use Rattle.em_drive.specs.declared.workers.Came.{Came}
use Rattle.em_drive.specs.declared.workers.Ends.{Ends}
use Rattle.em_drive.specs.declared.workers.Plan.{Plan}
use Rattle.em_drive.specs.declared.workers.Worker.{Worker}
use Rattle.em_drive.specs.Driven.{EachWorked, HasEnded, IsDone, IsDriven, IsFitWork}

-- passes and workers

-- what the cores of these passes weigh, added up
abbrev pub weigh : (ℕ → ℕ) → List PassView → ℕ
weigh h [] = 0
weigh h (p ∷ ps) = h p.core + weigh h ps

-- what the cores of these workers weigh, added up
abbrev pub weigh_workers : {W : Type 0} → (ℕ → ℕ) → List (Worker W) → ℕ
weigh_workers h [] = 0
weigh_workers h (w ∷ ws) = h w.core.0 + weigh_workers h ws

-- a pass of each core of the graph, as a board gives them at first
abbrev pub first_passes : TableId → Config → Limits → List PassView
first_passes board g l = passes_from board (fixed_of (declarations_of g) l) 0 g.cores

abbrev pub is_over : CoreEnd → Bool
is_over (CoreEnd.Over end) = true
is_over end = false

module _ {W : Type 0} (k : Ghosts W) where
  -- the work of core c makes no ask but fit ones
  abbrev pub AreFit : Config → List W → Type 0
  AreFit g works = (c : ℕ) (work : W) → slice_get works c ≡ Some work → IsFitWork k (k.fixed work) g c

  -- in each context of its core that has ended, each of these works came to its end
  abbrev pub AllWorked : Config → List W → DeskState → Type 0
  AllWorked g works desk = (c : ℕ) (work : W) → slice_get works c ≡ Some work → EachWorked k (k.fixed work) g c desk.past

  -- the desk's history is a lawful one of this graph under these limits, keeps the laws of all histories, and has ended so,
  -- and in it each core's contexts follow its work
  pub record IsWorkedRun (g : Config) (l : Limits) (works : List W) (desk : DeskState) (end : EndKind) : Type 0 where
    pub graph : desk.declarations ≡ declarations_of g
    pub limits : desk.limits ≡ l
    pub lawful : Lawful (declarations_of g) l desk.past
    pub laws : KeepsLaws (declarations_of g) desk.past
    pub worked : AllWorked g works desk
    pub ended : end_of (declarations_of g) l desk.past ≡ Some end

  -- what a run may be of
  pub record IsPlanned (plan : Plan W) : Type 0 where
    pub well_formed : IsWellFormed plan.config.value
    pub burst : plan.limits.burst ≡ 1
    pub count : length plan.works.value.items ≡ plan.config.value.cores
    pub fit : AreFit plan.config.value plan.works.value.items

  -- on the way

  module _ (plan : Plan W) (board : TableId) where
    -- the worker is of this board, and its run goes on, with the work of its core
    pub record IsAtWork (w : Worker W) : Type 0 where
      pub here : w.pass.board ≡ board
      pub core : w.pass.core ≡ w.core.0
      pub work : W
      pub planned : slice_get plan.works.value.items w.core.0 ≡ Some work
      pub driven : IsDriven k None (k.fixed work) plan.config.value plan.limits w.pass w.run

    abbrev pub AreAtWork : List (Worker W) → Type 0
    AreAtWork [] = Unit {0}
    AreAtWork (w ∷ ws) = IsAtWork w × AreAtWork ws

    -- so the pass of a core has ended
    pub record IsEnded (p : PassView) (end : CoreEnd) : Type 0 where
      pub here : p.board ≡ board
      pub fixed : p.fixed ≡ fixed_of (declarations_of plan.config.value) plan.limits
      pub work : W
      pub planned : slice_get plan.works.value.items p.core ≡ Some work
      pub ended : HasEnded k (k.fixed work) plan.config.value plan.limits p end

    -- what a turn leaves of the worker: it goes on, or its core has ended so
    abbrev pub IsTurned : Worker W → Turned → Type 0
    IsTurned w (Turned.Ended end) = IsEnded w.pass end
    IsTurned w t = IsAtWork w

    -- what the thread of core c may hand on
    abbrev pub IsCame : ℕ → Came W → Type 0
    IsCame c (Came.Ended p end) = (p.core ≡ c) × IsEnded p end
    IsCame c (Came.Untouched w) = (w.core.0 ≡ c) × IsAtWork w

    -- the pass of a core whose work is done
    pub record IsOver (p : PassView) : Type 0 where
      pub here : p.board ≡ board
      pub fixed : p.fixed ≡ fixed_of (declarations_of plan.config.value) plan.limits
      pub work : W
      pub planned : slice_get plan.works.value.items p.core ≡ Some work
      pub end : EndKind
      pub done : IsDone k (k.fixed work) plan.config.value plan.limits p end

    abbrev pub AreOver : List PassView → Type 0
    AreOver [] = Unit {0}
    AreOver (p ∷ ps) = IsOver p × AreOver ps

    -- one worker for each core, which may run, however cores are weighed
    pub record AreReady (ws : List (Worker W)) : Type 0 where
      pub at_work : AreAtWork ws
      pub count : length ws ≡ plan.config.value.cores
      pub cores : (h : ℕ → ℕ) → weigh_workers h ws ≡ weigh h (first_passes board plan.config.value plan.limits)

    -- these workers may run, besides those that have ended
    pub record CanRun (ws : List (Worker W)) (ends : Ends) : Type 0 where
      pub at_work : AreAtWork ws
      pub over : ends.over ≡ true → AreOver ends.passes
      pub room : length ws + length ends.passes ≤ plan.config.value.cores

    -- they have run and ended, too
    pub record HaveRun (ws : List (Worker W)) (ends now : Ends) : Type 0 where
      pub over : now.over ≡ true → AreOver now.passes
      pub cores : (h : ℕ → ℕ) → weigh h now.passes ≡ weigh_workers h ws + weigh h ends.passes

    -- what the thread of core c has handed on was taken in
    pub record IsSettled (c : ℕ) (ends now : Ends) : Type 0 where
      pub over : (ends.over ≡ true → AreOver ends.passes) → now.over ≡ true → AreOver now.passes
      pub cores : (h : ℕ → ℕ) → weigh h now.passes ≡ weigh h ends.passes + h c

    -- the same, where its worker may be one of those that are to run here
    pub record IsSetAside (c : ℕ) (here now : List (Worker W)) (ends left : Ends) : Type 0 where
      pub can : CanRun now left
      pub cores : (h : ℕ → ℕ) → weigh_workers h now + weigh h left.passes ≡ weigh_workers h here + weigh h ends.passes + h c
