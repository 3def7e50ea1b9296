-- A core that runs a work over its pass.
use Rattle.std.specs.Prelude.{ℕ, ◌≡◌, ◌+◌, ◌≤◌, true, List, [], ◌∷◌, Option, Some, None, IsTrue, is_some}
use Rattle.std.specs.List.{sum_by}
use Rattle.em_log.specs.declared.ask.Answer.{Answer}
use Rattle.em_log.specs.declared.ask.Ask.{Ask}
use Rattle.em_log.specs.declared.ask.Context.{Context}
use Rattle.em_log.specs.declared.entry.What.{What}
use Rattle.em_log.specs.declared.graph.Config.{Config}
use Rattle.em_log.specs.declared.ids.Cells.{Cells}
use Rattle.em_log.specs.declared.ids.EndKind.{EndKind}
use Rattle.em_log.specs.declared.ids.Limits.{Limits}
use Rattle.em_log.specs.declared.work.Work.{Ghosts}
use Rattle.em_log.specs.Allowance.{allowance, cost_of_ask}
use Rattle.em_log.specs.Answers.{end_of}
use Rattle.em_log.specs.Declarations.{declarations_of}
use Rattle.em_log.specs.History.{Past, part}
use Rattle.em_log.specs.Lawful.{Lawful, is_declared, is_placed}
use Rattle.em_log.specs.WellFormed.{IsWellFormed}
use Rattle.em_log.specs.Works.{Exchange}
use Rattle.em_core.specs.declared.core_run.CoreRun.{CoreRun}
use Rattle.em_core.specs.declared.core_run.Step.{Step}
use Rattle.em_core.specs.Pieces.{Piece, begun_by, history, open_context, exchanges}
use Rattle.em_core.specs.Stands.{Stands, IsReached, IsOver}
use Rattle.em_core.specs.Steps.{unreplied, over}
use Rattle.em_desk.specs.Served.{served}
use Rattle.em_board.specs.Marked as board
use Rattle.em_board.specs.Passes.{PassView}
use Rattle.em_board.specs.SharedDesks.{fixed_of}
use Rattle.em_drive.specs.declared.driver.CoreEnd.{CoreEnd}
use Rattle.em_drive.specs.declared.driver.Turned.{Turned}
use Rattle.em_drive.specs.Readings.{asked_entries, has_cells, IsCurrent, IsReading}

-- what a work may ask

-- core c may make this ask in this context, after these exchanges
pub record IsFit (g : Config) (c : ℕ) (context : Context) (es : List Exchange) (a : Ask) : Type 0 where
  pub declared : IsTrue (is_declared (declarations_of g) a)
  pub placed : (atomic : Option ℕ) → is_some atomic ≡ has_cells c context es → IsTrue (is_placed (Some (begun_by context)) atomic a)
  pub within : sum_by (λ x. cost_of_ask x.ask) es + cost_of_ask a ≤ allowance
  pub served : IsTrue (served (declarations_of g) a)

-- the pass is of a board over this graph under these limits, and has seen a lawful history
pub record IsOfGraph (g : Config) (l : Limits) (p : PassView) : Type 0 where
  pub well_formed : IsWellFormed g
  pub burst : l.burst ≡ 1
  pub fixed : p.fixed ≡ fixed_of (declarations_of g) l
  pub lawful : Lawful (declarations_of g) l (board.history p.seen)

module _ {W : Type 0} (k : Ghosts W) where
  -- a work of core c, made with f, makes no ask but such ones, and ends with cells exactly where its context has them
  pub record IsFitWork (f : k.Fixed) (g : Config) (c : ℕ) : Type 0 where
    pub asks : (context : Context) (es : List Exchange) (now : k.State) (a : Ask)
        → IsReached k f context es now → k.unanswered now ≡ Some a → IsFit g c context es a
    pub ends : (context : Context) (es : List Exchange) (now : k.State) (cells : Option Cells)
        → IsOver k f (Some context) es now cells → is_some cells ≡ has_cells c context es

  -- contexts that have ended

  -- core c's open context is this one, its asks gave these entries, and the work has come to its end by them, with these cells
  pub record IsWorked (f : k.Fixed) (g : Config) (past : Past) (c : ℕ) (cells : Option Cells) : Type 0 where
    pub context : Context
    pub exchanges : List Exchange
    pub entries : List What
    pub now : k.State
    pub reading : IsReading g past c context exchanges entries
    pub ends : IsOver k f (Some context) exchanges now cells

  abbrev pub EndIsWorked : k.Fixed → Config → Past → ℕ → What → Type 0
  EndIsWorked f g past c (What.End lost cells) = IsWorked f g past c cells
  EndIsWorked f g past c w = Unit {0}

  -- in each context of core c that has ended, the work came to its end
  abbrev pub EachWorked : k.Fixed → Config → ℕ → Past → Type 0
  EachWorked f g c [] = Unit {0}
  EachWorked f g c (e ∷ past) = (e.core.0 ≡ c → EndIsWorked f g past c e.what) × EachWorked f g c past

  -- on the way

  -- core c's part of the history is that of its run, whose work was made with f
  pub record IsWorking (f : k.Fixed) (g : Config) (past : Past) (c : ℕ) (run : CoreRun W) : Type 0 where
    pub pieces : List Piece
    pub stands : Stands k run c f pieces
    pub own : history c pieces ≡ part past c
    pub current : IsCurrent g past c (open_context pieces) (exchanges pieces) (asked_entries pieces)
    pub worked : EachWorked f g c past

  -- the run of the pass's core goes on, and this step waits for its reply
  pub record IsDriven (step : Option Step) (f : k.Fixed) (g : Config) (l : Limits) (p : PassView) (run : CoreRun W) : Type 0 where
    pub graph : IsOfGraph g l p
    pub fit : IsFitWork f g p.core
    pub working : IsWorking f g (board.history p.seen) p.core run
    pub unreplied : unreplied k run ≡ step
    pub over : over run ≡ None

  -- in each context of the pass's core that has ended the work came to its end, and what the pass has seen has ended so
  pub record IsDone (f : k.Fixed) (g : Config) (l : Limits) (p : PassView) (end : EndKind) : Type 0 where
    pub graph : IsOfGraph g l p
    pub worked : EachWorked f g p.core (board.history p.seen)
    pub ended : end_of (declarations_of g) l (board.history p.seen) ≡ Some end

  -- so a run ends; else the pass has seen the mark of a halt
  abbrev pub HasEnded : k.Fixed → Config → Limits → PassView → CoreEnd → Type 0
  HasEnded f g l p (CoreEnd.Over end) = IsDone f g l p end
  HasEnded f g l p e = board.is_marked p.seen ≡ true

  abbrev pub IsAfterTurn : k.Fixed → Config → Limits → PassView → CoreRun W → Turned → Type 0
  IsAfterTurn f g l p run (Turned.Ended e) = HasEnded f g l p e
  IsAfterTurn f g l p run t = IsDriven None f g l p run

-- the answer to a take

abbrev pub turned_by : Answer → Turned
turned_by Answer.Idle = Turned.Idle
turned_by Answer.Quiet = Turned.Ended (CoreEnd.Over EndKind.Quiet)
turned_by Answer.Limit = Turned.Ended (CoreEnd.Over EndKind.Limit)
turned_by Answer.Halted = Turned.Ended CoreEnd.Halted
turned_by x = Turned.On

-- the pass is the same core's, of the same board
pub record IsSamePass (old new : PassView) : Type 0 where
  pub board : new.board ≡ old.board
  pub core : new.core ≡ old.core
  pub fixed : new.fixed ≡ old.fixed
