-- A work whose asks stand from the start, and the list of a core that runs it in a receive.
use Rattle.std.specs.Prelude.{ℕ, zero, suc, ◌≡◌, ◌==◌, Bool, true, false, nat_lt, List, [], ◌∷◌, Option, Some, None, IsTrue, unwrap_or, if◌then◌else◌}
use Rattle.em_log.specs.declared.ask.Answer.{Answer}
use Rattle.em_log.specs.declared.ask.Ask.{Ask}
use Rattle.em_log.specs.declared.ask.Context.{Context}
use Rattle.em_log.specs.declared.declarations.Declarations.{Declarations}
use Rattle.em_log.specs.declared.declarations.QueueShape.{QueueShape}
use Rattle.em_log.specs.declared.entry.Body.{Body}
use Rattle.em_log.specs.declared.entry.Event.{Event}
use Rattle.em_log.specs.declared.entry.What.{What}
use Rattle.em_log.specs.declared.fault.Call.{Call}
use Rattle.em_log.specs.declared.fault.Fault.{Fault}
use Rattle.em_log.specs.declared.ids.Cells.{Cells}
use Rattle.em_log.specs.declared.ids.Kind.{Kind}
use Rattle.em_log.specs.History.{Past, entry_by}
use Rattle.em_log.specs.declared.work.Move.{Move}
use Rattle.em_log.specs.declared.work.Work.{Ghosts}
use Rattle.em_log.specs.Works.{asked, asks_no_end}
use Rattle.em_core.specs.declared.core_run.CoreRun.{CoreRun}
use Rattle.em_core.specs.Pieces.{Piece}
use Rattle.em_core.specs.Stands.{Stands}
use Rattle.em_core.specs.Steps.{unreplied}

-- the work

-- the line at which the work stands, whether its ask is unanswered, and the cells of its context
pub record Place : Type 0 where
  pub line : ℕ
  pub waits : Bool
  pub cells : Option Cells

abbrev pub no_cells : Cells
no_cells = record { 0 = 0 ∷ 0 ∷ 0 ∷ 0 ∷ 0 ∷ 0 ∷ 0 ∷ 0 ∷ [] }

-- the asks, each at its line
abbrev pub ask_at : ℕ → Option Cells → Option Ask
ask_at (suc zero) cells = Some (Ask.Dequeue (record { 0 = 1 }))
ask_at (suc (suc zero)) cells = Some (Ask.Free 65537)
ask_at (suc (suc (suc zero))) cells = Some Ask.Claim
ask_at (suc (suc (suc (suc zero)))) cells = Some (Ask.Free 5)
ask_at (suc (suc (suc (suc (suc zero))))) cells = Some (Ask.EndAtomic (unwrap_or cells no_cells))
ask_at (suc (suc (suc (suc (suc (suc zero)))))) cells = Some Ask.Cell
ask_at _ cells = None

abbrev pub unanswered_at : ℕ → Option Cells → Bool → Option Ask
unanswered_at n cells false = None
unanswered_at n cells true = ask_at n cells

abbrev pub unanswered_in : Place → Option Ask
unanswered_in s = unanswered_at s.line s.cells s.waits

abbrev pub cells_of : Context → Option Cells
cells_of (Context.Receive r) = r.cells
cells_of k = None

-- a receive of another queue than the first ends at once
abbrev pub first_line : Context → ℕ
first_line (Context.Receive r) = if nat_lt 0 r.queue.0 then 7 else 0
first_line k = 0

abbrev pub BeginsAt : Unit {0} → Context → Place → Type 0
BeginsAt f k s = (s.line ≡ first_line k) × (s.waits ≡ false) × (s.cells ≡ cells_of k)

pub record MovesTo (f : Unit {0}) (s : Place) (m : Move) (t : Place) : Type 0 where
  pub no_end : IsTrue (asks_no_end m)
  pub asks : unanswered_in t ≡ asked m
  pub cells : t.cells ≡ s.cells

-- the early end takes the cells away
abbrev pub LeavesAt : Unit {0} → Place → Answer → Place → Type 0
LeavesAt f s x t = (t.waits ≡ false) × (t.cells ≡ (if s.line == 5 then None else s.cells))

-- the list

-- the run stands for this list, and each of its steps so far has its reply
pub record IsReady {W : Type 0} (k : Ghosts W) (run : CoreRun W) (m : List Piece) : Type 0 where
  pub fixed : k.Fixed
  pub stands : Stands k run 0 fixed m
  pub replied : unreplied k run ≡ None

-- the same of some list
abbrev pub IsGoing : {W : Type 0} → Ghosts W → CoreRun W → Type 0
IsGoing k run = (m : List Piece) × IsReady k run m

abbrev pub eight : Option Cells
eight = Some (record { 0 = 1 ∷ 2 ∷ 3 ∷ 4 ∷ 5 ∷ 6 ∷ 7 ∷ 8 ∷ [] })

abbrev pub event_at : ℕ → ℕ → Event
event_at h kind = record { handle = record { 0 = h }; kind = kind; words = [] }

abbrev pub receive_of : ℕ → Context
receive_of q =
    Context.Receive (record {
      queue = record { 0 = q };
      eo = record { 0 = 0 };
      event = event_at 65537 7;
      stamp = None;
      ticket = None;
      cells = eight;
      rest = [];
    })

abbrev pub received : List Piece
received = Piece.Opened (receive_of 0) ∷ []

abbrev pub dequeued : List Piece
dequeued =
    Piece.Answered (What.Dequeue (record { 0 = 1 }) (Some (event_at 131072 3))) [] (Ask.Dequeue (record { 0 = 1 })) (Answer.Minted (event_at 131072 3)) ∷ received

abbrev pub freed : List Piece
freed = Piece.Answered (What.Free (record { 0 = 65537 })) [] (Ask.Free 65537) Answer.Done ∷ dequeued

abbrev pub claimed : List Piece
claimed = Piece.Answered (What.Claim None) [] Ask.Claim Answer.Nothing ∷ freed

abbrev pub refused : List Piece
refused =
    Piece.Answered (What.Fault Call.Free (Fault.NeverMinted 5) None) [] (Ask.Free 5) (Answer.Refused (Fault.NeverMinted 5)) ∷ claimed

abbrev pub left_early : Cells → List Piece
left_early cells = Piece.Answered (What.EndAtomic 0 cells) [] (Ask.EndAtomic cells) Answer.Done ∷ refused

-- a history in which an event waits in an unscheduled queue

abbrev pub queue_of : Kind → QueueShape
queue_of kind = record { kind = kind; eo = None; priority = None; group = None; agroup = None }

abbrev pub shapes : Declarations
shapes =
    record {
      cores = 1;
      pools = record { events = 1; words = 0 } ∷ [];
      groups = [];
      running = [];
      agroups = [];
      queues = queue_of Kind.Atomic ∷ queue_of Kind.Unscheduled ∷ [];
      egroups = 0;
    }

abbrev pub one_waits : Past
one_waits =
    entry_by 0 (What.Send (record { 0 = 65536 }) (record { 0 = 1 }) None None)
    ∷ entry_by 0 (What.Alloc (record { 0 = 0 }) (event_at 65536 3)) ∷ entry_by 0 (What.Enter Body.Boot) ∷ []

-- one in which core 0 has received an event, and holds an atomic context
abbrev pub one_started : Past
one_started =
    entry_by 0 (What.Start (record { 0 = 0 }) (event_at 65537 7) None)
    ∷ entry_by 0 (What.Take (record { 0 = 0 }) 1 None) ∷ []
