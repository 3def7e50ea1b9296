-- How a body is followed: each ask, the entry that answers it, and the environment that this leaves.
use mathlib.Core.Former.{Count}
use Rattle.std.specs.Prelude.{ℕ, zero, suc, ◌%◌, ◌^◌, List, [], ◌∷◌, ◌++◌, Option, Some, None, slice_set}
use Rattle.em_log.specs.declared.body.Expr.{Expr}
use Rattle.em_log.specs.declared.body.Stmt.{Stmt}
use Rattle.em_log.specs.declared.body.Stmt.TheBlock.{Row_of-Stmt, end_of-Stmt, more_of-Stmt}
use Rattle.em_log.specs.declared.ask.Ask.{Ask}
use Rattle.em_log.specs.declared.entry.What.{What}
use Rattle.em_log.specs.declared.entry.Event.{Event}
use Rattle.em_log.specs.declared.fault.Fault.{Fault}
use Rattle.em_log.specs.declared.ids.Note.{Note}
use Rattle.em_log.specs.declared.ids.QueueId.{QueueId}
use Rattle.em_log.specs.declared.ids.Cells.{Cells}
use Rattle.em_log.specs.Expressions.{Env, value, values, with_var, no_vars, fault_number, fault_detail}

-- an ask and its entry
pub record Pair : Type 0 where
  pub ask : Ask
  pub what : What

-- how far a body has gone: the pairs so far, the entries that are left, and the environment, or none where it is cut
pub record Reading : Type 0 where
  pub pairs : List Pair
  pub rest : List What
  pub env : Option Env

abbrev pub stays : Env → List What → Reading
stays v ws = record { pairs = []; rest = ws; env = Some v }

abbrev pub cut : Reading
cut = record { pairs = []; rest = []; env = None }

-- statements, as they are followed from an environment along the entries that answer their asks
abbrev pub Behavior : Type 0
Behavior = Env → List What → Reading

abbrev pub with_pairs : List Pair → Reading → Reading
with_pairs ps r = record { pairs = ps ++ r.pairs; rest = r.rest; env = r.env }

abbrev pub continued : Reading → Option Env → Behavior → Reading
continued r None next = r
continued r (Some v) next = with_pairs r.pairs (next v r.rest)

abbrev pub and_then : Reading → Behavior → Reading
and_then r next = continued r r.env next

abbrev pub turns : ℕ → Behavior → Behavior
turns zero body v ws = stays v ws
turns (suc n) body v ws = and_then (body v ws) (turns n body)

abbrev pub branch : ℕ → Behavior → Behavior → Behavior
branch zero yes' no' = no'
branch (suc n) yes' no' = yes'

-- the variable that a statement sets, if it does
abbrev pub variable : Stmt → Option ℕ
variable (Stmt.Alloc v p a ws) = Some v
variable (Stmt.Claim v) = Some v
variable (Stmt.Dequeue v q) = Some v
variable _ = None

abbrev pub set_in : Option ℕ → ℕ → Env → Env
set_in None n v = v
set_in (Some i) n v = with_var i n v

abbrev pub event_env : Option ℕ → Option Event → Env → Env
event_env i None v = set_in i 0 v
event_env i (Some e) v = set_in i e.handle.0 (record v { event = record { kind = e.kind; words = e.words } })

-- what an accepted ask leaves
abbrev pub accepted : Option ℕ → What → Env → Env
accepted i (What.Alloc p e) v = set_in i e.handle.0 v
accepted i (What.Claim e) v = event_env i e v
accepted i (What.Dequeue q e) v = event_env i e v
accepted i (What.EndAtomic rest cells) v = record v { cells = None }
accepted i w v = v

-- what serves a fault: a body for its environment
abbrev pub Handler : Type 0
Handler = Fault → Behavior

-- after the error body: the event and the cells come back
abbrev pub back : Option ℕ → Env → Reading → Option Env → Reading
back i v r None = r
back i v r (Some u) = record { pairs = r.pairs; rest = r.rest; env = Some (set_in i 0 (record v { event = u.event; cells = u.cells; ok = 0 })) }

abbrev pub served : Option ℕ → Env → Reading → Reading
served i v r = back i v r r.env

-- one ask, and the entry that answers it
abbrev pub answered : Handler → Ask → Option ℕ → Env → What → List What → Reading
answered h a i v (What.Fault c f s) ws = with_pairs (record { ask = a; what = What.Fault c f s } ∷ []) (served i v (h f v ws))
answered h a i v w ws = with_pairs (record { ask = a; what = w } ∷ []) (stays (record (accepted i w v) { ok = 1 }) ws)

abbrev pub asks : Handler → Ask → Option ℕ → Behavior
asks h a i v [] = cut
asks h a i v (w ∷ ws) = answered h a i v w ws

abbrev pub notes_in : List (Expr × QueueId) → Env → List Note
notes_in [] v = []
notes_in (n ∷ ns) v = record { word = value n.0 v; queue = n.1 } ∷ notes_in ns v

abbrev pub zeros_or : Option (List ℕ) → Cells
zeros_or None = record { 0 = 0 ∷ 0 ∷ 0 ∷ 0 ∷ 0 ∷ 0 ∷ 0 ∷ 0 ∷ [] }
zeros_or (Some cs) = record { 0 = cs }

-- the ask that a statement makes, where it makes one
abbrev pub ask_of : Stmt → Env → Ask
ask_of (Stmt.Say e) v = Ask.Say (value e v)
ask_of (Stmt.Alloc i p e ws) v = Ask.Alloc p (value e v % 2 ^ 32) (values ws v)
ask_of (Stmt.Free e) v = Ask.Free (value e v)
ask_of (Stmt.Keep e) v = Ask.Keep (value e v)
ask_of (Stmt.Send e q) v = Ask.Send (value e v) q None
ask_of (Stmt.SendG e q g) v = Ask.Send (value e v) q (Some g)
ask_of (Stmt.Claim i) v = Ask.Claim
ask_of (Stmt.Dequeue i q) v = Ask.Dequeue q
ask_of (Stmt.Enable q) v = Ask.Enable q
ask_of (Stmt.Disable q) v = Ask.Disable q
ask_of Stmt.EndAtomic v = Ask.EndAtomic (zeros_or v.cells)
ask_of Stmt.EndOrdered v = Ask.EndOrdered
ask_of Stmt.EndGroup v = Ask.EndGroup
ask_of (Stmt.Apply g e ns) v = Ask.Apply g (value e v) (notes_in ns v)
ask_of (Stmt.Increment e) v = Ask.Increment (value e v)
ask_of (Stmt.Abort g) v = Ask.Abort g
ask_of (Stmt.Start x ns) v = Ask.Start x (notes_in ns v)
ask_of (Stmt.Stop x ns) v = Ask.Stop x (notes_in ns v)
ask_of (Stmt.Modify g e ns) v = Ask.Modify g (value e v) (notes_in ns v)
ask_of Stmt.Fail v = Ask.Fail
ask_of _ v = Ask.Cell

-- a cell write: silent while there are cells, else an ask
abbrev pub writes : Handler → ℕ → ℕ → Env → Option (List ℕ) → List What → Reading
writes h i n v None ws = asks h Ask.Cell None v ws
writes h i n v (Some cs) ws = stays (record v { cells = Some (slice_set cs (i % 8) n) }) ws

-- a statement, and the statements of a block one after another
abbrev mutual
  pub follow : Handler → Stmt → Env → List What → Reading
  follow h (Stmt.Set i e) v ws = stays (with_var i (value e v) v) ws
  follow h (Stmt.If' t _ b _ b' _) v ws = branch (value t v) (follow_row h b) (follow_row h b') v ws
  follow h (Stmt.Repeat' n _ b) v ws = turns n (follow_row h b) v ws
  follow h (Stmt.CellWrite c e) v ws = writes h (value c v) (value e v) v v.cells ws
  follow h s v ws = asks h (ask_of s v) (variable s) v ws

  pub follow_row : {n : Count} → Handler → Row_of-Stmt n → Env → List What → Reading
  follow_row h end_of-Stmt v ws = stays v ws
  follow_row h (more_of-Stmt s ss) v ws = and_then (follow h s v ws) (follow_row h ss)

-- a body: its statements one after another
abbrev pub follow_all : Handler → List Stmt → Behavior
follow_all h [] v ws = stays v ws
follow_all h (s ∷ ss) v ws = and_then (follow h s v ws) (follow_all h ss)

-- inside an error body a fault runs none
abbrev pub unserved : Handler
unserved f v ws = stays v ws

abbrev pub error_env : Fault → Env → Env
error_env f v = record v { vars = no_vars; ok = 1; fault = fault_number f; detail = fault_detail f }

-- a fault is served by the error body, where there is one
abbrev pub serves : Option (List Stmt) → Handler
serves None f v ws = stays v ws
serves (Some b) f v ws = follow_all unserved b (error_env f v) ws
