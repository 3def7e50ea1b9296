-- The environment of a body, the values of expressions, and faults as numbers.
use Rattle.std.specs.Prelude.{ℕ, ◌+◌, ◌-◌, ◌*◌, ◌/◌, ◌%◌, ◌^◌, ◌==◌, Bool, true, false, nat_lt, List, [], ◌∷◌, length, Option, Some, None, slice_index, slice_set, bit_and, bit_or, bit_xor, replicate}
use Rattle.em_log.specs.declared.body.Expr.{Expr}
use Rattle.em_log.specs.declared.body.Expr.TheBlock.{end_of-Expr, more_of-Expr}
use Rattle.em_log.specs.declared.fault.Fault.{Fault}
use Rattle.em_log.specs.declared.ids.Kind.{Kind}
use Rattle.em_log.specs.declared.ids.EoState.{EoState}

-- the kind and words of the current event
pub record Current : Type 0 where
  pub kind : ℕ
  pub words : List ℕ

-- what a body's statements see: its variables, the current event, the received handle and queue, the core, the
-- cells where the context holds an atomic context, whether the last ask was accepted, and in an error body its fault
pub record Env : Type 0 where
  pub vars : List ℕ
  pub event : Current
  pub me : ℕ
  pub queue : ℕ
  pub core : ℕ
  pub cells : Option (List ℕ)
  pub ok : ℕ
  pub fault : ℕ
  pub detail : ℕ

abbrev pub no_event : Current
no_event = record { kind = 0; words = [] }

abbrev pub no_vars : List ℕ
no_vars = replicate 16 0

-- the kinds, states and faults as numbers, and the detail of a fault

abbrev pub kind_number : Kind → ℕ
kind_number Kind.Atomic = 0
kind_number Kind.Parallel = 1
kind_number Kind.Ordered = 2
kind_number Kind.Local = 3
kind_number Kind.Unscheduled = 4
kind_number Kind.Output = 5

abbrev pub state_number : EoState → ℕ
state_number EoState.Created = 0
state_number EoState.Starting = 1
state_number EoState.Running = 2
state_number EoState.Stopping = 3

abbrev pub fault_number : Fault → ℕ
fault_number (Fault.NeverMinted w) = 1
fault_number (Fault.SpentBySend p) = 2
fault_number (Fault.SpentByFree p) = 3
fault_number (Fault.HeldElsewhere c) = 4
fault_number (Fault.QueueClosed n) = 5
fault_number (Fault.WrongKind n) = 6
fault_number Fault.NotAtomic = 7
fault_number Fault.NotOrdered = 8
fault_number Fault.NoGroup = 9
fault_number (Fault.GroupBusy n) = 10
fault_number (Fault.GroupIdle g) = 11
fault_number (Fault.OpPending o) = 12
fault_number (Fault.EoState s) = 13
fault_number (Fault.BadMask m) = 14
fault_number (Fault.PoolEmpty n) = 15
fault_number (Fault.BadSize n) = 16
fault_number (Fault.NoteLost q) = 17
fault_number (Fault.BadCount n) = 18
fault_number (Fault.StartFailed o) = 19
fault_number (Fault.OpsSpent n) = 20

abbrev pub fault_detail : Fault → ℕ
fault_detail (Fault.NeverMinted w) = w
fault_detail (Fault.SpentBySend p) = p
fault_detail (Fault.SpentByFree p) = p
fault_detail (Fault.HeldElsewhere c) = c.0
fault_detail (Fault.QueueClosed n) = n
fault_detail (Fault.WrongKind n) = kind_number n
fault_detail Fault.NotAtomic = 0
fault_detail Fault.NotOrdered = 0
fault_detail Fault.NoGroup = 0
fault_detail (Fault.GroupBusy n) = n
fault_detail (Fault.GroupIdle g) = g.0
fault_detail (Fault.OpPending o) = o.0
fault_detail (Fault.EoState s) = state_number s
fault_detail (Fault.BadMask m) = m
fault_detail (Fault.PoolEmpty n) = n
fault_detail (Fault.BadSize n) = n
fault_detail (Fault.NoteLost q) = q.0
fault_detail (Fault.BadCount n) = n
fault_detail (Fault.StartFailed o) = o.0
fault_detail (Fault.OpsSpent n) = n

-- the cell of this number modulo 8, or 0 where there are none
abbrev pub cell_at : Option (List ℕ) → ℕ → ℕ
cell_at None i = 0
cell_at (Some cs) i = slice_index cs (i % 8)

abbrev pub truth : Bool → ℕ
truth true = 1
truth false = 0

-- a number kept in 64 bits
abbrev pub wrapped : ℕ → ℕ
wrapped n = n % 2 ^ 64

-- the value of an expression
abbrev pub value : Expr → Env → ℕ
value (Expr.Number n) v = n
value (Expr.Var i) v = slice_index v.vars i
value Expr.Kind v = v.event.kind
value Expr.Size v = length v.event.words
value (Expr.Word' _ (more_of-Expr e end_of-Expr)) v = slice_index v.event.words (value e v)
value Expr.Me v = v.me
value Expr.Queue v = v.queue
value Expr.Core v = v.core
value (Expr.Cell' _ (more_of-Expr e end_of-Expr)) v = cell_at v.cells (value e v)
value Expr.LastOk v = v.ok
value Expr.FaultNumber v = v.fault
value Expr.Detail v = v.detail
value (Expr.Add' _ (more_of-Expr a end_of-Expr) _ (more_of-Expr b end_of-Expr)) v = wrapped (value a v + value b v)
value (Expr.Sub' _ (more_of-Expr a end_of-Expr) _ (more_of-Expr b end_of-Expr)) v = wrapped (value a v + (2 ^ 64 - value b v))
value (Expr.Mul' _ (more_of-Expr a end_of-Expr) _ (more_of-Expr b end_of-Expr)) v = wrapped (value a v * value b v)
value (Expr.And' _ (more_of-Expr a end_of-Expr) _ (more_of-Expr b end_of-Expr)) v = bit_and (value a v) (value b v)
value (Expr.Or' _ (more_of-Expr a end_of-Expr) _ (more_of-Expr b end_of-Expr)) v = bit_or (value a v) (value b v)
value (Expr.Xor' _ (more_of-Expr a end_of-Expr) _ (more_of-Expr b end_of-Expr)) v = bit_xor (value a v) (value b v)
value (Expr.Shr' _ (more_of-Expr a end_of-Expr) _ (more_of-Expr b end_of-Expr)) v = value a v / 2 ^ (value b v % 64)
value (Expr.Lt' _ (more_of-Expr a end_of-Expr) _ (more_of-Expr b end_of-Expr)) v = truth (nat_lt (value a v) (value b v))
value (Expr.Eq' _ (more_of-Expr a end_of-Expr) _ (more_of-Expr b end_of-Expr)) v = truth (value a v == value b v)

abbrev pub values : List Expr → Env → List ℕ
values [] v = []
values (e ∷ es) v = value e v ∷ values es v

abbrev pub with_var : ℕ → ℕ → Env → Env
with_var i n v = record v { vars = slice_set v.vars i n }
