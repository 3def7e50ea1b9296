-- What the steps of operations tell as the history does.
use Rattle.std.specs.Prelude.{ℕ, ◌≡◌, ◌==◌, Bool, true, false, ◌||◌, List, [], ◌∷◌, is_none, is_some}
use Rattle.std.specs.List.{list_all}
use Rattle.std.specs.Option.{option_map, option_or, option_and_then}
use Rattle.em_log.specs.declared.declarations.Declarations.{Declarations}
use Rattle.em_log.specs.declared.entry.Entry.{Entry}
use Rattle.em_log.specs.declared.entry.What.{What}
use Rattle.em_log.specs.History.{Past}
use Rattle.em_log.specs.Declarations.{below}
use Rattle.em_log.specs.Lawful.{due}
use Rattle.em_log.specs.Leads.{pending_fault, operations_fault}
use Rattle.em_log.specs.Operations as log
use Rattle.em_acks.specs.declared.job.Left.{Left}
use Rattle.em_acks.specs.declared.job.Target.{Target}
use Rattle.em_acks.specs.Operations as part
use Rattle.em_operation_parts.specs.AckSteps.{aims_at, operation_of, ack_steps, phase_of, step_of, entry_for}

abbrev pub completes_by : ℕ → What → Bool → Bool
completes_by n (What.Done op ok) later = (op.0 == n) || later
completes_by n (What.Ack op) later = false
completes_by n (What.GlobalDone op ok) later = false
completes_by n w later = later

-- whether these entries tell an operation done, before they end a step of any
abbrev pub completes : ℕ → List Entry → Bool
completes n [] = false
completes n (e ∷ es) = completes_by n e.what (completes n es)

abbrev pub is_last : Left → Bool
is_last Left.Last = true
is_last (Left.More n) = false

pub record OperationsAlike (k : Declarations) (past : Past) : Type 0 where
  -- as many have begun, and each is the same
  pub operations : part.operations (ack_steps past) ≡ log.operations past
  pub operation : (n : ℕ) → part.operation (ack_steps past) n ≡ option_map operation_of (log.operation past n)
  pub global_done : (n : ℕ) → part.global_done (ack_steps past) n ≡ log.global_done past n
  pub acked : (n : ℕ) → part.acked (ack_steps past) n ≡ log.acked past n
  pub all_acked : (n : ℕ) → part.all_acked k.cores (ack_steps past) n ≡ log.all_acked k past n
  pub last_acker : (n : ℕ) → part.last_acker k.cores (ack_steps past) n ≡ log.last_acker k past n
  -- each core owes each operation a step of the same kind, and the same step first
  pub owed : (c n : ℕ) → part.owed_to k.cores (ack_steps past) c n ≡ option_and_then phase_of (log.owed_to k past c n)
  pub step : (c : ℕ) → part.step k.cores (ack_steps past) c ≡ option_and_then step_of (log.step k past c)
  pub entry : (c : ℕ) → log.step k past c ≡ option_and_then (entry_for past) (part.step k.cores (ack_steps past) c)
  pub owes : (c : ℕ) → is_some (part.step k.cores (ack_steps past) c) ≡ is_some (log.step k past c)
  -- what an acknowledgement answers
  pub last : (n : ℕ) → is_last (part.left_after k.cores (ack_steps past) n) ≡ log.all_acked k past n
  -- what is done is told, or is told next
  pub done : (n : ℕ) → part.is_done k.cores (ack_steps past) n ≡ (log.is_done past n || completes n (due k past))

-- the same where nothing is due
pub record PendingAlike (k : Declarations) (past : Past) : Type 0 where
  pub done : (n : ℕ) → part.is_done k.cores (ack_steps past) n ≡ log.is_done past n
  pub pending : (t : Target) → part.pending k.cores (ack_steps past) t ≡ log.pending past (aims_at t)
  pub begin_fault : (t : Target) → part.begin_fault k.cores (ack_steps past) t ≡ option_or (pending_fault past (aims_at t)) (operations_fault past)
  -- no operation is pending exactly where no core owes a step
  pub all_done : log.all_done past ≡ list_all (λ c. is_none (part.step k.cores (ack_steps past) c)) (below k.cores)
