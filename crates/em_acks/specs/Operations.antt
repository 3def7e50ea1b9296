-- Operations on their steps: which have begun and are not done, and what each core owes to them.
use Rattle.std.specs.Prelude.{ℕ, suc, ◌==◌, nat_lt, Bool, true, false, not, ◌&&◌, List, [], ◌∷◌, length, filter, Option, Some, None, if◌then◌else◌}
use Rattle.std.specs.List.{list_all}
use Rattle.std.specs.Option.{option_map, option_or, option_and_then, option_map_or}
use Rattle.em_log.specs.declared.fault.Fault.{Fault}
use Rattle.em_log.specs.declared.ids.OpId.{OpId}
use Rattle.em_log.specs.History.{has}
use Rattle.em_log.specs.Declarations.{below, is_number}
use Rattle.em_log.specs.Operations.{op_id, last_if}
use Rattle.em_log.specs.Bounds.{operation_limit}
use Rattle.em_acks.specs.declared.job.Job.{Job}
use Rattle.em_acks.specs.declared.job.Target.{Target}
use Rattle.em_acks.specs.declared.job.Phase.{Phase}
use Rattle.em_acks.specs.declared.job.Left.{Left}
use Rattle.em_acks.specs.Steps.{AckStep, Began, GlobalEnded, Acknowledged}

-- an operation as it began: the core, what it is to do, and to what
pub record Operation : Type 0 where
  pub core : ℕ
  pub job : Job
  pub target : Target

abbrev pub one_more_begun : AckStep → ℕ → ℕ
one_more_begun (Began c job t) n = suc n
one_more_begun s n = n

-- how many operations have begun; they are numbered from 0
abbrev pub operations : List AckStep → ℕ
operations [] = 0
operations (s ∷ steps) = one_more_begun s (operations steps)

abbrev pub begun_as : ℕ → ℕ → AckStep → Option Operation → Option Operation
begun_as m n (Began c job t) was = if m == n then Some (record { core = c; job = job; target = t }) else was
begun_as m n s was = was

-- the operation of this number, if it has begun
abbrev pub operation : List AckStep → ℕ → Option Operation
operation [] n = None
operation (s ∷ steps) n = begun_as (operations steps) n s (operation steps n)

abbrev pub global_done_by : ℕ → AckStep → Option Bool → Option Bool
global_done_by n (GlobalEnded c op ok) was = if op == n then Some ok else was
global_done_by n s was = was

-- whether the global start or stop of the operation is done, and how
abbrev pub global_done : List AckStep → ℕ → Option Bool
global_done [] n = None
global_done (s ∷ steps) n = global_done_by n s (global_done steps n)

-- acknowledgements

abbrev pub acked_after : ℕ → AckStep → List ℕ → List ℕ
acked_after n (Acknowledged c op) was = if op == n then c ∷ was else was
acked_after n s was = was

-- the cores that have acknowledged the operation
abbrev pub acked : List AckStep → ℕ → List ℕ
acked [] n = []
acked (s ∷ steps) n = acked_after n s (acked steps n)

-- every core has acknowledged it
abbrev pub all_acked : ℕ → List AckStep → ℕ → Bool
all_acked cores steps n = list_all (has (acked steps n)) (below cores)

-- the cores that have not acknowledged it, upwards
abbrev pub not_acked : ℕ → List AckStep → ℕ → List ℕ
not_acked cores steps n = filter (λ c. not (has (acked steps n) c)) (below cores)

abbrev pub last_acker_by : ℕ → List AckStep → ℕ → AckStep → Option ℕ → Option ℕ
last_acker_by cores now n (Acknowledged c op) was = if op == n then last_if (all_acked cores now n) c was else was
last_acker_by cores now n s was = was

-- the core after whose acknowledgement every core had acknowledged
abbrev pub last_acker : ℕ → List AckStep → ℕ → Option ℕ
last_acker cores [] n = None
last_acker cores (s ∷ steps) n = last_acker_by cores (s ∷ steps) n s (last_acker cores steps n)

-- what an acknowledgement of this operation answers: how many cores still owe theirs, or that it was the last
abbrev pub left_after : ℕ → List AckStep → ℕ → Left
left_after cores steps n = if all_acked cores steps n then Left.Last else Left.More (length (not_acked cores steps n))

-- owed steps

abbrev pub only_if : Bool → Phase → Option Phase
only_if true p = Some p
only_if false p = None

-- the step that core c owes operation n: first what core b began, then what its global step, if done, has answered
abbrev pub owed_for : ℕ → List AckStep → ℕ → ℕ → ℕ → Job → Option Bool → Option Phase
owed_for cores steps c n b Job.Modify _ = only_if (not (has (acked steps n) c)) Phase.Local
owed_for cores steps c n b Job.Start None = only_if (b == c) Phase.Global
owed_for cores steps c n b Job.Start (Some true) = only_if (not (has (acked steps n) c)) Phase.Local
owed_for cores steps c n b Job.Start (Some false) = None
owed_for cores steps c n b Job.Stop None =
    option_or (only_if (not (has (acked steps n) c)) Phase.Local) (only_if (is_number c (last_acker cores steps n)) Phase.Global)
owed_for cores steps c n b Job.Stop (Some ok) = None

abbrev pub owed_to : ℕ → List AckStep → ℕ → ℕ → Option Phase
owed_to cores steps c n =
    option_and_then (λ o. owed_for cores steps c n o.core o.job (global_done steps n)) (operation steps n)

abbrev pub step_to : ℕ → List AckStep → ℕ → ℕ → Option (OpId × Phase)
step_to cores steps c n = option_map (λ p. (op_id n, p)) (owed_to cores steps c n)

abbrev pub first_owed : ℕ → List AckStep → ℕ → List ℕ → Option (OpId × Phase)
first_owed cores steps c [] = None
first_owed cores steps c (n ∷ ns) = option_or (step_to cores steps c n) (first_owed cores steps c ns)

-- the step of the least operation that core c owes
abbrev pub step : ℕ → List AckStep → ℕ → Option (OpId × Phase)
step cores steps c = first_owed cores steps c (below (operations steps))

-- pending operations

-- whether such an operation is done, where all tells whether every core has acknowledged it
abbrev pub done_as : Bool → Job → Option Bool → Bool
done_as all Job.Modify _ = all
done_as all Job.Start None = false
done_as all Job.Start (Some true) = all
done_as all Job.Start (Some false) = true
done_as all Job.Stop None = false
done_as all Job.Stop (Some ok) = true

-- whether the operation is done: a change with its last acknowledgement, a start with it or where its global start
-- failed, a stop with its global stop
abbrev pub is_done : ℕ → List AckStep → ℕ → Bool
is_done cores steps n = option_map_or (λ o. done_as (all_acked cores steps n) o.job (global_done steps n)) (operation steps n) false

abbrev pub is_target : Target → Target → Bool
is_target (Target.Eo x) (Target.Eo y) = y.0 == x.0
is_target (Target.Group g) (Target.Group h) = h.0 == g.0
is_target _ _ = false

abbrev pub is_of : Target → Option Operation → Bool
is_of t None = false
is_of t (Some o) = is_target t o.target

abbrev pub first_pending : ℕ → List AckStep → Target → List ℕ → Option ℕ
first_pending cores steps t [] = None
first_pending cores steps t (n ∷ ns) =
    if not (is_done cores steps n) && is_of t (operation steps n) then Some n else first_pending cores steps t ns

-- the least operation of this target that has begun and is not done
abbrev pub pending : ℕ → List AckStep → Target → Option ℕ
pending cores steps t = first_pending cores steps t (below (operations steps))

abbrev pub begin_fault_by : ℕ → Option OpId → Option Fault
begin_fault_by n (Some op) = Some (Fault.OpPending op)
begin_fault_by n None = if nat_lt n operation_limit then None else Some (Fault.OpsSpent operation_limit)

-- why no operation of this target may begin, if none may: one is pending, or as many have begun as may in a run
abbrev pub begin_fault : ℕ → List AckStep → Target → Option Fault
begin_fault cores steps t = begin_fault_by (operations steps) (option_map op_id (pending cores steps t))
