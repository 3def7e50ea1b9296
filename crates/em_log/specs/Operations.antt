-- Operations: how they begin and end, and what each core owes to them.
use Rattle.std.specs.Prelude.{ℕ, suc, ◌==◌, Bool, true, false, not, ◌&&◌, List, [], ◌∷◌, Option, Some, None, if◌then◌else◌, is_none, is_some}
use Rattle.std.specs.List.{list_all}
use Rattle.std.specs.Option.{option_or, option_and_then, option_map_or}
use Rattle.em_log.specs.declared.declarations.Declarations.{Declarations}
use Rattle.em_log.specs.declared.entry.What.{What}
use Rattle.em_log.specs.declared.entry.Body.{Body}
use Rattle.em_log.specs.declared.entry.Begun.{Begun}
use Rattle.em_log.specs.declared.ids.Note.{Note}
use Rattle.em_log.specs.declared.ids.OpId.{OpId}
use Rattle.em_log.specs.History.{Past, has}
use Rattle.em_log.specs.Declarations.{below, is_number}

-- an operation as it began: the core, what it is to do, and its notes
pub record Operation : Type 0 where
  pub core : ℕ
  pub job : Begun
  pub notes : List Note

abbrev pub begun_by : ℕ → ℕ → What → Option Operation → Option Operation
begun_by n c (What.Begin op job notes) was = if op.0 == n then Some (record { core = c; job = job; notes = notes }) else was
begun_by n c w was = was

-- the operation of this number, if it has begun
abbrev pub operation : Past → ℕ → Option Operation
operation [] n = None
operation (e ∷ past) n = begun_by n e.core.0 e.what (operation past n)

-- what the job of this operation gives, where it has begun, else the other value
abbrev pub by_job : {A : Type 0} → Past → OpId → (Begun → A) → A → A
by_job past op f other = option_map_or (λ o. f o.job) (operation past op.0) other

abbrev pub notes_of : Option Operation → List Note
notes_of None = []
notes_of (Some o) = o.notes

abbrev pub one_more_begun : What → ℕ → ℕ
one_more_begun (What.Begin op job notes) n = suc n
one_more_begun w n = n

-- how many operations have begun; they are numbered from 0
abbrev pub operations : Past → ℕ
operations [] = 0
operations (e ∷ past) = one_more_begun e.what (operations past)

abbrev pub done_by : ℕ → What → Option Bool → Option Bool
done_by n (What.Done op ok) was = if op.0 == n then Some ok else was
done_by n w was = was

-- whether the operation is done, and how
abbrev pub done : Past → ℕ → Option Bool
done [] n = None
done (e ∷ past) n = done_by n e.what (done past n)

abbrev pub global_done_by : ℕ → What → Option Bool → Option Bool
global_done_by n (What.GlobalDone op ok) was = if op.0 == n then Some ok else was
global_done_by n w was = was

-- whether the global start or stop of the operation is done, and how
abbrev pub global_done : Past → ℕ → Option Bool
global_done [] n = None
global_done (e ∷ past) n = global_done_by n e.what (global_done past n)

abbrev pub acked_by : ℕ → ℕ → What → List ℕ → List ℕ
acked_by n c (What.Ack op) was = if op.0 == n then c ∷ was else was
acked_by n c w was = was

-- the cores that have acknowledged the operation
abbrev pub acked : Past → ℕ → List ℕ
acked [] n = []
acked (e ∷ past) n = acked_by n e.core.0 e.what (acked past n)

-- every core has acknowledged it
abbrev pub all_acked : Declarations → Past → ℕ → Bool
all_acked k past n = list_all (has (acked past n)) (below k.cores)

abbrev pub last_if : Bool → ℕ → Option ℕ → Option ℕ
last_if true c None = Some c
last_if _ c was = was

abbrev pub last_acker_by : Declarations → Past → ℕ → ℕ → What → Option ℕ → Option ℕ
last_acker_by k now n c (What.Ack op) was = if op.0 == n then last_if (all_acked k now n) c was else was
last_acker_by k now n c w was = was

-- the core after whose acknowledgement every core had acknowledged
abbrev pub last_acker : Declarations → Past → ℕ → Option ℕ
last_acker k [] n = None
last_acker k (e ∷ past) n = last_acker_by k (e ∷ past) n e.core.0 e.what (last_acker k past n)

abbrev pub op_id : ℕ → OpId
op_id n = record { 0 = n }

abbrev pub only_if : Bool → What → Option What
only_if true w = Some w
only_if false w = None

-- the step that core c owes operation n: first what core b began, then what its global step, if done, has answered
abbrev pub owed_for : Declarations → Past → ℕ → ℕ → ℕ → Begun → Option Bool → Option What
owed_for k past c n b (Begun.Modify g m) _ = only_if (not (has (acked past n) c)) (What.Ack (op_id n))
owed_for k past c n b (Begun.Start x) None = only_if (b == c) (What.Enter (Body.GlobalStart (op_id n)))
owed_for k past c n b (Begun.Start x) (Some true) =
    only_if (not (has (acked past n) c)) (What.Enter (Body.LocalStart (op_id n)))
owed_for k past c n b (Begun.Start x) (Some false) = None
owed_for k past c n b (Begun.Stop x) None =
    option_or (only_if (not (has (acked past n) c)) (What.Enter (Body.LocalStop (op_id n))))
    (only_if (is_number c (last_acker k past n)) (What.Enter (Body.GlobalStop (op_id n))))
owed_for k past c n b (Begun.Stop x) (Some ok) = None

abbrev pub owed_to : Declarations → Past → ℕ → ℕ → Option What
owed_to k past c n = option_and_then (λ o. owed_for k past c n o.core o.job (global_done past n)) (operation past n)

abbrev pub first_owed : Declarations → Past → ℕ → List ℕ → Option What
first_owed k past c [] = None
first_owed k past c (n ∷ ns) = option_or (owed_to k past c n) (first_owed k past c ns)

-- the step of the least operation that core c owes
abbrev pub step : Declarations → Past → ℕ → Option What
step k past c = first_owed k past c (below (operations past))

abbrev pub is_done : Past → ℕ → Bool
is_done past n = is_some (done past n)

abbrev pub is_aim : (Begun → Bool) → Option Operation → Bool
is_aim aims None = false
is_aim aims (Some o) = aims o.job

abbrev pub first_pending : Past → (Begun → Bool) → List ℕ → Option ℕ
first_pending past aims [] = None
first_pending past aims (n ∷ ns) =
    if not (is_done past n) && is_aim aims (operation past n) then Some n else first_pending past aims ns

-- the least operation with this aim that has begun and is not done
abbrev pub pending : Past → (Begun → Bool) → Option ℕ
pending past aims = first_pending past aims (below (operations past))

-- no operation is pending
abbrev pub all_done : Past → Bool
all_done past = is_none (pending past (λ job. true))
