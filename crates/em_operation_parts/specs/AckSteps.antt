-- The steps of operations that a history makes, over all kinds of entries.
use Rattle.std.specs.Prelude.{ℕ, Bool, true, false, List, [], ◌∷◌, Option, Some, None}
use Rattle.std.specs.Option.{option_map}
use Rattle.em_log.specs.declared.entry.Begun.{Begun}
use Rattle.em_log.specs.declared.entry.Body.{Body}
use Rattle.em_log.specs.declared.entry.What.{What}
use Rattle.em_log.specs.declared.ids.OpId.{OpId}
use Rattle.em_log.specs.History.{Past}
use Rattle.em_log.specs.Leads.{aims_at_object, aims_at_group}
use Rattle.em_log.specs.Operations as log
use Rattle.em_acks.specs.declared.job.Job.{Job}
use Rattle.em_acks.specs.declared.job.Phase.{Phase}
use Rattle.em_acks.specs.declared.job.Target.{Target}
use Rattle.em_acks.specs.Operations as part
use Rattle.em_acks.specs.Steps.{AckStep, Began, GlobalEnded, Acknowledged}

-- operations

abbrev pub job_of : Begun → Job
job_of (Begun.Start x) = Job.Start
job_of (Begun.Stop x) = Job.Stop
job_of (Begun.Modify g m) = Job.Modify

abbrev pub target_of : Begun → Target
target_of (Begun.Start x) = Target.Eo x
target_of (Begun.Stop x) = Target.Eo x
target_of (Begun.Modify g m) = Target.Group g

abbrev pub aims_at : Target → Begun → Bool
aims_at (Target.Eo x) job = aims_at_object x.0 job
aims_at (Target.Group g) job = aims_at_group g.0 job

abbrev pub operation_of : log.Operation → part.Operation
operation_of o = record { core = o.core; job = job_of o.job; target = target_of o.job }

-- steps

abbrev pub ack_after : ℕ → What → List AckStep → List AckStep
ack_after c (What.Begin op job notes) steps = Began c (job_of job) (target_of job) ∷ steps
ack_after c (What.GlobalDone op ok) steps = GlobalEnded c op.0 ok ∷ steps
ack_after c (What.Ack op) steps = Acknowledged c op.0 ∷ steps
ack_after c w steps = steps

abbrev pub ack_steps : Past → List AckStep
ack_steps [] = []
ack_steps (e ∷ past) = ack_after e.core.0 e.what (ack_steps past)

-- whether an entry begins an operation, or ends one of its steps
abbrev pub touches_operations : What → Bool
touches_operations (What.Begin op job notes) = true
touches_operations (What.GlobalDone op ok) = true
touches_operations (What.Ack op) = true
touches_operations w = false

-- owed entries

-- the operation and the kind of step that an owed entry is
abbrev pub step_in : Body → Option (OpId × Phase)
step_in Body.Boot = None
step_in (Body.GlobalStart op) = Some (op, Phase.Global)
step_in (Body.LocalStart op) = Some (op, Phase.Local)
step_in (Body.LocalStop op) = Some (op, Phase.Local)
step_in (Body.GlobalStop op) = Some (op, Phase.Global)

abbrev pub step_of : What → Option (OpId × Phase)
step_of (What.Ack op) = Some (op, Phase.Local)
step_of (What.Enter body) = step_in body
step_of w = None

abbrev pub phase_of : What → Option Phase
phase_of w = option_map (λ (r : OpId × Phase). r.1) (step_of w)

-- the entry by which a step of such a kind is done: every step of a change is local
abbrev pub entry_of : OpId → Begun → Phase → What
entry_of op (Begun.Modify g m) p = What.Ack op
entry_of op (Begun.Start x) Phase.Global = What.Enter (Body.GlobalStart op)
entry_of op (Begun.Start x) Phase.Local = What.Enter (Body.LocalStart op)
entry_of op (Begun.Stop x) Phase.Global = What.Enter (Body.GlobalStop op)
entry_of op (Begun.Stop x) Phase.Local = What.Enter (Body.LocalStop op)

abbrev pub entry_for : Past → OpId × Phase → Option What
entry_for past r = option_map (λ (o : log.Operation). entry_of r.0 o.job r.1) (log.operation past r.0.0)
