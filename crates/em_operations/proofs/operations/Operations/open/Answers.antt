use Rattle.std.proofs.Common.{◌∷◌, subst}
use Rattle.em_acks.specs.declared.job.Job.{Job}
use Rattle.em_acks.specs.declared.job.Target.{Target}
use Rattle.em_acks.specs.Stands as acks
use Rattle.em_acks.specs.Steps.{Began}
use Rattle.em_operation_parts.specs.AckSteps.{job_of}
use Rattle.em_operations.proofs.BegunTargets.{opened, there-too}
use Rattle.em_operations.proofs.operations.Operations.open.Goals as goal

pub returns-in-Ok-clause-stands : goal.returns-in-Ok-clause-stands
returns-in-Ok-clause-stands c = λ k o g a b st.
    let v = c.args.self.now in
    let r = c.requires in
    opened k v o g a b c.begin.new.self c.push_reserved.new.self (record { core = c.args.core; job = c.args.job; notes = c.args.notes }) st
    (subst (λ (t : Target). acks.Stands c.begin.new.self (Began c.args.core.0 (job_of c.args.job) t ∷ a)) c.target_of.ensures
    (subst (λ (j : Job). acks.Stands c.begin.new.self (Began c.args.core.0 j c.target_of.result ∷ a)) c.job_of.ensures (c.in-Ok.ensures.stands a st.acks)))
    c.begin.ensures.same_shape c.push_reserved.ensures.items c.push_reserved.ensures.capacity
    (there-too k r.graph v o r.object g r.group a r.ack b r.operation c.args.job r.stands st r.there)
