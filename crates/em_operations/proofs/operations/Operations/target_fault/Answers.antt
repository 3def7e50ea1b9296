use Rattle.std.proofs.Common.{◌≡◌, ◌∙◌, Option, Some, None, refl, sym, subst}
use Rattle.std.specs.Option.{option_or}
use Rattle.em_log.specs.declared.fault.Fault.{Fault}
use Rattle.em_log.specs.Leads.{operations_fault, pending_fault}
use Rattle.em_acks.specs.Operations.{begin_fault}
use Rattle.em_acks.specs.State.{core_count}
use Rattle.em_operation_parts.specs.AckSteps.{ack_steps, aims_at}
use Rattle.em_operations.proofs.BegunTargets.{err-is, fault-is}
use Rattle.em_operations.proofs.operations.Operations.target_fault.Goals as goal

pub returns-in-Some : goal.returns-in-Some
returns-in-Some c = λ k l past lawful st.
    fault-is k l past c.args.self.now c.args.target (Some c.in-Some.op) c.args.own (begin_fault (core_count c.args.self.now.acks) (ack_steps past) c.args.target) lawful st
    (c.in-Some.ensures.answer (ack_steps past) st.acks) refl

pub returns-in-Some-own : goal.returns-in-Some-own
returns-in-Some-own c = λ k l past lawful st.
    subst (λ (own : Option Fault). Some c.in-Some-own.fault ≡ option_or (pending_fault past (aims_at c.args.target)) (option_or own (operations_fault past))) (sym c.in-Some-own.is)
    (fault-is k l past c.args.self.now c.args.target None (Some c.in-Some-own.fault) (begin_fault (core_count c.args.self.now.acks) (ack_steps past) c.args.target) lawful st
    (c.in_default.ensures.answer (ack_steps past) st.acks) refl)

pub returns-in-None : goal.returns-in-None
returns-in-None c = λ k l past lawful st.
    let why = begin_fault (core_count c.args.self.now.acks) (ack_steps past) c.args.target in
    c.err.ensures.value
    ∙ (err-is c.can_begin.result why (c.can_begin.ensures.answer (ack_steps past) st.acks)
    ∙ subst (λ (own : Option Fault). why ≡ option_or (pending_fault past (aims_at c.args.target)) (option_or own (operations_fault past))) (sym c.in-None.is)
    (fault-is k l past c.args.self.now c.args.target None None why lawful st (c.in_default.ensures.answer (ack_steps past) st.acks) refl))
