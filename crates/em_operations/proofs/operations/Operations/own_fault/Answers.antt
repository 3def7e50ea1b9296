use Rattle.std.proofs.Common.{◌∙◌, sym, ap}
use Rattle.em_log.specs.Leads.{unless_created, unless_running}
use Rattle.em_operation_parts.specs.ObjectSteps.{object_steps}
use Rattle.em_operation_parts.proofs.ObjectStates.{objects-alike}
use Rattle.em_operations.specs.Operations.{own_fault}
use Rattle.em_operations.proofs.operations.Operations.own_fault.Goals as goal

pub returns-in-Start : goal.returns-in-Start
returns-in-Start c = λ k past st.
    c.unless_created.ensures
    ∙ (ap unless_created (c.state.ensures.answer k (object_steps past) st.objects ∙ (objects-alike k past).state c.in-Start.eo.0)
    ∙ ap (own_fault k past) (sym c.in-Start.is))

pub returns-in-Stop : goal.returns-in-Stop
returns-in-Stop c = λ k past st.
    c.unless_running.ensures
    ∙ (ap unless_running (c.state-in-Stop.ensures.answer k (object_steps past) st.objects ∙ (objects-alike k past).state c.in-Stop.eo.0)
    ∙ ap (own_fault k past) (sym c.in-Stop.is))
