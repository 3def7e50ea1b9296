use Rattle.std.proofs.Common.{Option, true, subst, sym}
use Rattle.em_log.specs.declared.ids.Cells.{Cells}
use Rattle.em_context_parts.specs.AtomicSteps.{ended_steps}
use Rattle.em_desk.specs.Atomics.{AtomicsStand}
use Rattle.em_desk.proofs.atomic_queues.AtomicQueues.give_back.Goals as goal

pub returns-in-Some : goal.returns-in-Some
returns-in-Some c = λ k s st.
    subst (λ (o : Option Cells). AtomicsStand k c.give.new.self (ended_steps true o c.args.core.0 s)) (sym c.in-Some.is) (c.give.ensures k s st)
