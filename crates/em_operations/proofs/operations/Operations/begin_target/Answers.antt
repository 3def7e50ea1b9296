use Rattle.std.proofs.Common.{sym, subst}
use Rattle.em_log.specs.declared.entry.Begun.{Begun}
use Rattle.em_operation_parts.specs.GroupSteps as changes
use Rattle.em_operation_parts.specs.ObjectSteps as moves
use Rattle.em_operations.specs.Operations.{StepsStand}
use Rattle.em_operations.proofs.operations.Operations.begin_target.Goals as goal

pub returns-in-Start : goal.returns-in-Start
returns-in-Start c = λ k o g a b st.
    subst (λ (j : Begun). StepsStand k c.move_to.new.self (moves.begun_steps j o) (changes.begun_steps j g) a b) (sym c.in-Start.is) (c.move_to.ensures k o g a b st)

pub returns-in-Stop : goal.returns-in-Stop
returns-in-Stop c = λ k o g a b st.
    subst (λ (j : Begun). StepsStand k c.move_to-in-Stop.new.self (moves.begun_steps j o) (changes.begun_steps j g) a b) (sym c.in-Stop.is) (c.move_to-in-Stop.ensures k o g a b st)

pub returns-in-Modify : goal.returns-in-Modify
returns-in-Modify c = λ k o g a b st.
    subst (λ (j : Begun). StepsStand k c.change.new.self (moves.begun_steps j o) (changes.begun_steps j g) a b) (sym c.in-Modify.is) (c.change.ensures k o g a b st)
