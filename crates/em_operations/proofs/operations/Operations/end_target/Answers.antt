use Rattle.std.proofs.Common.{Bool, sym, subst}
use Rattle.em_log.specs.declared.entry.Begun.{Begun}
use Rattle.em_operation_parts.specs.GroupSteps as changes
use Rattle.em_operation_parts.specs.ObjectSteps as moves
use Rattle.em_operations.specs.Operations.{StepsStand}
use Rattle.em_operations.proofs.operations.Operations.end_target.Goals as goal

pub returns-then-ok : goal.returns-then-ok
returns-then-ok c = λ k o g a b st.
    subst (λ (j : Begun). StepsStand k c.move_to.new.self (moves.done_steps j c.args.ok o) (changes.done_steps j g) a b) (sym c.in-Start.is)
    (subst (λ (ok : Bool). StepsStand k c.move_to.new.self (moves.done_steps (Begun.Start c.in-Start.eo) ok o) g a b) (sym c.if-ok.true) (c.move_to.ensures k o g a b st))

pub returns-else-ok : goal.returns-else-ok
returns-else-ok c = λ k o g a b st.
    subst (λ (j : Begun). StepsStand k c.move_to-else-ok.new.self (moves.done_steps j c.args.ok o) (changes.done_steps j g) a b) (sym c.in-Start.is)
    (subst (λ (ok : Bool). StepsStand k c.move_to-else-ok.new.self (moves.done_steps (Begun.Start c.in-Start.eo) ok o) g a b) (sym c.if-ok.false) (c.move_to-else-ok.ensures k o g a b st))

pub returns-in-Stop : goal.returns-in-Stop
returns-in-Stop c = λ k o g a b st.
    subst (λ (j : Begun). StepsStand k c.move_to-in-Stop.new.self (moves.done_steps j c.args.ok o) (changes.done_steps j g) a b) (sym c.in-Stop.is) (c.move_to-in-Stop.ensures k o g a b st)

pub returns-in-Modify : goal.returns-in-Modify
returns-in-Modify c = λ k o g a b st.
    subst (λ (j : Begun). StepsStand k c.settle.new.self (moves.done_steps j c.args.ok o) (changes.done_steps j g) a b) (sym c.in-Modify.is) (c.settle.ensures k o g a b st)
