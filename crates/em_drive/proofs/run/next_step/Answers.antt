use Rattle.em_drive.proofs.Waiting.{for-desk, awaiting-next, silent-next}
use Rattle.em_drive.proofs.run.next_step.Goals as goal

pub loop-step-smaller : goal.loop-step-smaller
loop-step-smaller c =
    let steps = rw c.in-Silent.is at c.next.ensures.steps in
    c.steps_run_out.ensures.fall c.loop-step.run.work.made _ _ _ steps.1 (λ is. cc is)

pub loop-step-preserved : goal.loop-step-preserved
loop-step-preserved c =
    let steps = rw c.in-Silent.is at c.next.ensures.steps in
    let none = rw c.in-Silent.is at c.next.ensures.unreplied in
    record {
      unreplied = none;
      over = rw steps.2 c.loop-step.invariant.over;
      awaited = λ g l desk d waits.
          silent-next g l desk d c.loop-step.run c.next.new.self none steps.2 c.next.ensures.stands (c.loop-step.invariant.awaited g l desk d waits);
    }

pub returns-in_default : goal.returns-in_default
returns-in_default c =
    let for = for-desk c.loop-step.run c.next.new.self c.next.result c.next.ensures.steps c.loop-step.invariant.over (λ is. c.in_default.not-Silent is) in
    record {
      for_desk = for;
      awaited = λ g l desk d waits.
          awaiting-next g l desk d c.loop-step.run c.next.new.self c.next.result c.next.ensures.unreplied for c.next.ensures.stands (c.loop-step.invariant.awaited g l desk d waits);
    }
