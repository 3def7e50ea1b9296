use Rattle.em_drive.proofs.Working.{for-board, driven-next, driven-silent}
use Rattle.em_drive.proofs.driver.next_step.Goals as goal

pub loop-preserved : goal.loop-preserved
loop-preserved g c =
    let steps = rw c.in-Silent.is at c.next-in-loop.ensures.steps in
    let none = rw c.in-Silent.is at c.next-in-loop.ensures.unreplied in
    record {
      unreplied = none;
      over = rw steps.2 c.loop.invariant.over;
      driven = λ f h l p d.
          driven-silent g.W.Work f h l p c.loop.run c.next-in-loop.new.self none steps.2 c.next-in-loop.ensures.stands (c.loop.invariant.driven f h l p d);
    }

pub returns-in_default : goal.returns-in_default
returns-in_default g c =
    let for = for-board g.W.Work c.loop.run c.next-in-loop.new.self c.next-in-loop.result c.next-in-loop.ensures.steps c.loop.invariant.over (λ is. c.in_default.not-Silent is) in
    record {
      for_board = for;
      driven = λ f h l p d.
          driven-next g.W.Work f h l p c.loop.run c.next-in-loop.new.self c.next-in-loop.result c.next-in-loop.ensures.unreplied for c.next-in-loop.ensures.stands (c.loop.invariant.driven f h l p d);
    }
