use Rattle.std.proofs.Common.{◌≡◌}
use Rattle.em_main.proofs.Choosing.{no-check, no-run-in-turns, not-check, not-solo, run-complete, run-headline, same-answer}
use Rattle.em_main.proofs.top.em_main.Goals as goal

pub returns-in-Some-clause-headline : goal.returns-in-Some-clause-headline
returns-in-Some-clause-headline g c l end is ended =
    let same : c.in-Some.limits ≡ l = cc (c.in-Some.is, c.run_of.ensures.known l is) in
    run-headline c.in-Some.limits l _ _ _ _ _ _ c.scripts_are_read.ensures.found _ end c.answer.ensures same is ended

pub returns-in-Some-clause-headline_in_turns : goal.returns-in-Some-clause-headline_in_turns
returns-in-Some-clause-headline_in_turns g c solo end is ended =
    absurd (not-solo _ c.in-Some.limits solo (rw c.in-Some.is at c.run_of.ensures.is_run) is)

pub returns-in-Some-clause-checked : goal.returns-in-Some-clause-checked
returns-in-Some-clause-checked g c check zero = absurd (not-check _ c.in-Some.limits (rw c.in-Some.is at c.run_of.ensures.is_run) check)

pub returns-in-Some-clause-complete : goal.returns-in-Some-clause-complete
returns-in-Some-clause-complete g c l is =
    let same : c.in-Some.limits ≡ l = cc (c.in-Some.is, c.run_of.ensures.known l is) in
    run-complete c.in-Some.limits l _ _ _ _ _ _ c.scripts_are_read.ensures.only c.answer.ensures same

pub returns-in-Some-clause-complete_in_turns : goal.returns-in-Some-clause-complete_in_turns
returns-in-Some-clause-complete_in_turns g c =
    no-run-in-turns _ c.in-Some.limits (rw c.in-Some.is at c.run_of.ensures.is_run) _ _ _ _ _ _

pub returns-in-Some-clause-complete_check : goal.returns-in-Some-clause-complete_check
returns-in-Some-clause-complete_check g c =
    no-check _ c.in-Some.limits (rw c.in-Some.is at c.run_of.ensures.is_run) _ _ _ _ _ _

pub returns-in-Some-clause-answer : goal.returns-in-Some-clause-answer
returns-in-Some-clause-answer g c l is =
    let same : c.in-Some.limits ≡ l = cc (c.in-Some.is, c.run_of.ensures.known l is) in
    same-answer c.in-Some.limits l _ _ _ _ _ _ c.answer.ensures same

pub returns-in-Some-clause-answer_of_others : goal.returns-in-Some-clause-answer_of_others
returns-in-Some-clause-answer_of_others g c none = absurd (none c.in-Some.limits (rw c.in-Some.is at c.run_of.ensures.is_run))
