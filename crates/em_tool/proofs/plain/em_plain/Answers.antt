use Rattle.em_tool.proofs.Answering.{headline-of, checked-of, run-of, check-of}
use Rattle.em_tool.proofs.plain.em_plain.Goals as goal

pub returns-clause-headline : goal.returns-clause-headline
returns-clause-headline g c solo end known is = headline-of c.scripts_are_read.ensures.found _ _ _ _ _ _ _ solo end c.answer.ensures known is

pub returns-clause-checked : goal.returns-clause-checked
returns-clause-checked g c check zero = checked-of c.scripts_are_read.ensures.found _ _ _ _ _ _ _ c.answer.ensures check zero

pub returns-clause-complete : goal.returns-clause-complete
returns-clause-complete g c = run-of c.scripts_are_read.ensures.only _ _ _ _ _ _ _ c.answer.ensures

pub returns-clause-complete_check : goal.returns-clause-complete_check
returns-clause-complete_check g c = check-of c.scripts_are_read.ensures.only _ _ _ _ _ _ _ c.answer.ensures
