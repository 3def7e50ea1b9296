use Rattle.em_script.proofs.laws.reading_undoes_printing.Goals as goal
use Rattle.em_script.proofs.ScriptSpelled.{reading_undone}

pub returns : goal.returns
returns c = reading_undone
