use Rattle.em_script.proofs.Reached.{script-found}
use Rattle.em_script.proofs.ScriptSpelled.{reading_undone}
use Rattle.em_script.specs.Spelling.{spelling}
use Rattle.em_script.proofs.laws.spellings_are_scripts.Goals as goal

pub returns : goal.returns
returns c = λ graph well. script-found (spelling graph) graph (reading_undone graph well)
