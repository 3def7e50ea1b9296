use Rattle.em_script.proofs.AnyOrder.{script-read}
use Rattle.em_script.proofs.Reached.{script-found}
use Rattle.em_script.proofs.WellFound.{well-found}
use Rattle.em_script.proofs.laws.scripts_are_read.Goals as goal

pub returns : goal.returns
returns c = record {
  found = λ bytes graph e. (well-found bytes graph e, script-found bytes graph e);
  only = λ bytes graph well script. script-read bytes graph well script;
}
