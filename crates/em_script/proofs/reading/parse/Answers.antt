use Rattle.std.proofs.Common.{List, ℕ, Ok, Err, Result, IfOk}
use Rattle.em_log.specs.declared.graph.Config.{Config}
use Rattle.em_log.specs.WellFormed.{IsWellFormed}
use Rattle.em_script.specs.declared.reading.ScriptEnd.{ScriptEnd}
use Rattle.em_script.specs.Reading.{Gives, script_of}
use Rattle.em_script.specs.Scripts.{IsScript}
use Rattle.em_script.proofs.AnyOrder.{script-given}
use Rattle.em_script.proofs.Reached.{script-found}
use Rattle.em_script.proofs.WellFound.{well-found}
use Rattle.em_script.proofs.reading.parse.Goals as goal

found : (bytes : List ℕ) (r : Result Config ScriptEnd) → Gives r (script_of bytes) → IfOk r (λ graph. IsWellFormed graph × IsScript bytes graph)
found bytes (Ok graph) is = (well-found bytes graph is, script-found bytes graph is)
found bytes (Err e) is = tt

pub returns-clause-found : goal.returns-clause-found
returns-clause-found c = found c.args.bytes.now c.read_lines.result c.read_lines.ensures

pub returns-clause-only : goal.returns-clause-only
returns-clause-only c = λ graph well script. script-given c.args.bytes.now c.read_lines.result c.read_lines.ensures graph well script
