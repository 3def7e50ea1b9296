use Rattle.em_script.proofs.Refusals.{refused-by-first-lines}
use Rattle.em_script.proofs.laws.refused_by_first_lines.Goals as goal

pub returns : goal.returns
returns c = refused-by-first-lines
