use Rattle.em_trace.proofs.Refusals.{refused-by-first-lines}
use Rattle.em_trace.proofs.laws.refused_by_first_lines.Goals as goal

pub returns : goal.returns
returns c = refused-by-first-lines
