use Rattle.em_trace.proofs.TextLaws.{text-again}
use Rattle.em_trace.proofs.laws.reading_undoes_writing.Goals as goal

pub returns : goal.returns
returns c = text-again
