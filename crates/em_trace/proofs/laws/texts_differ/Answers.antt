use Rattle.em_trace.proofs.TextLaws.{texts_differ}
use Rattle.em_trace.proofs.laws.texts_differ.Goals as goal

pub returns : goal.returns
returns c = texts_differ
