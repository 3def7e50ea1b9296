use Rattle.std.proofs.Common.{sym, ◌∙◌}
use Rattle.em_trace.proofs.Pieces.{pieces_found, pieces_alone}
use Rattle.em_trace.proofs.line.split.Goals as goal

pub returns-in-Some-clause-pieces : goal.returns-in-Some-clause-pieces
returns-in-Some-clause-pieces c = pieces_found c.args.separator c.args.bytes.now c.in-Some.at (sym c.in-Some.is ∙ c.first.ensures)

pub returns-in-None-clause-pieces : goal.returns-in-None-clause-pieces
returns-in-None-clause-pieces c = pieces_alone c.args.separator c.args.bytes.now (sym c.in-None.is ∙ c.first.ensures)
