use Rattle.em_body.proofs.AsksOfStatements.{asks-are}
use Rattle.em_body.proofs.asks_are_of_statements.Goals as goal

pub returns : goal.returns
returns c = asks-are
