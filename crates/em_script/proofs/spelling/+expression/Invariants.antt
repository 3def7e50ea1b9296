use Rattle.std.proofs.Common.{◌+◌}
use Rattle.em_log.specs.WellFormed.{tokens}
use Rattle.em_script.proofs.spelling.+expression.Given as goal

abbrev pub decreases-expression : goal.decreases-expression
decreases-expression l = tokens l.expr.now

abbrev pub decreases-operation : goal.decreases-operation
decreases-operation l = tokens l.first.now + tokens l.second.now
