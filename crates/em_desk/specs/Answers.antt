-- What a take is answered that takes nothing.
use Rattle.std.specs.Prelude.{Option, Some, None}
use Rattle.em_log.specs.declared.ask.Answer.{Answer}
use Rattle.em_log.specs.declared.ids.EndKind.{EndKind}

-- how the history has ended, if it has, else that there is nothing to do for now
abbrev pub rest_of : Option EndKind → Answer
rest_of (Some EndKind.Quiet) = Answer.Quiet
rest_of (Some EndKind.Limit) = Answer.Limit
rest_of None = Answer.Idle
