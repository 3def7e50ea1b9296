-- What a small form of an answer stands for.
use Rattle.std.specs.Prelude.{[]}
use Rattle.em_log.specs.declared.ask.Answer.{Answer}
use Rattle.em_log.specs.declared.ask.Context.{Context}
use Rattle.em_replies.specs.declared.brief.BriefAnswer.{BriefAnswer}
use Rattle.em_replies.specs.declared.brief.BriefReceive.{BriefReceive}

-- the receive, with no further events
abbrev pub whole_receive : BriefReceive → Answer
whole_receive r = Answer.Context (Context.Receive (record { queue = r.queue; eo = r.eo; event = r.event; stamp = r.stamp; ticket = r.ticket; cells = r.cells; rest = [] }))

abbrev pub whole_answer : BriefAnswer → Answer
whole_answer BriefAnswer.Boot = Answer.Context Context.Boot
whole_answer (BriefAnswer.Receive r) = whole_receive r
whole_answer (BriefAnswer.GlobalStart op eo) = Answer.Context (Context.GlobalStart op eo)
whole_answer (BriefAnswer.LocalStart op eo) = Answer.Context (Context.LocalStart op eo)
whole_answer (BriefAnswer.LocalStop op eo) = Answer.Context (Context.LocalStop op eo)
whole_answer (BriefAnswer.GlobalStop op eo) = Answer.Context (Context.GlobalStop op eo)
whole_answer (BriefAnswer.Acked op) = Answer.Acked op
whole_answer BriefAnswer.Idle = Answer.Idle
whole_answer BriefAnswer.Quiet = Answer.Quiet
whole_answer BriefAnswer.Limit = Answer.Limit
whole_answer BriefAnswer.Halted = Answer.Halted
whole_answer (BriefAnswer.Minted e) = Answer.Minted e
whole_answer BriefAnswer.Nothing = Answer.Nothing
whole_answer BriefAnswer.Done = Answer.Done
whole_answer (BriefAnswer.Refused f) = Answer.Refused f
