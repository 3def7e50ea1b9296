-- The replies that stand ready, and the one that was put last.
use Rattle.std.specs.Prelude.{◌≡◌}
use Rattle.em_log.specs.declared.ask.Answer.{Answer}
use Rattle.em_log.specs.declared.ask.Reply.{Reply}
use Rattle.em_log.specs.declared.entry.Event.{Event}
use Rattle.em_log.specs.declared.fault.Fault.{Fault}
use Rattle.em_replies.specs.Answers.{whole_receive}
use Rattle.em_replies.specs.declared.brief.BriefReceive.{BriefReceive}
use Rattle.em_replies.specs.declared.replies.Place.{Place}
use Rattle.em_replies.specs.declared.replies.Replies.TheInside.{Inside}

-- the answer is a receive with no further events
abbrev pub IsReceive : Answer → Type 0
IsReceive a = (r : BriefReceive) × (a ≡ whole_receive r)

abbrev pub IsMinted : Answer → Type 0
IsMinted a = (e : Event) × (a ≡ Answer.Minted e)

abbrev pub IsRefused : Answer → Type 0
IsRefused a = (f : Fault) × (a ≡ Answer.Refused f)

-- each reply that stands ready is of its kind
pub record AreReady (r : Inside) : Type 0 where
  pub receive : IsReceive r.receive.answer
  pub minted : IsMinted r.minted.answer
  pub refused : IsRefused r.refused.answer
  pub done : r.done.answer ≡ Answer.Done
  pub nothing : r.nothing.answer ≡ Answer.Nothing
  pub idle : r.idle.answer ≡ Answer.Idle

-- the reply in this place
abbrev pub reply_in : Inside → Place → Reply
reply_in r Place.Receive = r.receive
reply_in r Place.Minted = r.minted
reply_in r Place.Refused = r.refused
reply_in r Place.Done = r.done
reply_in r Place.Nothing = r.nothing
reply_in r Place.Idle = r.idle
reply_in r Place.Other = r.other

abbrev pub shown : Inside → Reply
shown r = reply_in r r.last
