use Rattle.em_context_parts.proofs.OpenMembers.{members-within}
use Rattle.em_context_parts.proofs.members_are_within.Goals as goal

pub returns : goal.returns
returns c = λ k l past all. members-within k l past all
