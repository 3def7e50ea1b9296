use Rattle.em_context_parts.proofs.EgroupRefusals.{end-leaves, end_group-leaves}
use Rattle.em_context_parts.proofs.leavings_alike.Goals as goal

pub returns-clause-at_end : goal.returns-clause-at_end
returns-clause-at_end c = λ k l past lawful d lost cells s lt is. end-leaves k l past lawful d lost cells s lt is

pub returns-clause-early : goal.returns-clause-early
returns-clause-early c = λ k l past lawful d s lt is. end_group-leaves k l past lawful d s lt is
