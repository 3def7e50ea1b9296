use Rattle.std.proofs.Common.{length, ap, ◌∙◌, arith}
use Rattle.em_acks.proofs.WordLemmas.{members-length}
use Rattle.em_acks.proofs.words.WordSet.len.Goals as goal

pub returns : goal.returns
returns c = members-length c.self.inside.bits (omega arith) ∙ ap length c.self.view_is
