use Rattle.std.proofs.Common.{ap, ◌∙◌}
use Rattle.em_log.specs.History.{without}
use Rattle.em_acks.proofs.WordLemmas.{members-without}
use Rattle.em_acks.proofs.words.WordSet.without.Goals as goal

pub returns : goal.returns
returns c = members-without c.self.inside.bits c.args.number c.requires ∙ ap (without c.args.number) c.self.view_is
