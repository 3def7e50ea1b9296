use Rattle.std.proofs.Common.{sym, ap, ◌∙◌}
use Rattle.em_log.specs.Declarations.{below}
use Rattle.em_acks.proofs.WordLemmas.{members-first, members-none}
use Rattle.em_acks.proofs.words.WordSet.first.Goals as goal

pub returns-then-count-eq0 : goal.returns-then-count-eq0
returns-then-count-eq0 c = members-none ∙ ap below (sym c.if-count-eq0.true)

pub returns : goal.returns
returns c = members-first c.args.count c.requires
