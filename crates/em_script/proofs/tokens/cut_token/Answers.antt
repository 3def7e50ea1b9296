use Rattle.std.proofs.Common.{sym, ◌∙◌}
use Rattle.em_script.proofs.Splitting.{cut_found, cut_alone}
use Rattle.em_script.proofs.tokens.cut_token.Goals as goal

pub returns-in-Some : goal.returns-in-Some
returns-in-Some c = cut_found c.args.bytes.now c.in-Some.at c.requires.some c.requires.first (sym c.in-Some.is ∙ c.first_space.ensures)

pub returns-in-None : goal.returns-in-None
returns-in-None c = cut_alone c.args.bytes.now c.requires.some c.requires.first (sym c.in-None.is ∙ c.first_space.ensures)
