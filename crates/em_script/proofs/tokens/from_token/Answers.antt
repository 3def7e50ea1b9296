use Rattle.std.proofs.Common.{sym, ◌∙◌}
use Rattle.em_script.proofs.Splitting.{token_found, token_begins, token_none}
use Rattle.em_script.proofs.tokens.from_token.Goals as goal

pub returns-in-Some-clause-same : goal.returns-in-Some-clause-same
returns-in-Some-clause-same c = token_found c.args.bytes.now c.in-Some.at (sym c.in-Some.is ∙ c.first_visible.ensures)

pub returns-in-Some-clause-first : goal.returns-in-Some-clause-first
returns-in-Some-clause-first c = token_begins c.args.bytes.now c.in-Some.at (sym c.in-Some.is ∙ c.first_visible.ensures)

pub returns-in-None-clause-none : goal.returns-in-None-clause-none
returns-in-None-clause-none c = token_none c.args.bytes.now (sym c.in-None.is ∙ c.first_visible.ensures)
