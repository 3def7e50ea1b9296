use Rattle.std.proofs.Common.{sym, ◌∙◌}
use Rattle.em_script.proofs.Newlines.{line_found, line_alone}
use Rattle.em_script.proofs.reading.first_line.Goals as goal

pub returns-in-Some-clause-line : goal.returns-in-Some-clause-line
returns-in-Some-clause-line c = line_found c.args.bytes.now c.in-Some.at (sym c.in-Some.is ∙ c.first_newline.ensures)

pub returns-in-None-clause-line : goal.returns-in-None-clause-line
returns-in-None-clause-line c = line_alone c.args.bytes.now c.requires (sym c.in-None.is ∙ c.first_newline.ensures)
