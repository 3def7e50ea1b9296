use Rattle.std.proofs.lemmas.Str.Pattern.{split_parts}
use Rattle.em_tool.proofs.Cutting.{cut-matches}
use Rattle.em_tool.proofs.decimal.cut.Goals as goal

pub returns : goal.returns
returns c = cut-matches c.args.end c.args.text.now c.split_once.result (split_parts c.args.end c.args.text.now c.split_once.result c.split_once.ensures.cases c.requires)
