use Rattle.std.proofs.Common.{◌∙◌}
use Rattle.em_script.proofs.Texts.{list_any-among}
use Rattle.em_script.proofs.names.is_among.Goals as goal

pub returns : goal.returns
returns c = c.contains.ensures.value ∙ list_any-among c.args.text.now c.args.words.now
