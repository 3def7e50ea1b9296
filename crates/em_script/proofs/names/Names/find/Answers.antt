use Rattle.std.proofs.Common.{sym, ap, ◌∙◌}
use Rattle.std.specs.FinMap.{get}
use Rattle.em_script.proofs.Table.{get-plain}
use Rattle.em_script.proofs.names.Names.find.Goals as goal

pub returns : goal.returns
returns c = c.copied.ensures ∙ c.get.ensures.value ∙ sym (get-plain (λ k. k.items) c.self.inside.meanings.entries c.args.token.now) ∙ ap (λ m. get m c.args.token.now) c.self.view_is
