use Rattle.std.proofs.Common.{ap, ◌∙◌}
use Rattle.std.proofs.lemmas.Result.{IfOk-weaker}
use Rattle.em_view.specs.declared.tag.Tag.TheVariants as tags
use Rattle.em_view.specs.Markup.{element}
use Rattle.em_view.proofs.Contents.{page-formed}
use Rattle.em_view.proofs.markup.Markup.page.Goals as goal

pub returns : goal.returns
returns c =
    IfOk-weaker c.element.result _ _ (λ page is. page-formed c.args.width c.args.height _ page.items c.args.self.now.formed
    (is ∙ ap (λ bs. element (tags.Page c.args.width c.args.height) bs) c.as_slice.ensures)) c.element.ensures
