use Rattle.std.proofs.Common.{ℕ, List, ◌∙◌, sym, ap, subst}
use Rattle.em_view.specs.Markup.{IsContent, element}
use Rattle.em_view.proofs.Contents.{element-formed, put-formed}
use Rattle.em_view.proofs.markup.Markup.element.Goals as goal

pub invariant_of-self : goal.invariant_of-self
invariant_of-self c =
    let is = c.as_slice-2.ensures.value ∙ c.in_ok-element.ensures ∙ ap (λ bs. element c.args.tag bs) c.as_slice.ensures in
    let more = subst (λ (bs : List ℕ). ∥ IsContent bs ∥₁) (sym is) (element-formed c.args.tag _ c.args.inner.now.formed) in
    record { formed = put-formed _ _ _ _ c.args.self.now.formed more c.extend_from_slice.ensures.items }
