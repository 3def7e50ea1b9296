use Rattle.std.proofs.Common.{ℕ, List, sym, subst}
use Rattle.em_view.specs.Markup.{IsContent}
use Rattle.em_view.proofs.Contents.{put-formed}
use Rattle.em_view.proofs.markup.Markup.append.Goals as goal

pub invariant_of-self : goal.invariant_of-self
invariant_of-self c =
    let more = subst (λ (bs : List ℕ). ∥ IsContent bs ∥₁) (sym c.as_slice.ensures) c.args.more.now.formed in
    record { formed = put-formed _ _ _ _ c.args.self.now.formed more c.extend_from_slice.ensures.items }
