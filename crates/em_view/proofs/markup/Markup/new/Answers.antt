use Rattle.std.proofs.Common.{ℕ, List, sym, subst}
use Rattle.em_view.specs.Markup.{IsContent}
use Rattle.em_view.proofs.Contents.{nothing-formed}
use Rattle.em_view.proofs.markup.Markup.new.Goals as goal

pub invariant_of-result : goal.invariant_of-result
invariant_of-result c = record { formed = subst (λ (bs : List ℕ). ∥ IsContent bs ∥₁) (sym c.new.ensures.items) nothing-formed }
