use Rattle.std.proofs.Common.{◌∷◌, sym, subst}
use Rattle.em_order.specs.Stands.{Stands}
use Rattle.em_order.specs.Steps.{Drawn}
use Rattle.em_order.proofs.Draws.{drawn-stands}
use Rattle.em_order.proofs.orders.Orders.draw.Goals as goal

pub returns-clause-stands : goal.returns-clause-stands
returns-clause-stands c = λ s stands.
    subst (λ v. Stands v (Drawn c.args.queue.0 c.args.core.0 ∷ s)) (sym c.take_ticket.ensures.value)
    (drawn-stands stands c.args.queue.0 c.args.core.0 c.requires.queue c.requires.core c.requires.idle)
