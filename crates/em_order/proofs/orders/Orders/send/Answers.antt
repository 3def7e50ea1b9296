use Rattle.std.proofs.Common.{◌≡◌, ◌∷◌, Some, ap, sym, ◌∙◌, subst, arith}
use Rattle.std.specs.Option.{option_map}
use Rattle.em_order.specs.State.{ticket_at, ticket_of}
use Rattle.em_order.specs.Stands.{Stands}
use Rattle.em_order.specs.Steps.{Sent}
use Rattle.em_order.proofs.Readings.{least-released}
use Rattle.em_order.proofs.Sends.{way-held, way-first, first-stands, held-stands}
use Rattle.em_order.proofs.orders.Orders.send.Goals as goal

pub returns-then-least-ticket-clause-answer : goal.returns-then-least-ticket-clause-answer
returns-then-least-ticket-clause-answer c = λ s stands.
    let t = c.in-Some.ticket in
    let open_is : ticket_at c.args.self.now c.args.core.0 ≡ Some (ticket_of t) = ap (option_map ticket_of) (sym c.ticket.ensures.value ∙ c.in-Some.is) in
    sym (way-held stands c.args.core.0 t.queue.0 t.number c.least-least.result open_is c.least-least.ensures c.if-least-ticket.true)

pub returns-then-least-ticket-clause-stands : goal.returns-then-least-ticket-clause-stands
returns-then-least-ticket-clause-stands c = λ s stands.
    let t = c.in-Some.ticket in
    let open_is : ticket_at c.args.self.now c.args.core.0 ≡ Some (ticket_of t) = ap (option_map ticket_of) (sym c.ticket.ensures.value ∙ c.in-Some.is) in
    let is = least-released stands c.args.core.0 t.queue.0 t.number c.least-least.result open_is c.least-least.ensures in
    let less = c.if-least-ticket.true in
    subst (λ v. Stands v (Sent c.args.core.0 c.args.item ∷ s)) (sym c.hold.ensures)
    (held-stands stands c.args.core.0 c.args.item t.queue.0 t.number open_is (omega arith) c.requires)

pub returns-else-least-ticket-clause-answer : goal.returns-else-least-ticket-clause-answer
returns-else-least-ticket-clause-answer c = λ s stands.
    let t = c.in-Some.ticket in
    let open_is : ticket_at c.args.self.now c.args.core.0 ≡ Some (ticket_of t) = ap (option_map ticket_of) (sym c.ticket.ensures.value ∙ c.in-Some.is) in
    sym (way-first stands c.args.core.0 t.queue.0 t.number c.least-least.result open_is c.least-least.ensures c.if-least-ticket.false)

pub returns-else-least-ticket-clause-stands : goal.returns-else-least-ticket-clause-stands
returns-else-least-ticket-clause-stands c = λ s stands.
    let t = c.in-Some.ticket in
    let open_is : ticket_at c.args.self.now c.args.core.0 ≡ Some (ticket_of t) = ap (option_map ticket_of) (sym c.ticket.ensures.value ∙ c.in-Some.is) in
    let is = least-released stands c.args.core.0 t.queue.0 t.number c.least-least.result open_is c.least-least.ensures in
    let first = c.if-least-ticket.false in
    first-stands stands c.args.core.0 c.args.item t.queue.0 t.number open_is (omega arith)
