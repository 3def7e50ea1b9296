use Rattle.std.proofs.Common.{◌≡◌, ℕ, ◌+◌, ◌<◌, ◌∷◌, length, Some, ◌==◌, refl, ap, sym, ◌∙◌, subst, arith}
use Rattle.std.specs.Option.{option_map}
use Rattle.em_log.specs.Order.{Ticket}
use Rattle.em_order.specs.State.{OrderState, ticket_at, ticket_in, ticket_of}
use Rattle.em_order.specs.Stands.{Stands}
use Rattle.em_order.specs.Steps.{Finished}
use Rattle.em_order.proofs.Finishes.{next-apart, next-from, finished-stands}
use Rattle.em_order.proofs.orders.Orders.finish.Goals as goal

pub end-requires-clause-next : goal.end-requires-clause-next
end-requires-clause-next c =
    let t = c.in-Some.ticket in
    let at = c.from.ensures in
    let open_is : ticket_at c.args.self.now c.args.core.0 ≡ Some (ticket_of t) = ap (option_map ticket_of) (sym c.ticket.ensures.value ∙ c.in-Some.is) in
    next-apart c.args.self.now.cores c.args.core.0 t.queue.0 t.number (c.from.result + 1) c.next_open-next.result open_is (omega arith)
    (next-from (c.as_slice.ensures.value ∙ ap (λ (v : OrderState). v.cores) c.self.view_is) t.queue.0 (c.from.result + 1) c.next_open-next.result
    c.next_open-next.ensures)

pub returns-in-Some-clause-stands : goal.returns-in-Some-clause-stands
returns-in-Some-clause-stands c = λ s stands.
    let t = c.in-Some.ticket in
    let at = c.from.ensures in
    let open_is : ticket_at c.args.self.now c.args.core.0 ≡ Some (ticket_of t) = ap (option_map ticket_of) (sym c.ticket.ensures.value ∙ c.in-Some.is) in
    let named = subst (λ (v : OrderState). (d : ℕ) (u : Ticket) → ticket_in v.cores d ≡ Some u → u.queue < length v.queues) c.self.view_is c.self.invariant.named in
    subst (λ v. Stands v (Finished c.args.core.0 ∷ s)) (sym c.end.ensures)
    (finished-stands stands c.args.core.0 t.queue.0 t.number c.least-least.result (c.from.result + 1) c.next_open-next.result
    (c.least-least.result == t.number)
    open_is (named c.args.core.0 (ticket_of t) open_is) c.least-least.ensures (omega arith)
    (next-from (c.as_slice.ensures.value ∙ ap (λ (v : OrderState). v.cores) c.self.view_is) t.queue.0 (c.from.result + 1) c.next_open-next.result
    c.next_open-next.ensures)
    refl)
