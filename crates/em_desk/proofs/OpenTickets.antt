-- The tickets that the desk keeps are those of the history.
use Rattle.std.proofs.Common.{◌≡◌, ℕ, ◌<◌, Bool, true, false, [], ◌∷◌, List, length, Option, Some, None, refl, ap, sym, ◌∙◌, subst, arith, if◌then◌else◌}
use Rattle.std.specs.Option.{option_map}
use Rattle.std.proofs.lemmas.Bool.{eq-eqb}
use Rattle.em_log.specs.declared.declarations.Declarations.{Declarations}
use Rattle.em_log.specs.declared.entry.Event.{Event}
use Rattle.em_log.specs.declared.entry.What.{What}
use Rattle.em_log.specs.declared.ids.QueueId.{QueueId}
use Rattle.em_log.specs.declared.ids.Stamp.{Stamp}
use Rattle.em_log.specs.History.{Past, entry_by}
use Rattle.em_log.specs.Declarations.{kind_of, is_ordered}
use Rattle.em_log.specs.Contexts.{context}
use Rattle.em_log.specs.Eligible.{ticket_drawn}
use Rattle.em_log.specs.Leads.{open_number}
use Rattle.em_log.specs.Order.{Ticket, takes}
use Rattle.em_bounds.proofs.Paid.{is-paid}
use Rattle.em_order.specs.Steps.{OrderStep}
use Rattle.em_order.specs.State.{OrderState, shape}
use Rattle.em_order.specs.Tickets as part
use Rattle.em_order.specs.Stands as order
use Rattle.em_context_parts.specs.OrderSteps.{order_steps, order_after}
use Rattle.em_context_parts.specs.OrderAlike.{OrdersAlike, TicketsOwned}
use Rattle.em_context_parts.proofs.Orders.{orders-alike, tickets-owned}
use Rattle.em_desk.specs.declared.parts.Parts.{Parts}
use Rattle.em_desk.specs.Orders.{OrdersStand, CanDraw, drawn_steps, number_drawn}
use Rattle.em_desk.specs.Standing.{Standing, Stands}
use Rattle.em_desk.proofs.Rooms.{needed-most, limit-most}
use Rattle.em_desk.proofs.Begun.{untaken}

pub settled-orders : (p : Parts) (b : ℕ) → Standing p b [] → order.Stands p.orders (order_steps p.history.past)
settled-orders p b s = subst (order.Stands p.orders) (sym s.orders.lag) s.orders.stands

pub alike : (p : Parts) → Stands p → OrdersAlike p.declarations p.history.past
alike p s = orders-alike p.declarations p.limits p.history.past s.all

pub owned : (p : Parts) → Stands p → TicketsOwned p.declarations p.history.past
owned p s = tickets-owned p.declarations p.limits p.history.past s.all

-- a draw

-- the number that a take of the queue draws
abbrev pub next_number : Parts → QueueId → Option ℕ
next_number p q = ticket_drawn p.declarations p.history.past q.0

pub can-draw : (p : Parts) (c q : ℕ) → Stands p → c < p.declarations.cores → q < length p.declarations.queues → context p.history.past c ≡ None
    → CanDraw p.declarations p.orders q c
can-draw p c q s core queue closed =
    let stands = settled-orders p 0 s in
    record {
      queue = subst (λ v. q < v.queues) (sym s.orders.shape) queue;
      core = subst (λ v. c < v.cores) (sym s.orders.shape) core;
      idle = stands.tickets c ∙ ((alike p s).ticket c ∙ (owned p s).idle c closed (untaken p 0 c s));
      few = λ on.
          let is = stands.drawn_is q in
          let same = (alike p s).drawn q on in
          let most = (alike p s).few q in
          let law = is-paid p.declarations p.limits p.history.past s.all in
          let enough = needed-most p.declarations p.limits p.history.past s.fixed.limits.some_burst (record { each = s.all; whole = s.due }) s.afforded in
          let short = limit-most p.declarations p.limits s.fixed.graph.most_cores s.fixed.limits.most_receives in
          omega (arith, is, same, most, law, enough, short);
    }

pub number-is : (p : Parts) (q : QueueId) (n : Option ℕ) → Stands p
    → ((s : List OrderStep) → order.Stands p.orders s → n ≡ number_drawn p.declarations s q.0) → n ≡ next_number p q
number-is p q n s answer = answer (order_steps p.history.past) (settled-orders p 0 s) ∙ by_kind (is_ordered (kind_of p.declarations q.0)) refl
  where
    by_kind : (b : Bool) → is_ordered (kind_of p.declarations q.0) ≡ b
        → (if b then Some (part.drawn (order_steps p.history.past) q.0) else None) ≡ (if b then Some (takes p.history.past q.0) else None)
    by_kind true t = ap Some ((alike p s).drawn q.0 t)
    by_kind false t = refl

drawn-steps : (k : Declarations) (past : Past) (c : ℕ) (q : QueueId) (s : List OrderStep)
    → drawn_steps k q.0 c s ≡ order_after past c (What.Take q 1 (ticket_drawn k past q.0)) s
drawn-steps k past c q s = by_kind (is_ordered (kind_of k q.0)) refl
  where
    by_kind : (b : Bool) → is_ordered (kind_of k q.0) ≡ b → drawn_steps k q.0 c s ≡ order_after past c (What.Take q 1 (ticket_drawn k past q.0)) s
    by_kind true t = rw t refl
    by_kind false t = rw t refl

-- after the take and the start of what was taken
pub drawn-stands : (p : Parts) (v : OrderState) (c : ℕ) (q : QueueId) (e : Event) (stamp : Option Stamp) → Stands p
    → ((s : List OrderStep) → order.Stands p.orders s → order.Stands v (drawn_steps p.declarations q.0 c s)) → shape v ≡ shape p.orders
    → OrdersStand p.declarations v (entry_by c (What.Start q e stamp) ∷ entry_by c (What.Take q 1 (next_number p q)) ∷ p.history.past) 0
drawn-stands p v c q e stamp s stands same =
    record {
      steps = drawn_steps p.declarations q.0 c (order_steps p.history.past);
      stands = stands (order_steps p.history.past) (settled-orders p 0 s);
      lag = sym (drawn-steps p.declarations p.history.past c q (order_steps p.history.past));
      shape = same ∙ s.orders.shape;
    }

-- the context that begins so has the ticket
pub number-told : (past : Past) (c : ℕ) (q : QueueId) (n : Option ℕ) (e : Event) (stamp : Option Stamp)
    → open_number (entry_by c (What.Start q e stamp) ∷ entry_by c (What.Take q 1 n) ∷ past) c ≡ n
number-told past c q n e stamp = let own = eq-eqb c c refl in rw own (by_number n)
  where
    number : Ticket → ℕ
    number t = t.number

    by_number : (n : Option ℕ) → option_map number (option_map (λ (m : ℕ). record { queue = q.0; number = m }) n) ≡ n
    by_number None = refl
    by_number (Some m) = refl
