-- By the steps of a history the tickets that are drawn, open and ended are those of the history.
use Rattle.std.proofs.Common.{◌≡◌, ℕ, zero, suc, ◌≤◌, ◌==◌, Bool, true, false, List, [], ◌∷◌, Option, Some, None, if◌then◌else◌, IsTrue, length, arith, refl, ap, sym, ◌∙◌, subst}
use Rattle.std.proofs.lemmas.Bool.{eqb-true}
use Rattle.em_log.specs.declared.declarations.Declarations.{Declarations}
use Rattle.em_log.specs.declared.entry.What.{What}
use Rattle.em_log.specs.History.{Past}
use Rattle.em_log.specs.Declarations.{kind_of, is_ordered}
use Rattle.em_log.specs.Eligible.{ticket_drawn}
use Rattle.em_log.specs.Order.{Ticket, run_from, with_number}
use Rattle.em_log.specs.Order as log
use Rattle.em_order.specs.Steps.{OrderStep, Finished}
use Rattle.em_order.specs.Tickets.{drawn, open_ticket, ended, released}
use Rattle.em_order.specs.Sends.{sent_under}
use Rattle.em_laws.proofs.Cores.{if-same}
use Rattle.em_context_parts.specs.OrderSteps.{released_steps, finished_steps, order_after, order_steps}
use Rattle.em_context_parts.proofs.OpenTickets.{drawn-if, IsFitting, AreFitting}

-- releases change none of these

releases-drawn : (n q : ℕ) (s : List OrderStep) → drawn (released_steps n s) q ≡ drawn s q
releases-drawn zero q s = refl
releases-drawn (suc n) q s = releases-drawn n q s

releases-open : (n c : ℕ) (s : List OrderStep) → open_ticket (released_steps n s) c ≡ open_ticket s c
releases-open zero c s = refl
releases-open (suc n) c s = releases-open n c s

releases-ended : (n q : ℕ) (s : List OrderStep) → ended (released_steps n s) q ≡ ended s q
releases-ended zero q s = refl
releases-ended (suc n) q s = releases-ended n q s

releases-sent : (n q m : ℕ) (s : List OrderStep) → sent_under (released_steps n s) q m ≡ sent_under s q m
releases-sent zero q m s = refl
releases-sent (suc n) q m s = releases-sent n q m s

-- the end of a ticket, if one is open

ends-drawn : (c : ℕ) (o : Option Ticket) (n q : ℕ) (s : List OrderStep) → drawn (finished_steps c o n s) q ≡ drawn s q
ends-drawn c None n q s = refl
ends-drawn c (Some t) n q s = releases-drawn n q (Finished c ∷ s)

pub ends-sent : (c : ℕ) (o : Option Ticket) (n q m : ℕ) (s : List OrderStep) → sent_under (finished_steps c o n s) q m ≡ sent_under s q m
ends-sent c None n q m s = refl
ends-sent c (Some t) n q m s = releases-sent n q m (Finished c ∷ s)

none_if : (c d : ℕ) (s : List OrderStep) → open_ticket s c ≡ None → (b : Bool) → (c == d) ≡ b → open_ticket s d ≡ (if b then None else open_ticket s d)
none_if c d s is true e = subst (λ j. open_ticket s j ≡ None) (eqb-true c d e) is
none_if c d s is false e = refl

ends-open : (c : ℕ) (o : Option Ticket) (n d : ℕ) (s : List OrderStep) → open_ticket s c ≡ o
    → open_ticket (finished_steps c o n s) d ≡ (if c == d then None else open_ticket s d)
ends-open c None n d s is = none_if c d s is (c == d) refl
ends-open c (Some t) n d s is = releases-open n d (Finished c ∷ s)

ends-ended : (c : ℕ) (o : Option Ticket) (n q : ℕ) (s : List OrderStep) → open_ticket s c ≡ o
    → ended (finished_steps c o n s) q ≡ with_number q o (ended s q)
ends-ended c None n q s is = refl
ends-ended c (Some t) n q s is = releases-ended n q (Finished c ∷ s) ∙ ap (λ o. with_number q o (ended s q)) is

drawn-none : (b : Bool) (n : ℕ) → ◌≡◌ {A = Option ℕ} None (if b then Some n else None) → IsTrue b → ⊥
drawn-none true n e is = absurd cc
drawn-none false n e is = absurd cc

module _ (k : Declarations) where
  -- tickets drawn

  module _ (q : ℕ) (ordered : IsTrue (is_ordered (kind_of k q))) where
    unticketed : (past : Past) (r : ℕ) → ◌≡◌ {A = Option ℕ} None (ticket_drawn k past r) → (b : Bool) → (r == q) ≡ b
        → log.takes past q ≡ (if b then suc (log.takes past q) else log.takes past q)
    unticketed past r fits true e =
        absurd (drawn-none (is_ordered (kind_of k r)) (log.takes past r) fits (subst (λ j. IsTrue (is_ordered (kind_of k j))) (sym (eqb-true r q e)) ordered))
    unticketed past r fits false e = refl

    drawn-more : (past : Past) (c : ℕ) (w : What) → IsFitting k past c w → drawn (order_steps past) q ≡ log.takes past q
        → drawn (order_after past c w (order_steps past)) q ≡ log.takes_after q w (log.takes past q)
    drawn-more past c (What.Take r n (Some t)) fits same = ap (λ j. if r.0 == q then suc j else j) same
    drawn-more past c (What.Take r n None) fits same = same ∙ unticketed past r.0 fits.1 (r.0 == q) refl
    drawn-more past c What.EndOrdered fits same = ends-drawn c (log.open_ticket past c) _ q (order_steps past) ∙ same
    drawn-more past c (What.End lost cells) fits same = ends-drawn c (log.open_ticket past c) _ q (order_steps past) ∙ same
    drawn-more past c (What.Send h r t s) fits same = same
    drawn-more past c w fits same = same

    pub drawn-takes : (past : Past) → AreFitting k past → drawn (order_steps past) q ≡ log.takes past q
    drawn-takes [] fit = refl
    drawn-takes (e ∷ past) fit = drawn-more past e.core.0 e.what fit.0 (drawn-takes past fit.1)

  -- open tickets

  open-more : (past : Past) (c : ℕ) (w : What) → AreFitting k past → IsFitting k past c w → (d : ℕ)
      → ((j : ℕ) → open_ticket (order_steps past) j ≡ log.open_ticket past j)
      → open_ticket (order_after past c w (order_steps past)) d ≡ (if c == d then log.ticket_after w (log.open_ticket past d) else log.open_ticket past d)
  open-more past c (What.Take r n (Some t)) fit fits d same =
      let is = drawn-if (is_ordered (kind_of k r.0)) t (log.takes past r.0) fits.1 in
      let number : drawn (order_steps past) r.0 ≡ t = drawn-takes r.0 is.is past fit ∙ sym is.number in
      (λ i. if c == d then Some (record { queue = r.0; number = number i }) else same d i)
  open-more past c (What.Take r n None) fit fits d same = same d ∙ by_test (c == d) refl
    where
      by_test : (b : Bool) → (c == d) ≡ b → log.open_ticket past d ≡ (if b then None else log.open_ticket past d)
      by_test true e = subst (λ j. log.open_ticket past j ≡ None) (eqb-true c d e) fits.0
      by_test false e = refl
  open-more past c What.EndOrdered fit fits d same =
      ends-open c (log.open_ticket past c) _ d (order_steps past) (same c) ∙ ap (λ o. if c == d then None else o) (same d)
  open-more past c (What.End lost cells) fit fits d same =
      ends-open c (log.open_ticket past c) _ d (order_steps past) (same c) ∙ ap (λ o. if c == d then None else o) (same d)
  open-more past c (What.Send h r t s) fit fits d same = same d ∙ sym (if-same (c == d) (log.open_ticket past d))
  open-more past c w fit fits d same = same d ∙ sym (if-same (c == d) (log.open_ticket past d))

  pub same-open : (past : Past) → AreFitting k past → (c : ℕ) → open_ticket (order_steps past) c ≡ log.open_ticket past c
  same-open [] fit c = refl
  same-open (e ∷ past) fit c = open-more past e.core.0 e.what fit.1 fit.0 c (same-open past fit.1)

  -- ended tickets

  ended-more : (past : Past) (c : ℕ) (w : What) → AreFitting k past → (q : ℕ) → ended (order_steps past) q ≡ log.ended past q
      → ended (order_after past c w (order_steps past)) q ≡ log.ended_after past q c w (log.ended past q)
  ended-more past c (What.Take r n (Some t)) fit q same = same
  ended-more past c (What.Take r n None) fit q same = same
  ended-more past c What.EndOrdered fit q same =
      ends-ended c (log.open_ticket past c) _ q (order_steps past) (same-open past fit c) ∙ ap (with_number q (log.open_ticket past c)) same
  ended-more past c (What.End lost cells) fit q same =
      ends-ended c (log.open_ticket past c) _ q (order_steps past) (same-open past fit c) ∙ ap (with_number q (log.open_ticket past c)) same
  ended-more past c (What.Send h r t s) fit q same = same
  ended-more past c w fit q same = same

  pub same-ended : (past : Past) → AreFitting k past → (q : ℕ) → ended (order_steps past) q ≡ log.ended past q
  same-ended [] fit q = refl
  same-ended (e ∷ past) fit q = ended-more past e.core.0 e.what fit.1 q (same-ended past fit.1 q)

  pub same-released : (past : Past) → AreFitting k past → (q : ℕ) → IsTrue (is_ordered (kind_of k q)) → released (order_steps past) q ≡ log.released past q
  same-released past fit q ordered = (λ i. run_from (drawn-takes q ordered past fit i) 0 (same-ended past fit q i))

-- no more tickets of a queue are drawn than there are entries
pub takes-few : (past : Past) (q : ℕ) → log.takes past q ≤ length past
takes-few [] q = omega arith
takes-few (e ∷ past) q = next e.what (takes-few past q)
  where
    next : (w : What) → log.takes past q ≤ length past → log.takes_after q w (log.takes past q) ≤ suc (length past)
    next (What.Take r n t) few = by_test (r.0 == q)
      where
        by_test : (b : Bool) → (if b then suc (log.takes past q) else log.takes past q) ≤ suc (length past)
        by_test true = omega (arith, few)
        by_test false = omega (arith, few)
    next w few = omega (arith, few)
