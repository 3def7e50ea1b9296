-- By the steps of a history what is sent under a ticket, and what its end lets in, is that of the history; all of it is
-- released.
use Rattle.std.proofs.Common.{◌≡◌, ℕ, zero, suc, ◌+◌, ◌-◌, ◌==◌, Bool, true, false, List, [], ◌∷◌, ◌++◌, map, length, drop, Option, Some, None, if◌then◌else◌, IsTrue, arith, refl, ap, sym, ◌∙◌}
use Rattle.std.specs.List.{flat_map}
use Rattle.std.proofs.lemmas.List.{map-append, length-map, drop-map}
use Rattle.std.proofs.Math.Seq.{drop-length}
use Rattle.em_log.specs.declared.declarations.Declarations.{Declarations}
use Rattle.em_log.specs.declared.entry.What.{What}
use Rattle.em_log.specs.History.{Past, entry_by}
use Rattle.em_log.specs.Declarations.{kind_of, is_ordered, numbers_from}
use Rattle.em_log.specs.Order.{Ticket, Sent as LogSent, is_ticket, run_from, with_number, ticket_of_send}
use Rattle.em_log.specs.Order as log
use Rattle.em_order.specs.Steps.{OrderStep, Finished}
use Rattle.em_order.specs.Tickets.{released}
use Rattle.em_order.specs.Sends.{sent_under, let_in, let_in_by, due}
use Rattle.em_arrivals.proofs.Lists.{drop-more}
use Rattle.em_context_parts.specs.OrderSteps.{item_of, released_steps, finished_steps, let_in_count, order_after, order_steps}
use Rattle.em_context_parts.proofs.OpenTickets.{drawn-if, IsFitting, AreFitting}
use Rattle.em_context_parts.proofs.Tickets.{ends-sent, drawn-takes, same-open, same-ended, same-released}

-- releases take the first of what is due
pub releases-due : (n : ℕ) (s : List OrderStep) → due (released_steps n s) ≡ drop n (due s)
releases-due zero s = refl
releases-due (suc n) s =
    let e : n + 1 ≡ suc n = omega arith in
    ap (drop 1) (releases-due n s) ∙ (drop-more n 1 (due s) ∙ ap (λ i. drop i (due s)) e)

module _ (k : Declarations) where
  -- sends

  sent-more : (past : Past) (c : ℕ) (w : What) → AreFitting k past → IsFitting k past c w → (q m : ℕ)
      → sent_under (order_steps past) q m ≡ map item_of (log.sends_under past q m)
      → sent_under (order_after past c w (order_steps past)) q m ≡ map item_of (log.sends_after q m past c w (log.sends_under past q m))
  sent-more past c (What.Take r n (Some t)) fit fits q m same = same
  sent-more past c (What.Take r n None) fit fits q m same = same
  sent-more past c What.EndOrdered fit fits q m same = ends-sent c (log.open_ticket past c) _ q m (order_steps past) ∙ same
  sent-more past c (What.End lost cells) fit fits q m same = ends-sent c (log.open_ticket past c) _ q m (order_steps past) ∙ same
  sent-more past c (What.Send h r t s) fit fits q m same =
      let ticket = same-open k past fit c ∙ sym fits in
      (λ i. if is_ticket q m (ticket i) then same i ++ item_of sent ∷ [] else same i)
      ∙ by_test (is_ticket q m (ticket_of_send past c t))
    where
      sent : LogSent
      sent = record { queue = r.0; core = c; handle = h.0; stamp = s }

      by_test : (b : Bool) → (if b then map item_of (log.sends_under past q m) ++ item_of sent ∷ [] else map item_of (log.sends_under past q m))
          ≡ map item_of (if b then log.sends_under past q m ++ sent ∷ [] else log.sends_under past q m)
      by_test true = sym (map-append item_of (log.sends_under past q m) (sent ∷ []))
      by_test false = refl
  sent-more past c w fit fits q m same = same

  pub same-sent : (past : Past) → AreFitting k past → (q m : ℕ) → sent_under (order_steps past) q m ≡ map item_of (log.sends_under past q m)
  same-sent [] fit q m = refl
  same-sent (e ∷ past) fit q m = sent-more past e.core.0 e.what fit.1 fit.0 q m (same-sent past fit.1 q m)

  same-sent_all : (past : Past) → AreFitting k past → (q : ℕ) (ms : List ℕ)
      → flat_map (sent_under (order_steps past) q) ms ≡ map item_of (log.sends_under_all past q ms)
  same-sent_all past fit q [] = refl
  same-sent_all past fit q (m ∷ ms) =
      (λ i. same-sent past fit q m i ++ same-sent_all past fit q ms i)
      ∙ sym (map-append item_of (log.sends_under past q m) (log.sends_under_all past q ms))

  -- what is let in

  abbrev pub IsOrdered : Option Ticket → Type 0
  IsOrdered None = Unit {0}
  IsOrdered (Some t) = IsTrue (is_ordered (kind_of k t.queue))

  ordered_if : (b : Bool) (x y : Option Ticket) → IsOrdered x → IsOrdered y → IsOrdered (if b then x else y)
  ordered_if true x y a b = a
  ordered_if false x y a b = b

  ordered-more : (past : Past) (c : ℕ) (w : What) → IsFitting k past c w → (o : Option Ticket) → IsOrdered o → IsOrdered (log.ticket_after w o)
  ordered-more past c (What.Take r n (Some t)) fits o is = (drawn-if (is_ordered (kind_of k r.0)) t (log.takes past r.0) fits.1).is
  ordered-more past c (What.Take r n None) fits o is = tt
  ordered-more past c What.EndOrdered fits o is = tt
  ordered-more past c (What.End lost cells) fits o is = tt
  ordered-more past c w fits o is = is

  pub open-ordered : (past : Past) → AreFitting k past → (c : ℕ) → IsOrdered (log.open_ticket past c)
  open-ordered [] fit c = tt
  open-ordered (e ∷ past) fit c =
      let was = open-ordered past fit.1 c in
      ordered_if (e.core.0 == c) (log.ticket_after e.what (log.open_ticket past c)) (log.open_ticket past c)
      (ordered-more past e.core.0 e.what fit.0 (log.open_ticket past c) was) was

  let-in-by : (past now : Past) → AreFitting k past → (c : ℕ)
      → ((q : ℕ) → log.released now q ≡ run_from (log.takes past q) 0 (with_number q (log.open_ticket past c) (log.ended past q)))
      → (o : Option Ticket) → IsOrdered o
      → let_in_by (order_steps past) (Finished c ∷ order_steps past) o ≡ map item_of (log.let_in past now o)
  let-in-by past now fit c after None ordered = refl
  let-in-by past now fit c after (Some t) ordered =
      let q = t.queue in
      let steps = order_steps past in
      let before = same-released k past fit q ordered in
      let now_is : released (Finished c ∷ steps) q ≡ log.released now q =
      (λ i. run_from (drawn-takes k q ordered past fit i) 0 (with_number q (same-open k past fit c i) (same-ended k past fit q i))) ∙ sym (after q) in
      (λ i. flat_map (sent_under steps q) (numbers_from (suc (before i)) (now_is i - before i)))
      ∙ same-sent_all past fit q (numbers_from (suc (log.released past q)) (log.released now q - log.released past q))

  pub same-let_in : (past now : Past) → AreFitting k past → (c : ℕ)
      → ((q : ℕ) → log.released now q ≡ run_from (log.takes past q) 0 (with_number q (log.open_ticket past c) (log.ended past q)))
      → let_in (order_steps past) c ≡ map item_of (log.let_in past now (log.open_ticket past c))
  same-let_in past now fit c after =
      ap (let_in_by (order_steps past) (Finished c ∷ order_steps past)) (same-open k past fit c)
      ∙ let-in-by past now fit c after (log.open_ticket past c) (open-ordered past fit c)

  -- all that is let in was released

  ends-due : (c : ℕ) (o : Option Ticket) (n : ℕ) (s : List OrderStep) → due s ≡ [] → length (let_in s c) ≡ n → due (finished_steps c o n s) ≡ []
  ends-due c None n s none len = none
  ends-due c (Some t) n s none len =
      releases-due n (Finished c ∷ s)
      ∙ (ap (λ l. drop n (l ++ let_in s c)) none ∙ (ap (λ m. drop m (let_in s c)) (sym len) ∙ drop-length (let_in s c)))

  let_in-length : (past : Past) (c : ℕ) (w : What) → AreFitting k past
      → ((q : ℕ) → log.released (entry_by c w ∷ past) q ≡ run_from (log.takes past q) 0 (with_number q (log.open_ticket past c) (log.ended past q)))
      → length (let_in (order_steps past) c) ≡ let_in_count past c w
  let_in-length past c w fit after =
      let ls = log.let_in past (entry_by c w ∷ past) (log.open_ticket past c) in
      ap length (same-let_in past (entry_by c w ∷ past) fit c after) ∙ length-map ls item_of

  due-more : (past : Past) (c : ℕ) (w : What) → AreFitting k past → due (order_steps past) ≡ [] → due (order_after past c w (order_steps past)) ≡ []
  due-more past c (What.Take r n (Some t)) fit none = none
  due-more past c (What.Take r n None) fit none = none
  due-more past c What.EndOrdered fit none =
      ends-due c (log.open_ticket past c) _ (order_steps past) none (let_in-length past c What.EndOrdered fit (λ q. refl))
  due-more past c (What.End lost cells) fit none =
      ends-due c (log.open_ticket past c) _ (order_steps past) none (let_in-length past c (What.End lost cells) fit (λ q. refl))
  due-more past c (What.Send h r t s) fit none = none
  due-more past c w fit none = none

  pub none-due : (past : Past) → AreFitting k past → due (order_steps past) ≡ []
  none-due [] fit = refl
  none-due (e ∷ past) fit = due-more past e.core.0 e.what fit.1 (none-due past fit.1)

  -- what is due once the ticket of core c has ended
  pub finished-due : (past now : Past) → AreFitting k past → (c : ℕ)
      → ((q : ℕ) → log.released now q ≡ run_from (log.takes past q) 0 (with_number q (log.open_ticket past c) (log.ended past q)))
      → due (Finished c ∷ order_steps past) ≡ map item_of (log.let_in past now (log.open_ticket past c))
  finished-due past now fit c after = ap (λ xs. xs ++ let_in (order_steps past) c) (none-due past fit) ∙ same-let_in past now fit c after

  pub rest-due : (past now : Past) → AreFitting k past → (c n : ℕ)
      → ((q : ℕ) → log.released now q ≡ run_from (log.takes past q) 0 (with_number q (log.open_ticket past c) (log.ended past q)))
      → due (released_steps n (Finished c ∷ order_steps past)) ≡ map item_of (drop n (log.let_in past now (log.open_ticket past c)))
  rest-due past now fit c n after =
      releases-due n (Finished c ∷ order_steps past)
      ∙ (ap (drop n) (finished-due past now fit c after) ∙ drop-map item_of n (log.let_in past now (log.open_ticket past c)))
