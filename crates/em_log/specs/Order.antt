-- Tickets of ordered queues, how many of the first have ended, and the sends that they hold back.
use Rattle.std.specs.Prelude.{ℕ, zero, suc, ◌-◌, ◌==◌, Bool, true, false, ◌&&◌, nat_le, List, [], ◌∷◌, ◌++◌, Option, Some, None, if◌then◌else◌}
use Rattle.std.specs.List.{flat_map}
use Rattle.std.specs.Option.{option_map}
use Rattle.em_log.specs.declared.entry.What.{What}
use Rattle.em_log.specs.declared.ids.Stamp.{Stamp}
use Rattle.em_log.specs.History.{Past, has}
use Rattle.em_log.specs.Declarations.{numbers_from}
use Rattle.em_log.specs.Contexts.{receives_from}

-- a ticket: its queue and its number, from 0 in the order of the queue's takes
pub record Ticket : Type 0 where
  pub queue : ℕ
  pub number : ℕ

abbrev pub takes_after : ℕ → What → ℕ → ℕ
takes_after q (What.Take r n t) takes = if r.0 == q then suc takes else takes
takes_after q w takes = takes

-- how many takes of the queue there were: the number of its next ticket
abbrev pub takes : Past → ℕ → ℕ
takes [] q = 0
takes (e ∷ past) q = takes_after q e.what (takes past q)

abbrev pub ticket_after : What → Option Ticket → Option Ticket
ticket_after (What.Take q n t) was = option_map (λ m. record { queue = q.0; number = m }) t
ticket_after What.EndOrdered was = None
ticket_after (What.End lost cells) was = None
ticket_after w was = was

-- core c's open ticket: it ends early, or with its context
abbrev pub open_ticket : Past → ℕ → Option Ticket
open_ticket [] c = None
open_ticket (e ∷ past) c = if e.core.0 == c then ticket_after e.what (open_ticket past c) else open_ticket past c

abbrev pub with_number : ℕ → Option Ticket → List ℕ → List ℕ
with_number q None ts = ts
with_number q (Some t) ts = if t.queue == q then t.number ∷ ts else ts

abbrev pub ended_after : Past → ℕ → ℕ → What → List ℕ → List ℕ
ended_after past q c What.EndOrdered ts = with_number q (open_ticket past c) ts
ended_after past q c (What.End lost cells) ts = with_number q (open_ticket past c) ts
ended_after past q c w ts = ts

-- the tickets of the queue that have ended
abbrev pub ended : Past → ℕ → List ℕ
ended [] q = []
ended (e ∷ past) q = ended_after past q e.core.0 e.what (ended past q)

-- how many numbers from t on stand in the list with no gap, of n that are looked at
abbrev pub run_from : ℕ → ℕ → List ℕ → ℕ
run_from zero t ts = 0
run_from (suc n) t ts = if has ts t then suc (run_from n (suc t) ts) else 0

-- how many leading tickets of the queue have all ended
abbrev pub released : Past → ℕ → ℕ
released past q = run_from (takes past q) 0 (ended past q)

-- sends under tickets

-- the ticket of a send by core d, as the send shows its number
abbrev pub ticket_of_send : Past → ℕ → Option ℕ → Option Ticket
ticket_of_send past d None = None
ticket_of_send past d (Some m) = option_map (λ s. record { queue = s; number = m }) (receives_from past d)

-- whether a send under this ticket enters at once
abbrev pub enters : Past → Option Ticket → Bool
enters past None = true
enters past (Some t) = nat_le t.number (released past t.queue)

-- what goes to a queue: a handle, from a core, with a stamp
pub record Sent : Type 0 where
  pub queue : ℕ
  pub core : ℕ
  pub handle : ℕ
  pub stamp : Option Stamp

abbrev pub is_ticket : ℕ → ℕ → Option Ticket → Bool
is_ticket s m None = false
is_ticket s m (Some t) = (t.queue == s) && (t.number == m)

abbrev pub sends_after : ℕ → ℕ → Past → ℕ → What → List Sent → List Sent
sends_after s m past d (What.Send h q t stamp) sends =
    if is_ticket s m (ticket_of_send past d t)
    then sends ++ record { queue = q.0; core = d; handle = h.0; stamp = stamp } ∷ []
    else sends
sends_after s m past d w sends = sends

-- what was sent under ticket m of the ordered queue s, in order
abbrev pub sends_under : Past → ℕ → ℕ → List Sent
sends_under [] s m = []
sends_under (e ∷ past) s m = sends_after s m past e.core.0 e.what (sends_under past s m)

abbrev pub sends_under_all : Past → ℕ → List ℕ → List Sent
sends_under_all past s ms = flat_map (sends_under past s) ms

-- what the end of this ticket lets in, now being the history with it: by ticket, then in the order of sending
abbrev pub let_in : Past → Past → Option Ticket → List Sent
let_in past now None = []
let_in past now (Some t) =
    let before = released past t.queue in
    sends_under_all past t.queue (numbers_from (suc before) (released now t.queue - before))
