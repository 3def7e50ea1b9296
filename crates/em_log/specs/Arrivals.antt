-- What has entered each queue, in order.
use Rattle.std.specs.Prelude.{ℕ, ◌==◌, Bool, true, not, ◌&&◌, ◌||◌, List, [], ◌∷◌, ◌++◌, Option, Some, None, if◌then◌else◌}
use Rattle.em_log.specs.declared.declarations.Declarations.{Declarations}
use Rattle.em_log.specs.declared.entry.Entry.{Entry}
use Rattle.em_log.specs.declared.entry.What.{What}
use Rattle.em_log.specs.declared.ids.Note.{Note}
use Rattle.em_log.specs.declared.ids.Stamp.{Stamp}
use Rattle.em_log.specs.History.{Past}
use Rattle.em_log.specs.Declarations.{kind_of, is_local}
use Rattle.em_log.specs.Handles.{Minting, minting}
use Rattle.em_log.specs.Operations.{operation, notes_of}
use Rattle.em_log.specs.States.{closed}
use Rattle.em_log.specs.Order.{Sent, open_ticket, ticket_of_send, enters, let_in}
use Rattle.em_log.specs.EventGroups.{applied_notes}

abbrev pub note_sent : ℕ → Note → Sent
note_sent d n = record { queue = n.queue.0; core = d; handle = n.word; stamp = None }

-- what a note lets in at completion by core d: nothing where its queue is closed
abbrev pub note_entering : ℕ → Note → Option ℕ → Option Sent
note_entering d n None = Some (note_sent d n)
note_entering d n (Some why) = None

abbrev pub with_sent : Option Sent → List Sent → List Sent
with_sent None ss = ss
with_sent (Some s) ss = s ∷ ss

-- the notes whose queue is open, in order, as completed by core d: now is the history with the completing entry
abbrev pub open_notes : Declarations → Past → ℕ → List Note → List Sent
open_notes k now d [] = []
open_notes k now d (n ∷ ns) = with_sent (note_entering d n (closed k now n.queue.0)) (open_notes k now d ns)

abbrev pub send_entering : Past → ℕ → What → List Sent
send_entering past d (What.Send h q t stamp) =
    if enters past (ticket_of_send past d t)
    then record { queue = q.0; core = d; handle = h.0; stamp = stamp } ∷ []
    else []
send_entering past d w = []

abbrev pub entering_by : Declarations → Past → Past → ℕ → What → List Sent
entering_by k past now d (What.Send h q t stamp) = send_entering past d (What.Send h q t stamp)
entering_by k past now d What.EndOrdered = let_in past now (open_ticket past d)
entering_by k past now d (What.End lost cells) = let_in past now (open_ticket past d)
entering_by k past now d (What.Done op true) = open_notes k now d (notes_of (operation past op.0))
entering_by k past now d (What.Notify g a) = open_notes k now d (applied_notes past g.0)
entering_by k past now d w = []

-- what enters queues at this entry, in order: a send that is not held back, held sends that the end of a ticket
-- lets in, and notes whose queue is open
abbrev pub entering : Declarations → Past → Entry → List Sent
entering k past e = entering_by k past (e ∷ past) e.core.0 e.what

-- a spent handle with its event's kind and words, and the stamp that it was sent with
pub record Item : Type 0 where
  pub handle : ℕ
  pub kind : ℕ
  pub words : List ℕ
  pub stamp : Option Stamp

abbrev pub item_of : ℕ → Option Stamp → Option Minting → List Item
item_of h stamp None = []
item_of h stamp (Some m) = record { handle = h; kind = m.event.kind; words = m.event.words; stamp = stamp } ∷ []

-- the item of what goes to a queue: one, since no handle is spent that was not minted
abbrev pub item : Past → Sent → List Item
item past s = item_of s.handle s.stamp (minting past s.handle)

-- whether it goes to the list of queue q that core c reads: of a local queue each core has its own
abbrev pub is_for : Declarations → ℕ → ℕ → ℕ → ℕ → Bool
is_for k q c r d = (r == q) && (not (is_local (kind_of k q)) || (d == c))

abbrev pub with_items : Declarations → Past → ℕ → ℕ → List Item → List Sent → List Item
with_items k past q c items [] = items
with_items k past q c items (s ∷ ss) =
    with_items k past q c (if is_for k q c s.queue s.core then items ++ item past s else items) ss

-- all that has entered queue q; of a local queue, the list of core c
abbrev pub arrivals : Declarations → Past → ℕ → ℕ → List Item
arrivals k [] q c = []
arrivals k (e ∷ past) q c = with_items k past q c (arrivals k past q c) (entering k past e)
