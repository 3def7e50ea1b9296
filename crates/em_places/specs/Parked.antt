-- Where each event is by the steps of the pools, as a fold, and which handles are parked in a history.
use Rattle.std.specs.Prelude.{ℕ, ◌≡◌, Bool, true, false, ◌&&◌, List, Option, Some, None}
use Rattle.em_log.specs.declared.declarations.Declarations.{Declarations}
use Rattle.em_log.specs.declared.entry.What.{What}
use Rattle.em_log.specs.declared.ids.Handle.{Handle}
use Rattle.em_log.specs.declared.ids.Note.{Note}
use Rattle.em_log.specs.declared.ids.QueueId.{QueueId}
use Rattle.em_log.specs.declared.ids.Stamp.{Stamp}
use Rattle.em_log.specs.History.{Past, has, index_of, note_words}
use Rattle.em_log.specs.Declarations.{kind_of, is_output}
use Rattle.em_log.specs.Handles.{Minting, minting, last_handle, Spending, spending}
use Rattle.em_log.specs.Operations.{Operation, operation, done}
use Rattle.em_log.specs.Order.{ticket_of_send, enters}
use Rattle.em_log.specs.EventGroups.{busy, applied_notes}
use Rattle.em_log.specs.Places.{waiting, taken, kept, has_item, has_entered, note_queue, application_end}
use Rattle.em_pool.specs.declared.place.Place.{Place}
use Rattle.em_pool.specs.Spots.{spot}
use Rattle.em_parts.specs.PoolSteps.{pool_steps}

-- whether the event of a spent handle is free again

abbrev pub completed_free : Declarations → Past → ℕ → Option ℕ → Bool
completed_free k past h None = false
completed_free k past h (Some q) = has_entered k past h q && is_output (kind_of k q)

abbrev pub noted_free : Declarations → Past → ℕ → List Note → Option Bool → Bool
noted_free k past h notes None = false
noted_free k past h notes (Some true) = completed_free k past h (note_queue h notes)
noted_free k past h notes (Some false) = true

abbrev pub free_after : Declarations → Past → ℕ → What → Bool
free_after k past h (What.Free f) = true
free_after k past h (What.Send f q t s) = has_entered k past h q.0 && is_output (kind_of k q.0)
free_after k past h (What.Begin op job notes) = noted_free k past h notes (done past op.0)
free_after k past h (What.Apply g a n notes) = noted_free k past h notes (application_end past g.0 a)
free_after k past h w = false

-- the handle is in a context, in a queue, taken, held back by order, handed in, or kept, or is the last of a free event, and
-- so its event is there
pub data Parked (k : Declarations) (past : Past) (h : ℕ) (p : Place) : Type 0 where
  InContext : (m : Minting) → minting past h ≡ Some m → spending past h ≡ None → p ≡ Place.Held (record { 0 = m.core }) → Parked k past h p
  InQueue : (q c : ℕ) → is_output (kind_of k q) ≡ false → has_item (waiting k past q c) h ≡ true → p ≡ Place.Waiting (record { 0 = q }) → Parked k past h p
  InTaken : (c : ℕ) → has_item (taken k past c) h ≡ true → p ≡ Place.Taken (record { 0 = c }) → Parked k past h p
  InOrder : (s : Spending) (f : Handle) (q : QueueId) (t : Option ℕ) (st : Option Stamp) → spending past h ≡ Some s → s.what ≡ What.Send f q t st
      → enters past (ticket_of_send s.before s.core t) ≡ false → p ≡ Place.Delayed q → Parked k past h p
  InOperation : (n : ℕ) (o : Operation) → operation past n ≡ Some o → done past n ≡ None → has (note_words o.notes) h ≡ true → p ≡ Place.Noted
      → Parked k past h p
  InGroup : (g : ℕ) → busy past g ≡ true → has (note_words (applied_notes past g)) h ≡ true → p ≡ Place.Noted → Parked k past h p
  InObject : (x : ℕ) → has (kept k past x) h ≡ true → p ≡ Place.Kept (record { 0 = x }) → Parked k past h p
  InPool : (m : Minting) (s : Spending) → last_handle past (index_of h) ≡ Some h → minting past h ≡ Some m → spending past h ≡ Some s
      → free_after k past h s.what ≡ true → p ≡ Place.Free → Parked k past h p

-- the handle is the last of its index, whose event is in this place
pub record Sits (k : Declarations) (past : Past) (h : ℕ) (p : Place) : Type 0 where
  pub last : last_handle past (index_of h) ≡ Some h
  pub spot : spot (pool_steps k past) (index_of h) ≡ p

abbrev pub AllSit : Declarations → Past → Type 0
AllSit k past = (h : ℕ) (p : Place) → Parked k past h p → Sits k past h p
