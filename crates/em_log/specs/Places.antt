-- First in, first out: what waits and what is taken; the place of each event.
use Rattle.std.specs.Prelude.{ℕ, suc, ◌+◌, ◌-◌, ◌==◌, Bool, true, false, ◌&&◌, List, [], ◌∷◌, ◌++◌, length, take, drop, Option, Some, None, if◌then◌else◌}
use Rattle.std.specs.List.{list_any, find}
use Rattle.std.specs.Option.{option_map_or}
use Rattle.em_log.specs.declared.declarations.Declarations.{Declarations}
use Rattle.em_log.specs.declared.entry.What.{What}
use Rattle.em_log.specs.declared.ids.Note.{Note}
use Rattle.em_log.specs.History.{Past}
use Rattle.em_log.specs.Declarations.{below, is_number, kind_of, is_output}
use Rattle.em_log.specs.Contexts.{receives_from, context_object}
use Rattle.em_log.specs.Handles.{Minting, Spending, minting, spending, last_handle}
use Rattle.em_log.specs.Operations.{done}
use Rattle.em_log.specs.EventGroups.{applications}
use Rattle.em_log.specs.Arrivals.{Item, arrivals, is_for}

-- waiting and taken

abbrev pub gone_after : Declarations → Past → ℕ → ℕ → ℕ → What → ℕ → ℕ
gone_after k past q c d (What.Take r n t) gone = if is_for k q c r.0 d then gone + n else gone
gone_after k past q c d (What.Untake r n) gone = if is_for k q c r.0 d then gone - n else gone
gone_after k past q c d (What.EndAtomic rest cells) gone =
    if option_map_or (λ r. is_for k q c r d) (receives_from past d) false then gone - rest else gone
gone_after k past q c d (What.Dequeue r (Some e)) gone = if is_for k q c r.0 d then suc gone else gone
gone_after k past q c d w gone = gone

-- how many have left the front of the list: by takes, less what was given back, and by dequeues
abbrev pub gone : Declarations → Past → ℕ → ℕ → ℕ
gone k [] q c = 0
gone k (e ∷ past) q c = gone_after k past q c e.core.0 e.what (gone k past q c)

-- what waits in queue q; of a local queue, in the list of core c
abbrev pub waiting : Declarations → Past → ℕ → ℕ → List Item
waiting k past q c = drop (gone k past q c) (arrivals k past q c)

abbrev pub taken_after : Declarations → Past → ℕ → What → List Item → List Item
taken_after k past c (What.Take q n t) items = take n (waiting k past q.0 c)
taken_after k past c (What.Start q e s) items = drop 1 items
taken_after k past c (What.Untake q n) items = []
taken_after k past c (What.EndAtomic rest cells) items = []
taken_after k past c w items = items

-- what core c has taken and not started, in order
abbrev pub taken : Declarations → Past → ℕ → List Item
taken k [] c = []
taken k (e ∷ past) c = if e.core.0 == c then taken_after k past c e.what (taken k past c) else taken k past c

abbrev pub started_after : What → ℕ → ℕ
started_after (What.Start q e s) n = suc n
started_after w n = n

-- how many receives have started
abbrev pub started : Past → ℕ
started [] = 0
started (e ∷ past) = started_after e.what (started past)

abbrev pub taken_by_all : Declarations → Past → List ℕ → ℕ
taken_by_all k past [] = 0
taken_by_all k past (c ∷ cs) = length (taken k past c) + taken_by_all k past cs

-- receives that have started, or whose event is taken
abbrev pub promised : Declarations → Past → ℕ
promised k past = started past + taken_by_all k past (below k.cores)

-- kept events

abbrev pub kept_after : Declarations → Past → ℕ → ℕ → What → List ℕ → List ℕ
kept_after k past x d (What.Keep h) kept = if is_number x (context_object k past d) then kept ++ h.0 ∷ [] else kept
kept_after k past x d (What.Claim (Some e)) kept = if is_number x (context_object k past d) then drop 1 kept else kept
kept_after k past x d w kept = kept

-- the handles by which an object keeps events, the longest kept first
abbrev pub kept : Declarations → Past → ℕ → List ℕ
kept k [] x = []
kept k (e ∷ past) x = kept_after k past x e.core.0 e.what (kept k past x)

-- places

-- where an event is
pub data Place : Type 0 where
  Free : Place
  Held : (core : ℕ) → Place
  Kept : (object : Option ℕ) → Place
  Waiting : (queue : ℕ) → Place
  Taken : (core : ℕ) → Place
  Delayed : (queue : ℕ) → Place
  Noted : Place
  Lost : Place

abbrev pub is_item : ℕ → Item → Bool
is_item h x = x.handle == h

abbrev pub has_item : List Item → ℕ → Bool
has_item xs h = list_any (is_item h) xs

-- whether the handle has entered a list of the queue
abbrev pub has_entered : Declarations → Past → ℕ → ℕ → Bool
has_entered k past h q = list_any (λ c. has_item (arrivals k past q c) h) (below k.cores)

-- the core that has taken the handle and not started its event
abbrev pub taker : Declarations → Past → ℕ → Option ℕ
taker k past h = find (λ c. has_item (taken k past c) h) (below k.cores)

-- the place of an event that entered the queue: past an output it is free
abbrev pub entered_place : Declarations → Past → ℕ → ℕ → Place
entered_place k past h q =
    if is_output (kind_of k q) then Free else option_map_or Taken (taker k past h) (Waiting q)

-- the queue that a note of this word goes to
abbrev pub note_queue : ℕ → List Note → Option ℕ
note_queue h [] = None
note_queue h (n ∷ ns) = if n.word == h then Some n.queue.0 else note_queue h ns

-- the place of a note's event after completion: in its queue, or lost where that was closed
abbrev pub completed_place : Declarations → Past → ℕ → Option ℕ → Place
completed_place k past h None = Lost
completed_place k past h (Some q) = if has_entered k past h q then entered_place k past h q else Lost

-- how an application ended, if it did: true where it notified, false where it was aborted
abbrev pub ended_by : ℕ → ℕ → ℕ → What → Option Bool → Option Bool
ended_by g a m (What.Notify h b) was = if (h.0 == g) && (b == a) then Some true else was
ended_by g a m (What.Abort h) was = if (h.0 == g) && (m == a) then Some false else was
ended_by g a m w was = was

abbrev pub application_end : Past → ℕ → ℕ → Option Bool
application_end [] g a = None
application_end (e ∷ past) g a = ended_by g a (applications past g) e.what (application_end past g a)

-- the place of a noted event, whose notes go to their queues where this is true, and are freed where it is false
abbrev pub noted_place : Declarations → Past → ℕ → List Note → Option Bool → Place
noted_place k past h notes None = Noted
noted_place k past h notes (Some true) = completed_place k past h (note_queue h notes)
noted_place k past h notes (Some false) = Free

-- the place of an event whose last handle was spent by this entry of core d, made after before
abbrev pub place_after : Declarations → Past → ℕ → Past → ℕ → What → Place
place_after k past h before d (What.Free f) = Free
place_after k past h before d (What.Keep f) = Kept (context_object k before d)
place_after k past h before d (What.Send f q t s) =
    if has_entered k past h q.0 then entered_place k past h q.0 else Delayed q.0
place_after k past h before d (What.Begin op job notes) = noted_place k past h notes (done past op.0)
place_after k past h before d (What.Apply g a n notes) = noted_place k past h notes (application_end past g.0 a)
place_after k past h before d w = Lost

abbrev pub place_of : Declarations → Past → ℕ → Option Minting → Option Spending → Place
place_of k past h None s = Free
place_of k past h (Some m) None = Held m.core
place_of k past h (Some m) (Some s) = place_after k past h s.before s.core s.what

abbrev pub place_by : Declarations → Past → Option ℕ → Place
place_by k past None = Free
place_by k past (Some h) = place_of k past h (minting past h) (spending past h)

-- where the event of index i is, read off its last minting and what became of that handle
abbrev pub place : Declarations → Past → ℕ → Place
place k past i = place_by k past (last_handle past i)

abbrev pub is_free : Place → Bool
is_free Free = true
is_free _ = false

-- how many of these events are live: not free
abbrev pub live : Declarations → Past → List ℕ → ℕ
live k past [] = 0
live k past (i ∷ is) = if is_free (place k past i) then live k past is else suc (live k past is)

-- the first of these events that is free
abbrev pub first_free : Declarations → Past → List ℕ → Option ℕ
first_free k past is = find (λ i. is_free (place k past i)) is
