-- Events that are handed in with an ask, as notes: by the steps of the pools.
use Rattle.std.specs.Prelude.{ℕ, ◌≡◌, List, [], ◌∷◌, map, Option, Some, None, if◌then◌else◌}
use Rattle.std.specs.Option.{option_or}
use Rattle.em_log.specs.declared.fault.Fault.{Fault}
use Rattle.em_log.specs.declared.ids.Note.{Note}
use Rattle.em_log.specs.declared.declarations.Declarations.{Declarations}
use Rattle.em_log.specs.declared.entry.Event.{Event}
use Rattle.em_log.specs.declared.entry.What.{What}
use Rattle.em_log.specs.declared.fault.Call.{Call}
use Rattle.em_log.specs.Declarations.{kind_of, is_output}
use Rattle.em_log.specs.History.{Past, has, index_of}
use Rattle.em_log.specs.States.{closed}
use Rattle.em_pool.specs.declared.place.Place.{Place}
use Rattle.em_pool.specs.Steps.{PoolStep}
use Rattle.em_pool.specs.Handles.{rule}
use Rattle.em_pool.specs.State.{PoolState}
use Rattle.em_pool.specs.Stands as pools
use Rattle.em_desk.specs.declared.acts.Act.{Act}
use Rattle.em_desk.specs.Acts.{out_said}

-- the first word among the notes that core c may not use, by the entry at this place: one that stood in an earlier note is
-- spent by this very entry
abbrev pub notes_refusal : List PoolStep → ℕ → ℕ → List ℕ → List Note → Option Fault
notes_refusal steps c place seen [] = None
notes_refusal steps c place seen (n ∷ ns) =
    option_or (if has seen n.word then Some (Fault.SpentBySend place) else rule steps c n.word) (notes_refusal steps c place (n.word ∷ seen) ns)

-- core c may hand these notes in
pub record CanNote (v : PoolState) (c place : ℕ) (ns : List Note) : Type 0 where
  pub steps : List PoolStep
  pub stands : pools.Stands v steps
  pub free : notes_refusal steps c place [] ns ≡ None

-- the event of a note is freed
abbrev pub freed_act : Note → Act
freed_act n = record { index = index_of n.word; to = Some Place.Free; enters = None; says = None }

abbrev pub freed_acts : List Note → List Act
freed_acts ns = map freed_act ns

-- what core d has still to do for a note as its ask is completed, e being its event: it enters its queue, or leaves by it where
-- that is an output; where the queue is closed it is lost, and a fault says so
abbrev pub note_act : Declarations → ℕ → Option ℕ → Event → Note → Act
note_act k d None e n =
    if is_output (kind_of k n.queue.0)
    then record { index = index_of n.word; to = Some Place.Free; enters = None; says = out_said n.queue e }
    else record { index = index_of n.word; to = Some (Place.Waiting n.queue); enters = Some (record { queue = n.queue; core = record { 0 = d } }); says = None }
note_act k d (Some why) e n =
    record { index = index_of n.word; to = Some Place.Lost; enters = None; says = Some (What.Fault Call.Note (Fault.NoteLost n.queue) None) }

-- the same of each note, in order, after the entry that completes the ask, which is the first of now
abbrev pub note_acts : Declarations → Past → ℕ → (ℕ → Event) → List Note → List Act
note_acts k now d event ns = map (λ n. note_act k d (closed k now n.queue.0) (event n.word) n) ns
