-- The notes of an ask that is completed: each enters its queue, leaves by it, or is lost.
use Rattle.std.proofs.Common.{◌≡◌, ℕ, ◌<◌, ◌==◌, Bool, true, false, List, [], ◌∷◌, ◌++◌, length, map, Option, Some, None, refl, ap, sym, ◌∙◌}
use Rattle.std.proofs.lemmas.Bool.{or_right, eq-eqb}
use Rattle.em_log.specs.declared.declarations.Declarations.{Declarations}
use Rattle.em_log.specs.declared.entry.Event.{Event}
use Rattle.em_log.specs.declared.entry.What.{What}
use Rattle.em_log.specs.declared.ids.Note.{Note}
use Rattle.em_log.specs.declared.ids.Limits.{Limits}
use Rattle.em_log.specs.History.{Past, has, index_of, note_words}
use Rattle.em_log.specs.Declarations.{kind_of, is_output, event_total}
use Rattle.em_log.specs.Places.{waiting, taken}
use Rattle.em_log.specs.Lawful.{AllAllowed}
use Rattle.em_laws.specs.Minted.{HasSmallIndices}
use Rattle.em_log.specs.Handles.{Minting, minting}
use Rattle.em_log.specs.Order.{Sent}
use Rattle.em_log.specs.Arrivals.{with_sent, note_entering, open_notes}
use Rattle.em_log.specs.States.{closed}
use Rattle.em_log.specs.Tails.{note_result, note_results}
use Rattle.em_pool.specs.declared.place.Place.{Place}
use Rattle.em_pool.specs.Steps.{PoolStep, Shifted}
use Rattle.em_pool.specs.Places.{can_shift}
use Rattle.em_pool.specs.Spots.{spot}
use Rattle.em_queues.specs.Steps.{QueueStep, is_listed}
use Rattle.em_parts.specs.PoolSteps.{note_place, note_move, moved, pool_steps}
use Rattle.em_parts.specs.QueueSteps.{arrived_steps, queue_steps}
use Rattle.em_places.specs.Parked.{InQueue, InTaken, Sits}
use Rattle.em_places.proofs.Notes.{AllNoted}
use Rattle.em_places.proofs.Parked.{parked-sit}
use Rattle.em_desk.specs.Acts.{said, with_said, pool_acts, queue_acts, shifted_step, arrived_step, act_index, IsReady, AreReady}
use Rattle.em_desk.specs.Notes.{note_act, note_acts, freed_acts}
use Rattle.em_desk.proofs.FreedNotes.{OnceEach, once-rest, note-below, freed-apart}
use Rattle.em_desk.proofs.Listed.{Located, InQueue as ListedQueue, IsTaken, located}
use Rattle.em_desk.proofs.Sends.{item-at}

-- each word was minted for this event
pub record IsMintedAs (past : Past) (event : ℕ → Event) (n : Note) : Type 0 where
  pub minter : Minting
  pub minted : minting past n.word ≡ Some minter
  pub same : minter.event ≡ event n.word

abbrev pub AreMintedAs : Past → (ℕ → Event) → List Note → Type 0
AreMintedAs past event [] = Unit {0}
AreMintedAs past event (n ∷ ns) = IsMintedAs past event n × AreMintedAs past event ns

-- they move what the completing entry moves

pool-step : (k : Declarations) (d : ℕ) (o : Option ℕ) (e : Event) (n : Note) (s : List PoolStep)
    → Shifted (index_of n.word) (note_place k n.queue.0 o) ∷ s ≡ shifted_step (note_act k d o e n).index (note_act k d o e n).to s
pool-step k d (Some why) e n s = refl
pool-step k d None e n s = by_kind (is_output (kind_of k n.queue.0)) refl
  where
    by_kind : (b : Bool) → is_output (kind_of k n.queue.0) ≡ b
        → Shifted (index_of n.word) (note_place k n.queue.0 None) ∷ s ≡ shifted_step (note_act k d None e n).index (note_act k d None e n).to s
    by_kind true t = rw t refl
    by_kind false t = rw t refl

pub completed-pools : (k : Declarations) (now : Past) (d : ℕ) (event : ℕ → Event) (ns : List Note) (s : List PoolStep)
    → moved (map (note_move k now) ns) s ≡ pool_acts (note_acts k now d event ns) s
completed-pools k now d event [] s = refl
completed-pools k now d event (n ∷ ns) s =
    ap (moved (map (note_move k now) ns)) (pool-step k d (closed k now n.queue.0) (event n.word) n s) ∙ completed-pools k now d event ns _

-- they enter what it lets in

queue-step : (k : Declarations) (past : Past) (d : ℕ) (o : Option ℕ) (event : ℕ → Event) (n : Note) (ss : List Sent) (t : List QueueStep) → IsMintedAs past event n
    → arrived_steps k past (with_sent (note_entering d n o) ss) t ≡ arrived_steps k past ss (arrived_step (note_act k d o (event n.word) n).index (note_act k d o (event n.word) n).enters t)
queue-step k past d (Some why) event n ss t m = refl
queue-step k past d None event n ss t m = by_kind (is_output (kind_of k n.queue.0)) refl
  where
    by_kind : (b : Bool) → is_output (kind_of k n.queue.0) ≡ b
        → arrived_steps k past (with_sent (note_entering d n None) ss) t
        ≡ arrived_steps k past ss (arrived_step (note_act k d None (event n.word) n).index (note_act k d None (event n.word) n).enters t)
    by_kind true kind = rw kind refl
    by_kind false kind = let is = m.minted in rw (kind, is) refl

pub completed-queues : (k : Declarations) (past now : Past) (d : ℕ) (event : ℕ → Event) (ns : List Note) (t : List QueueStep) → AreMintedAs past event ns
    → arrived_steps k past (open_notes k now d ns) t ≡ queue_acts (note_acts k now d event ns) t
completed-queues k past now d event [] t all = refl
completed-queues k past now d event (n ∷ ns) t all =
    queue-step k past d (closed k now n.queue.0) event n (open_notes k now d ns) t all.0 ∙ completed-queues k past now d event ns _ all.1

-- they tell what follows it

told-step : (k : Declarations) (now : Past) (d : ℕ) (o : Option ℕ) (event : ℕ → Event) (n : Note) (ws : List What) → IsMintedAs now event n
    → note_result k now n (note_entering d n o) ++ ws ≡ with_said (note_act k d o (event n.word) n).says ws
told-step k now d (Some why) event n ws m = refl
told-step k now d None event n ws m = by_kind (is_output (kind_of k n.queue.0)) refl
  where
    by_kind : (b : Bool) → is_output (kind_of k n.queue.0) ≡ b
        → note_result k now n (note_entering d n None) ++ ws ≡ with_said (note_act k d None (event n.word) n).says ws
    by_kind true kind = let is = m.minted in let same = m.same in rw (kind, is) (ap (λ (e : Event). What.Out n.queue e.kind e.words ∷ ws) same)
    by_kind false kind = rw kind refl

pub completed-said : (k : Declarations) (now : Past) (d : ℕ) (event : ℕ → Event) (ns : List Note) → AreMintedAs now event ns
    → note_results k now d ns ≡ said (note_acts k now d event ns)
completed-said k now d event [] all = refl
completed-said k now d event (n ∷ ns) all =
    ap (λ ws. note_result k now n (note_entering d n (closed k now n.queue.0)) ++ ws) (completed-said k now d event ns all.1)
    ∙ told-step k now d (closed k now n.queue.0) event n (said (note_acts k now d event ns)) all.0

-- they can be done, where their queues are open

-- what was handed in is in no list
pub noted-unlisted : (k : Declarations) (l : Limits) (past : Past) (h : ℕ) → HasSmallIndices k → AllAllowed k l past → Sits k past h Place.Noted
    → is_listed k (queue_steps k past) (index_of h) ≡ false
noted-unlisted k l past h small all own = by_test (is_listed k (queue_steps k past) (index_of h)) refl
  where
    nowhere : Located k past (index_of h) → ⊥
    nowhere (ListedQueue q c inner there) =
        let found = item-at (waiting k past q c) (index_of h) there in
        let sits = parked-sit k l past small all found.handle (Place.Waiting (record { 0 = q })) (InQueue q c inner found.there refl) in
        let here : spot (pool_steps k past) (index_of h) ≡ Place.Waiting (record { 0 = q }) = ap (spot (pool_steps k past)) (sym found.index) ∙ sits.spot in
        cc (here, own.spot)
    nowhere (IsTaken c there) =
        let found = item-at (taken k past c) (index_of h) there in
        let sits = parked-sit k l past small all found.handle (Place.Taken (record { 0 = c })) (InTaken c found.there refl) in
        let here : spot (pool_steps k past) (index_of h) ≡ Place.Taken (record { 0 = c }) = ap (spot (pool_steps k past)) (sym found.index) ∙ sits.spot in
        cc (here, own.spot)

    by_test : (b : Bool) → is_listed k (queue_steps k past) (index_of h) ≡ b → is_listed k (queue_steps k past) (index_of h) ≡ false
    by_test true on = absurd (nowhere (located k l past all (index_of h) on))
    by_test false off = off

-- the queue of a note is one of the graph, and open
pub record IsOpenNote (k : Declarations) (now : Past) (n : Note) : Type 0 where
  pub declared : n.queue.0 < length k.queues
  pub open_queue : closed k now n.queue.0 ≡ None

abbrev pub AreOpenNotes : Declarations → Past → List Note → Type 0
AreOpenNotes k now [] = Unit {0}
AreOpenNotes k now (n ∷ ns) = IsOpenNote k now n × AreOpenNotes k now ns

one-ready : (k : Declarations) (d : ℕ) (o : Option ℕ) (e : Event) (n : Note) (s : List PoolStep) (t : List QueueStep) → o ≡ None → index_of n.word < event_total k.pools
    → can_shift (spot s (index_of n.word)) ≡ true → n.queue.0 < length k.queues → d < k.cores → is_listed k t (index_of n.word) ≡ false
    → IsReady k s t (note_act k d o e n)
one-ready k d (Some why) e n s t none below can declared core absent = absurd (cc none)
one-ready k d None e n s t none below can declared core absent = by_kind (is_output (kind_of k n.queue.0)) refl
  where
    by_kind : (b : Bool) → is_output (kind_of k n.queue.0) ≡ b → IsReady k s t (note_act k d None e n)
    by_kind true kind = rw kind (record { moves = (below, (can, refl)); enters = tt; says = tt })
    by_kind false kind = rw kind (record { moves = (below, (can, refl)); enters = (below, (declared, (core, absent))); says = tt })

same-index : (k : Declarations) (d : ℕ) (o : Option ℕ) (e : Event) (n : Note) → (note_act k d o e n).index ≡ index_of n.word
same-index k d (Some why) e n = refl
same-index k d None e n = by_kind (is_output (kind_of k n.queue.0)) refl
  where
    by_kind : (b : Bool) → is_output (kind_of k n.queue.0) ≡ b → (note_act k d None e n).index ≡ index_of n.word
    by_kind true kind = rw kind refl
    by_kind false kind = rw kind refl

same-indices : (k : Declarations) (now : Past) (d : ℕ) (event : ℕ → Event) (ns : List Note) → map act_index (note_acts k now d event ns) ≡ map act_index (freed_acts ns)
same-indices k now d event [] = refl
same-indices k now d event (n ∷ ns) =
    (λ i. same-index k d (closed k now n.queue.0) (event n.word) n i ∷ same-indices k now d event ns i)

pub completed-ready : (k : Declarations) (l : Limits) (past now : Past) (d : ℕ) (event : ℕ → Event) (ns : List Note) → HasSmallIndices k → AllAllowed k l past → d < k.cores
    → AllNoted k past ns → OnceEach ns → AreOpenNotes k now ns → AreReady k (pool_steps k past) (queue_steps k past) (note_acts k now d event ns)
completed-ready k l past now d event [] small all core noted once free = tt
completed-ready k l past now d event (n ∷ ns) small all core noted once free = (
  one-ready k d (closed k now n.queue.0) (event n.word) n (pool_steps k past) (queue_steps k past) free.0.open_queue (note-below k l past n.word Place.Noted small all own) (ap can_shift own.spot)
      free.0.declared core (noted-unlisted k l past n.word small all own),
  (
    (λ i. has (same-indices k now d event ns i) (same-index k d (closed k now n.queue.0) (event n.word) n i)) ∙ freed-apart k past n ns noted once,
    completed-ready k l past now d event ns small all core (λ f there. noted f (or_right (n.word == f) (has (note_words ns) f) there)) (once-rest n ns once) free.1,
  ),
)
  where
    own : Sits k past n.word Place.Noted
    own = noted n.word (rw (eq-eqb n.word n.word refl) refl)
