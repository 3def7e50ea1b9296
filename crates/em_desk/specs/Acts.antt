-- What an ask has still to do: an event goes to a place, enters a queue, or is told by an entry.
use Rattle.std.specs.Prelude.{ℕ, ◌≡◌, ◌<◌, false, List, [], ◌∷◌, length, map, Option, Some, None, IsTrue, if◌then◌else◌}
use Rattle.em_log.specs.declared.declarations.Declarations.{Declarations}
use Rattle.em_log.specs.declared.entry.What.{What}
use Rattle.em_log.specs.declared.entry.Event.{Event}
use Rattle.em_log.specs.declared.fault.Call.{Call}
use Rattle.em_log.specs.declared.fault.Fault.{Fault}
use Rattle.em_log.specs.declared.ids.QueueId.{QueueId}
use Rattle.em_log.specs.History.{Past, entry_by, has, index_of}
use Rattle.em_log.specs.Declarations.{kind_of, is_output, event_total}
use Rattle.em_pool.specs.declared.place.Place.{Place}
use Rattle.em_pool.specs.Steps.{PoolStep, Shifted}
use Rattle.em_pool.specs.Places.{can_shift, is_shift_target}
use Rattle.em_pool.specs.Spots.{spot}
use Rattle.em_pool.specs.Handles.{last_event}
use Rattle.em_queues.specs.Steps.{QueueStep, Arrived, is_listed}
use Rattle.em_order.specs.declared.item_list.Item.{Item}
use Rattle.em_desk.specs.declared.acts.Act.{Act}
use Rattle.em_desk.specs.declared.acts.Entrance.{Entrance}

-- entries

abbrev pub with_said : Option What → List What → List What
with_said None ws = ws
with_said (Some w) ws = w ∷ ws

-- the entries that these acts tell, in order, and then these
abbrev pub said_then : List Act → List What → List What
said_then [] rest = rest
said_then (a ∷ acts) rest = with_said a.says (said_then acts rest)

abbrev pub said : List Act → List What
said acts = said_then acts []

abbrev pub past_after : ℕ → Option What → Past → Past
past_after c None past = past
past_after c (Some w) past = entry_by c w ∷ past

-- steps of the parts

abbrev pub shifted_step : ℕ → Option Place → List PoolStep → List PoolStep
shifted_step i None s = s
shifted_step i (Some to) s = Shifted i to ∷ s

abbrev pub arrived_step : ℕ → Option Entrance → List QueueStep → List QueueStep
arrived_step i None t = t
arrived_step i (Some e) t = Arrived e.queue.0 e.core.0 i ∷ t

abbrev pub pool_acts : List Act → List PoolStep → List PoolStep
pool_acts [] s = s
pool_acts (a ∷ acts) s = pool_acts acts (shifted_step a.index a.to s)

abbrev pub queue_acts : List Act → List QueueStep → List QueueStep
queue_acts [] t = t
queue_acts (a ∷ acts) t = queue_acts acts (arrived_step a.index a.enters t)

-- what an act needs

abbrev pub CanMove : Declarations → List PoolStep → ℕ → Option Place → Type 0
CanMove k s i None = Unit {0}
CanMove k s i (Some to) = (i < event_total k.pools) × (IsTrue (can_shift (spot s i)) × IsTrue (is_shift_target to))

abbrev pub CanEnter : Declarations → List QueueStep → ℕ → Option Entrance → Type 0
CanEnter k t i None = Unit {0}
CanEnter k t i (Some e) =
    (i < event_total k.pools) × ((e.queue.0 < length k.queues) × ((e.core.0 < k.cores) × (is_listed k t i ≡ false)))

-- an act tells an output, or that a note was lost
abbrev pub MaySay : Option What → Type 0
MaySay None = Unit {0}
MaySay (Some (What.Out q kind words)) = Unit {0}
MaySay (Some (What.Fault Call.Note (Fault.NoteLost q) None)) = Unit {0}
MaySay _ = ⊥

pub record IsReady (k : Declarations) (s : List PoolStep) (t : List QueueStep) (a : Act) : Type 0 where
  pub moves : CanMove k s a.index a.to
  pub enters : CanEnter k t a.index a.enters
  pub says : MaySay a.says

abbrev pub act_index : Act → ℕ
act_index a = a.index

-- each act can be done, and no two are of one event
abbrev pub AreReady : Declarations → List PoolStep → List QueueStep → List Act → Type 0
AreReady k s t [] = Unit {0}
AreReady k s t (a ∷ acts) = IsReady k s t a × ((has (map act_index acts) a.index ≡ false) × AreReady k s t acts)

-- a send

abbrev pub out_said : QueueId → Event → Option What
out_said q e = Some (What.Out q e.kind e.words)

-- what a send of this event has still to do once its handle is spent
abbrev pub send_act : Declarations → Event → ℕ → ℕ → QueueId → Act
send_act k e c w q =
    if is_output (kind_of k q.0)
    then record { index = index_of w; to = Some Place.Free; enters = None; says = out_said q e }
    else record { index = index_of w; to = None; enters = Some (record { queue = q; core = record { 0 = c } }); says = None }

-- a release

-- what the release of a held send, whose event this is, has still to do
abbrev pub release_act : Declarations → Event → Item → Act
release_act k e i =
    let out = is_output (kind_of k i.queue.0) in
    record {
      index = i.index;
      to = Some (if out then Place.Free else Place.Waiting i.queue);
      enters = if out then None else Some (record { queue = i.queue; core = i.core });
      says = if out then out_said i.queue e else None;
    }

pub record IsRelease (k : Declarations) (s : List PoolStep) (i : Item) (a : Act) : Type 0 where
  pub event : Event
  pub known : last_event s i.index ≡ Some event
  pub act : a ≡ release_act k event i

-- these acts release these items, in order
abbrev pub AreReleases : Declarations → List PoolStep → List Item → List Act → Type 0
AreReleases k s [] [] = Unit {0}
AreReleases k s (i ∷ is) (a ∷ acts) = IsRelease k s i a × AreReleases k s is acts
AreReleases k s is acts = ⊥
