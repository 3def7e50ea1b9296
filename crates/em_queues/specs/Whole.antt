-- What is true of the queues beside what they mean.
use Rattle.std.specs.Prelude.{ℕ, ◌≡◌, ◌+◌, ◌*◌, ◌<◌, ◌≤◌, List, [], length, Some, None}
use Rattle.em_log.specs.declared.ids.QueueId.{QueueId}
use Rattle.em_queues.specs.declared.set.QueueSet.{QueueSet}
use Rattle.em_queues.specs.declared.kinds.RankedKind.{RankedKind}
use Rattle.em_queues.specs.declared.cores.CoreSlot.{CoreSlot}
use Rattle.em_queues.specs.Events.{EventState}
use Rattle.em_queues.specs.Waiting.{AreIndexed}
use Rattle.em_queues.specs.State.{QueueState, core_at, taken_at}
use Rattle.em_queues.specs.Rows.{queues_from, slot_in}

pub record IsWhole (v : QueueState) (count : ℕ) (ready : List QueueSet) (slots : List CoreSlot) : Type 0 where
  -- there is a list for each queue, and one on each core, and as many lists of events
  pub shared_lists : length v.shared ≡ length v.kinds
  pub local_lists : (c : ℕ) → c < length v.cores → length (core_at v c).local ≡ length v.kinds
  pub lists : count ≡ 257 * (length v.cores + 1)
  -- the sets of queues in which something waits are exact
  pub shared_ready : AreIndexed v.shared ready
  pub local_ready : (c : ℕ) → c < length v.cores → AreIndexed (core_at v c).local (slot_in slots c).ready
  -- a core has taken from a queue that is there; one that never took has taken nothing
  pub named : (c : ℕ) (q : QueueId) → (core_at v c).source ≡ Some q → q.0 < length v.kinds
  pub unsourced : (c : ℕ) → (core_at v c).source ≡ None → taken_at v c ≡ []
  pub few_taken : (c : ℕ) → length (taken_at v c) ≤ 255

abbrev pub AreWhole : List RankedKind → EventState → List QueueSet → List CoreSlot → Type 0
AreWhole kinds events ready slots = IsWhole (queues_from kinds events slots) (length events.lists) ready slots
