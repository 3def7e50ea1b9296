-- Which list of events is whose: first those of the queues that are not local, and then for each core those of the local
-- ones and that of what it has taken.
use Rattle.std.specs.Prelude.{ℕ, suc, ◌≡◌, ◌+◌, ◌*◌, ◌<◌, false, List, [], ◌∷◌, length, map, slice_index_or, if◌then◌else◌, Option, None}
use Rattle.em_log.specs.declared.ids.Kind.{Kind}
use Rattle.em_log.specs.declared.graph.QueueDecl.{QueueDecl}
use Rattle.em_log.specs.Declarations.{is_local}
use Rattle.em_queues.specs.declared.kinds.RankedKind.{RankedKind}
use Rattle.em_queues.specs.declared.cores.CoreSlot.{CoreSlot}
use Rattle.em_queues.specs.Events.{EventState, list_in}
use Rattle.em_queues.specs.Ready.{has_ready}
use Rattle.em_queues.specs.Waiting.{WaitingList, ListScope, rank_in_queue}
use Rattle.em_queues.specs.Cores.{CoreQueues}
use Rattle.em_queues.specs.State.{QueueState}

abbrev pub ranked_kind : QueueDecl → RankedKind
ranked_kind d = record { kind = d.kind; rank = rank_in_queue d.kind d.priority }

abbrev pub kind_of_ranked : RankedKind → Kind
kind_of_ranked r = r.kind

-- the list of core c of a local queue, and that of what it has taken

abbrev pub local_number : ℕ → ℕ → ℕ
local_number c q = 257 * (c + 1) + q

abbrev pub taken_number : ℕ → ℕ
taken_number c = 257 * (c + 1) + 256

-- the priority of a queue in the one scope or the other
abbrev pub scoped : ListScope → RankedKind → Option ℕ
scoped ListScope.Local r = if is_local r.kind then r.rank else None
scoped ListScope.Shared r = if is_local r.kind then None else r.rank

-- a list for each queue, from number n on
abbrev pub lists_from : List (List ℕ) → ListScope → List RankedKind → ℕ → List WaitingList
lists_from lists scope [] n = []
lists_from lists scope (r ∷ rs) n = record { rank = scoped scope r; items = list_in lists n } ∷ lists_from lists scope rs (suc n)

abbrev pub core_from : List (List ℕ) → List RankedKind → CoreSlot → ℕ → CoreQueues
core_from lists kinds s n = record { local = lists_from lists ListScope.Local kinds n; taken = list_in lists (n + 256); source = s.source }

abbrev pub cores_from : List (List ℕ) → List RankedKind → List CoreSlot → ℕ → List CoreQueues
cores_from lists kinds [] n = []
cores_from lists kinds (s ∷ ss) n = core_from lists kinds s n ∷ cores_from lists kinds ss (n + 257)

-- what the kinds, the lists and the cores mean
abbrev pub queues_from : List RankedKind → EventState → List CoreSlot → QueueState
queues_from kinds events slots =
    record {
      kinds = map kind_of_ranked kinds;
      shared = lists_from events.lists ListScope.Shared kinds 0;
      cores = cores_from events.lists kinds slots 257;
      listed = events.listed;
    }

-- a core that is not there
abbrev pub no_slot : CoreSlot
no_slot = record { ready = []; source = None }

abbrev pub slot_in : List CoreSlot → ℕ → CoreSlot
slot_in slots c = slice_index_or slots c no_slot

-- nothing waits for a core, and it has taken from no queue
pub record IsIdle (s : CoreSlot) : Type 0 where
  pub none_ready : (r q : ℕ) → has_ready s.ready r q ≡ false
  pub unsourced : s.source ≡ None

-- so many cores, all of them so
pub record AreIdle (n : ℕ) (slots : List CoreSlot) : Type 0 where
  pub count : length slots ≡ n
  pub each : (c : ℕ) → c < n → IsIdle (slot_in slots c)
