-- A list for each queue, and what can be read off them.
use Rattle.std.specs.Prelude.{ℕ, ◌≡◌, ◌<◌, ◌≤◌, ◌&&◌, nat_lt, Bool, List, [], length, slice_index_or, slice_set, Option, Some, None, IfSome}
use Rattle.std.specs.Option.{option_map_or}
use Rattle.em_log.specs.declared.ids.Kind.{Kind}
use Rattle.em_log.specs.declared.graph.Priority.{Priority}
use Rattle.em_log.specs.declared.graph.QueueDecl.{QueueDecl}
use Rattle.em_log.specs.Declarations.{rank}
use Rattle.em_queues.specs.declared.set.QueueSet.{QueueSet}
use Rattle.em_queues.specs.Ready.{is_ranked, has_ready}

-- what waits in a queue, and the queue's priority as a number, where cores take from this list
pub record WaitingList : Type 0 where
  pub rank : Option ℕ
  pub items : List ℕ

-- from which lists cores take: those of the local queues, or those of the scheduled ones
pub data ListScope : Type 0 where
  Local : ListScope
  Shared : ListScope

-- the list of a queue that is not there
abbrev pub no_list : WaitingList
no_list = record { rank = None; items = [] }

abbrev pub list_in : List WaitingList → ℕ → WaitingList
list_in lists q = slice_index_or lists q no_list

-- what waits in the list of queue q
abbrev pub items_in : List WaitingList → ℕ → List ℕ
items_in lists q = (list_in lists q).items

-- the same with other events in the list of queue q
abbrev pub with_items : List WaitingList → ℕ → List ℕ → List WaitingList
with_items lists q xs = slice_set lists q (record (list_in lists q) { items = xs })

-- whether cores take from this list at priority r, and something waits in it
abbrev pub is_ready : ℕ → WaitingList → Bool
is_ready r l = is_ranked r l.rank && nat_lt 0 (length l.items)

-- at the opening

abbrev pub rank_or_lowest : Option Priority → ℕ
rank_or_lowest p = option_map_or rank p 0

abbrev pub rank_in : Kind → Option Priority → ListScope → Option ℕ
rank_in Kind.Local p ListScope.Local = Some (rank_or_lowest p)
rank_in Kind.Atomic p ListScope.Shared = Some (rank_or_lowest p)
rank_in Kind.Parallel p ListScope.Shared = Some (rank_or_lowest p)
rank_in Kind.Ordered p ListScope.Shared = Some (rank_or_lowest p)
rank_in kind p scope = None

-- the priority of a queue, from which list of it cores may take
abbrev pub rank_in_queue : Kind → Option Priority → Option ℕ
rank_in_queue Kind.Atomic p = Some (rank_or_lowest p)
rank_in_queue Kind.Parallel p = Some (rank_or_lowest p)
rank_in_queue Kind.Ordered p = Some (rank_or_lowest p)
rank_in_queue Kind.Local p = Some (rank_or_lowest p)
rank_in_queue kind p = None

abbrev pub opened_list : ListScope → QueueDecl → WaitingList
opened_list scope d = record { rank = rank_in d.kind d.priority scope; items = [] }

-- the set of each priority has exactly the queues of that priority in whose lists something waits
pub record AreIndexed (lists : List WaitingList) (ready : List QueueSet) : Type 0 where
  pub few : length lists ≤ 256
  pub ranked : (q : ℕ) → IfSome (list_in lists q).rank (λ r. r < 5)
  pub exact : (r q : ℕ) → has_ready ready r q ≡ is_ready r (list_in lists q)
