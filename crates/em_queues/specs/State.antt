-- What the queues mean: numbers and lists, and what can be read off them.
use Rattle.std.specs.Prelude.{ℕ, Bool, true, false, List, [], length, map, slice_index_or, Option, None, refl}
use Rattle.std.specs.Option.{option_map}
use Rattle.std.specs.Coded.{Coded, code_by, coded×, coded_bool, coded_list}
use Rattle.em_log.specs.declared.ids.Kind.{Kind}
use Rattle.em_log.specs.declared.graph.QueueDecl.{QueueDecl}
use Rattle.em_log.specs.Declarations.{is_local}
use Rattle.em_queues.specs.Cores.{CoreQueues, no_core}
use Rattle.em_queues.specs.ListCode.{list_code}
use Rattle.em_queues.specs.Codes.{kind_code, core_code}
use Rattle.em_queues.specs.Waiting.{WaitingList, ListScope, items_in, opened_list}

-- the kind of each queue; the lists of those that are not local; each core with its lists of the local ones and what it
-- has taken; and for each event whether it is in a list
pub record QueueState : Type 0 where
  pub kinds : List Kind
  pub shared : List WaitingList
  pub cores : List CoreQueues
  pub listed : List Bool

abbrev pub state_code : Coded QueueState
state_code =
    code_by (List Kind × (List WaitingList × (List CoreQueues × List Bool)))
    (coded× (coded_list kind_code) (coded× (coded_list list_code) (coded× (coded_list core_code) (coded_list coded_bool))))
    (λ v. (v.kinds, (v.shared, (v.cores, v.listed))))
    (λ p. record { kinds = p.0; shared = p.1.0; cores = p.1.1.0; listed = p.1.1.1 })
    (λ _. refl)

-- a core that has taken nothing, and for which nothing waits
abbrev pub opened_core : List QueueDecl → CoreQueues
opened_core ds = record { local = map (opened_list ListScope.Local) ds; taken = []; source = None }

abbrev pub kind_of_decl : QueueDecl → Kind
kind_of_decl d = d.kind

-- the kind of a queue; one that is not there counts as unscheduled
abbrev pub kind_at : QueueState → ℕ → Kind
kind_at v q = slice_index_or v.kinds q Kind.Unscheduled

abbrev pub core_in : List CoreQueues → ℕ → CoreQueues
core_in cores c = slice_index_or cores c no_core

abbrev pub core_at : QueueState → ℕ → CoreQueues
core_at v c = core_in v.cores c

abbrev pub items_by : Bool → QueueState → ℕ → ℕ → List ℕ
items_by true v q c = items_in (core_at v c).local q
items_by false v q c = items_in v.shared q

-- what waits in queue q; of a local queue, in the list of core c
abbrev pub items_at : QueueState → ℕ → ℕ → List ℕ
items_at v q c = items_by (is_local (kind_at v q)) v q c

-- what core c has taken
abbrev pub taken_at : QueueState → ℕ → List ℕ
taken_at v c = (core_at v c).taken

-- the queue that core c took from last
abbrev pub source_at : QueueState → ℕ → Option ℕ
source_at v c = option_map (λ q. q.0) (core_at v c).source

-- whether the event of this index is in a list; past the last one it is
abbrev pub is_listed_at : QueueState → ℕ → Bool
is_listed_at v i = slice_index_or v.listed i true

-- the numbers of cores, queues and events
pub record Shape : Type 0 where
  pub cores : ℕ
  pub queues : ℕ
  pub events : ℕ

abbrev pub shape : QueueState → Shape
shape v = record { cores = length v.cores; queues = length v.kinds; events = length v.listed }
