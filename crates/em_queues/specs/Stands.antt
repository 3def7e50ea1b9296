-- How the queues stand for the list of their steps.
use Rattle.std.specs.Prelude.{ℕ, ◌≡◌, ◌<◌, List, length, slice_get, Option}
use Rattle.std.specs.Option.{option_and_then}
use Rattle.em_log.specs.declared.declarations.Declarations.{Declarations}
use Rattle.em_log.specs.declared.declarations.QueueShape.{QueueShape}
use Rattle.em_log.specs.Declarations.{kind_of}
use Rattle.em_queues.specs.Steps.{QueueStep, lists, is_listed}
use Rattle.em_queues.specs.State.{QueueState, kind_at, core_at, items_at, taken_at, source_at, is_listed_at}
use Rattle.em_queues.specs.Waiting.{ListScope, list_in, rank_in}

abbrev pub declared_rank : ListScope → QueueShape → Option ℕ
declared_rank scope d = rank_in d.kind d.priority scope

-- the priority at which cores take from a list of queue q: from the one of a local queue on each core, and from the one
-- list of a scheduled queue
abbrev pub rank_for : Declarations → ListScope → ℕ → Option ℕ
rank_for k scope q = option_and_then (declared_rank scope) (slice_get k.queues q)

pub record Stands (k : Declarations) (v : QueueState) (steps : List QueueStep) : Type 0 where
  -- each queue has its kind and its priority
  pub kinds : (q : ℕ) → kind_at v q ≡ kind_of k q
  pub shared_ranks : (q : ℕ) → (list_in v.shared q).rank ≡ rank_for k ListScope.Shared q
  pub local_ranks : (c q : ℕ) → c < length v.cores → (list_in (core_at v c).local q).rank ≡ rank_for k ListScope.Local q
  -- each list, and what each core has taken and from where
  pub waiting : (q c : ℕ) → items_at v q c ≡ (lists k steps).waiting q c
  pub taken : (c : ℕ) → taken_at v c ≡ (lists k steps).taken c
  pub sources : (c : ℕ) → source_at v c ≡ (lists k steps).source c
  -- which events are in a list
  pub listed : (i : ℕ) → i < length v.listed → is_listed_at v i ≡ is_listed k steps i
