-- At the opening, the queues stand for no steps.
use Rattle.std.proofs.Common.{◌≡◌, ℕ, zero, suc, ◌+◌, ◌*◌, ◌<◌, ◌≤◌, Bool, true, false, List, [], ◌∷◌, length, map, get_or, replicate, Option, Some, None, arith, refl, ap, sym, ◌∙◌, subst, ⊎_elim}
use Rattle.std.proofs.Math.ListN.{get_or-eq_default}
use Rattle.std.proofs.lemmas.Bool.{cases_lt}
use Rattle.std.proofs.lemmas.List.{length-map, length-replicate, get_or-replicate}
use Rattle.std.specs.Prelude.{slice_get}
use Rattle.std.specs.Option.{option_map, option_map_or, option_and_then}
use Rattle.em_log.specs.declared.declarations.Declarations.{Declarations}
use Rattle.em_log.specs.declared.graph.QueueDecl.{QueueDecl}
use Rattle.em_log.specs.declared.graph.Priority.{Priority}
use Rattle.em_log.specs.declared.ids.Kind.{Kind}
use Rattle.em_log.specs.declared.ids.QueueId.{QueueId}
use Rattle.em_log.specs.Declarations.{is_local, queue_shape}
use Rattle.em_queues.specs.declared.set.QueueSet.{QueueSet}
use Rattle.em_queues.specs.declared.kinds.RankedKind.{RankedKind}
use Rattle.em_queues.specs.declared.cores.CoreSlot.{CoreSlot}
use Rattle.em_queues.specs.Events.{EventState}
use Rattle.em_queues.specs.Ready.{has_ready}
use Rattle.em_queues.specs.Waiting.{ListScope, AreIndexed, list_in, items_in, opened_list, rank_in, rank_in_queue}
use Rattle.em_queues.specs.Cores.{CoreQueues, no_core}
use Rattle.em_queues.specs.State.{QueueState, shape, core_in, items_by, opened_core, kind_of_decl}
use Rattle.em_queues.specs.Rows.{ranked_kind, kind_of_ranked, scoped, lists_from, cores_from, queues_from, slot_in, AreIdle}
use Rattle.em_queues.specs.Stands.{Stands, declared_rank}
use Rattle.em_queues.specs.Whole.{IsWhole, AreWhole}
use Rattle.em_queues.proofs.EmptyLists.{empty-list}
use Rattle.em_queues.proofs.WaitingLemmas.{opened-empty, opened-indexed}

-- the lists

scoped-rank : (kind : Kind) (p : Option Priority) (scope : ListScope) → scoped scope (record { kind = kind; rank = rank_in_queue kind p }) ≡ rank_in kind p scope
scoped-rank Kind.Atomic p ListScope.Local = refl
scoped-rank Kind.Atomic p ListScope.Shared = refl
scoped-rank Kind.Parallel p ListScope.Local = refl
scoped-rank Kind.Parallel p ListScope.Shared = refl
scoped-rank Kind.Ordered p ListScope.Local = refl
scoped-rank Kind.Ordered p ListScope.Shared = refl
scoped-rank Kind.Local p ListScope.Local = refl
scoped-rank Kind.Local p ListScope.Shared = refl
scoped-rank Kind.Unscheduled p ListScope.Local = refl
scoped-rank Kind.Unscheduled p ListScope.Shared = refl
scoped-rank Kind.Output p ListScope.Local = refl
scoped-rank Kind.Output p ListScope.Shared = refl

opened-lists : (n : ℕ) (scope : ListScope) (ds : List QueueDecl) (k : ℕ) → lists_from (replicate n []) scope (map ranked_kind ds) k ≡ map (opened_list scope) ds
opened-lists n scope [] k = refl
opened-lists n scope (d ∷ ds) k =
    λ i. record { rank = scoped-rank d.kind d.priority scope i; items = empty-list n k i } ∷ opened-lists n scope ds (suc k) i

opened-kinds : (ds : List QueueDecl) → map kind_of_ranked (map ranked_kind ds) ≡ map kind_of_decl ds
opened-kinds [] = refl
opened-kinds (d ∷ ds) = λ i. d.kind ∷ opened-kinds ds i

opened-cores : (m : ℕ) (ds : List QueueDecl) (n : ℕ) (slots : List CoreSlot) (k : ℕ) → AreIdle n slots
    → cores_from (replicate m []) (map ranked_kind ds) slots k ≡ replicate n (opened_core ds)
opened-cores m ds zero [] k idle = refl
opened-cores m ds zero (s ∷ ss) k idle = absurd (let n = idle.count in omega arith)
opened-cores m ds (suc n) [] k idle = absurd (let n = idle.count in omega arith)
opened-cores m ds (suc n) (s ∷ ss) k idle =
    λ i. record {
      local = opened-lists m ListScope.Local ds k i;
      taken = empty-list m (k + 256) i;
      source = (idle.each 0 (omega arith)).unsourced i;
    }
    ∷ opened-cores m ds n ss (k + 257) (record { count = (let all = idle.count in omega arith); each = λ c lt. idle.each (suc c) (omega arith) }) i

kinds-read : (ds : List QueueDecl) (q : ℕ) → get_or (map kind_of_decl ds) q Kind.Unscheduled ≡ option_map_or (λ d. d.kind) (slice_get (map queue_shape ds) q) Kind.Unscheduled
kinds-read [] q = refl
kinds-read (d ∷ ds) zero = refl
kinds-read (d ∷ ds) (suc q) = kinds-read ds q

ranks-read : (scope : ListScope) (ds : List QueueDecl) (q : ℕ) → (list_in (map (opened_list scope) ds) q).rank ≡ option_and_then (declared_rank scope) (slice_get (map queue_shape ds) q)
ranks-read scope [] q = refl
ranks-read scope (d ∷ ds) zero = refl
ranks-read scope (d ∷ ds) (suc q) = ranks-read scope ds q

none-listed : (n i : ℕ) → i < n → get_or (replicate n false) i true ≡ false
none-listed n i lt = get_or-replicate n i false true lt

-- the cores

core-read : (n : ℕ) (ds : List QueueDecl) (c : ℕ) → c < n → core_in (replicate n (opened_core ds)) c ≡ opened_core ds
core-read n ds c lt = get_or-replicate n c (opened_core ds) no_core lt

-- what is true of no core and of an opened one is true of each
each-core : (n : ℕ) (ds : List QueueDecl) (P : CoreQueues → Type 0) → P no_core → P (opened_core ds) → (c : ℕ) → P (core_in (replicate n (opened_core ds)) c)
each-core n ds P none some c =
    ⊎_elim (λ lt. subst P (sym (core-read n ds c lt)) some)
    (λ ge. subst P (sym (get_or-eq_default (replicate n (opened_core ds)) no_core (let l = length-replicate n (opened_core ds) in omega arith))) none)
    (cases_lt c n)

module _ (n : ℕ) (ds : List QueueDecl) (m : ℕ) where
  abbrev pub opened : QueueState
  opened = record { kinds = map kind_of_decl ds; shared = map (opened_list ListScope.Shared) ds; cores = replicate n (opened_core ds); listed = replicate m false }

  none-waits : (b : Bool) (q c : ℕ) → items_by b opened q c ≡ []
  none-waits true q c = each-core n ds (λ x. items_in x.local q ≡ []) refl (opened-empty ListScope.Local ds q) c
  none-waits false q c = opened-empty ListScope.Shared ds q

  pub opened-stands : (k : Declarations) → k.queues ≡ map queue_shape ds → Stands k opened []
  opened-stands k queues = record {
    kinds = λ q. kinds-read ds q ∙ ap (λ shapes. option_map_or (λ d. d.kind) (slice_get shapes q) Kind.Unscheduled) (sym queues);
    shared_ranks = λ q. ranks-read ListScope.Shared ds q ∙ ap (λ shapes. option_and_then (declared_rank ListScope.Shared) (slice_get shapes q)) (sym queues);
    local_ranks = λ c q lt.
        ap (λ (x : CoreQueues). (list_in x.local q).rank)
        (core-read n ds c (let l = length-replicate n (opened_core ds) in omega arith))
        ∙ (ranks-read ListScope.Local ds q ∙ ap (λ shapes. option_and_then (declared_rank ListScope.Local) (slice_get shapes q)) (sym queues));
    waiting = λ q c. none-waits (is_local (get_or (map kind_of_decl ds) q Kind.Unscheduled)) q c;
    taken = each-core n ds (λ x. x.taken ≡ []) refl refl;
    sources = each-core n ds (λ x. option_map (λ q. q.0) x.source ≡ None) refl refl;
    listed = λ i lt. none-listed m i (let l = length-replicate m false in omega arith);
  }

  pub opened-whole : (ready : List QueueSet) (slots : List CoreSlot) → length ds ≤ 256 → ((r q : ℕ) → has_ready ready r q ≡ false) → AreIdle n slots
      → IsWhole opened (257 * (n + 1)) ready slots
  opened-whole ready slots few none idle = record {
    shared_lists = length-map ds (opened_list ListScope.Shared) ∙ sym (length-map ds kind_of_decl);
    local_lists = λ c lt.
        ap (λ (x : CoreQueues). length x.local)
        (core-read n ds c (let l = length-replicate n (opened_core ds) in omega arith))
        ∙ (length-map ds (opened_list ListScope.Local) ∙ sym (length-map ds kind_of_decl));
    lists = ap (λ k. 257 * (k + 1)) (sym (length-replicate n (opened_core ds)));
    shared_ready = opened-indexed ListScope.Shared ds ready few none;
    local_ready = λ c lt.
        let within : c < n = (let l = length-replicate n (opened_core ds) in omega arith) in
        subst (λ (x : CoreQueues). AreIndexed x.local (slot_in slots c).ready) (sym (core-read n ds c within))
        (opened-indexed ListScope.Local ds (slot_in slots c).ready few (idle.each c within).none_ready);
    named = each-core n ds (λ x. (q : QueueId) → x.source ≡ Some q → q.0 < length (map kind_of_decl ds)) (λ q e. absurd (cc e)) (λ q e. absurd (cc e));
    unsourced = each-core n ds (λ x. x.source ≡ None → x.taken ≡ []) (λ _. refl) (λ _. refl);
    few_taken = each-core n ds (λ x. length x.taken ≤ 255) (omega arith) (omega arith);
  }

-- as the code has it: so many empty lists of events, and cores that are idle
module _ (n : ℕ) (ds : List QueueDecl) (m : ℕ) (kinds : List RankedKind) (count : ℕ) (state : EventState) (slots : List CoreSlot) (kinds_are : kinds ≡ map ranked_kind ds)
    (state_is : state ≡ record { lists = replicate count []; listed = replicate m false }) (count_is : count ≡ 257 * (n + 1)) (idle : AreIdle n slots) where
  pub opened-read : queues_from kinds state slots ≡ opened n ds m
  opened-read =
      ap (λ ks. queues_from ks state slots) kinds_are
      ∙ (ap (λ (e : EventState). queues_from (map ranked_kind ds) e slots) state_is
      ∙ (λ i. record {
        kinds = opened-kinds ds i;
        shared = opened-lists count ListScope.Shared ds 0 i;
        cores = opened-cores count ds n slots 257 idle i;
        listed = replicate m false;
      }))

  pub whole-read : (ready : List QueueSet) → length ds ≤ 256 → ((r q : ℕ) → has_ready ready r q ≡ false) → AreWhole kinds state ready slots
  whole-read ready few none =
      subst (λ (v : QueueState). IsWhole v (length state.lists) ready slots) (sym opened-read)
      (subst (λ k. IsWhole (opened n ds m) k ready slots) (sym (ap (λ (e : EventState). length e.lists) state_is ∙ (length-replicate count [] ∙ count_is)))
      (opened-whole n ds m ready slots few none idle))

  pub shape-read : shape (queues_from kinds state slots) ≡ record { cores = n; queues = length ds; events = m }
  shape-read =
      ap shape opened-read
      ∙ (λ i. record { cores = length-replicate n (opened_core ds) i; queues = length-map ds kind_of_decl i; events = length-replicate m false i })

  pub stands-read : (k : Declarations) → k.queues ≡ map queue_shape ds → Stands k (queues_from kinds state slots) []
  stands-read k queues = subst (λ (v : QueueState). Stands k v []) (sym opened-read) (opened-stands n ds m k queues)
