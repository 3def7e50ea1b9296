-- What is true of the queues beside what they mean stays true.
use Rattle.std.proofs.Common.{◌≡◌, ◌≢◌, ℕ, ◌+◌, ◌*◌, ◌<◌, ◌≤◌, Bool, List, [], length, set, Some, None, ap, sym, ◌∙◌, subst, ⊎_elim}
use Rattle.std.proofs.lemmas.Bool.{cases_eq}
use Rattle.std.proofs.lemmas.List.{get_or-set_same, get_or-set_other, length-set}
use Rattle.em_log.specs.declared.ids.QueueId.{QueueId}
use Rattle.em_queues.specs.declared.set.QueueSet.{QueueSet}
use Rattle.em_queues.specs.declared.cores.CoreSlot.{CoreSlot}
use Rattle.em_queues.specs.Waiting.{WaitingList, AreIndexed}
use Rattle.em_queues.specs.Cores.{CoreQueues, no_core}
use Rattle.em_queues.specs.State.{QueueState, core_in, core_at}
use Rattle.em_queues.specs.Rows.{slot_in, no_slot}
use Rattle.em_queues.specs.Whole.{IsWhole}

-- what is true of a core that has the sets s
pub record IsSlot (n : ℕ) (core : CoreQueues) (s : List QueueSet) : Type 0 where
  pub lists : length core.local ≡ n
  pub ready : AreIndexed core.local s
  pub named : (q : QueueId) → core.source ≡ Some q → q.0 < n
  pub unsourced : core.source ≡ None → core.taken ≡ []
  pub few : length core.taken ≤ 255

module _ {v : QueueState} {n : ℕ} {ready : List QueueSet} {slots : List CoreSlot} (whole : IsWhole v n ready slots) where
  -- the lists that are one for all cores change
  pub whole-shared : (more : List WaitingList) (listed : List Bool) (sets : List QueueSet) → length more ≡ length v.shared → AreIndexed more sets
      → IsWhole (record v { shared = more; listed = listed }) n sets slots
  whole-shared more listed sets same indexed = record {
    shared_lists = same ∙ whole.shared_lists;
    local_lists = whole.local_lists;
    lists = whole.lists;
    shared_ready = indexed;
    local_ready = whole.local_ready;
    named = whole.named;
    unsourced = whole.unsourced;
    few_taken = whole.few_taken;
  }

  module _ (i : ℕ) (lt : i < length v.cores) where
    pub is-slot : IsSlot (length v.kinds) (core_at v i) (slot_in slots i).ready
    is-slot = record {
      lists = whole.local_lists i lt;
      ready = whole.local_ready i lt;
      named = whole.named i;
      unsourced = whole.unsourced i;
      few = whole.few_taken i;
    }

    -- a core changes too
    module _ (more : List WaitingList) (listed : List Bool) (sets : List QueueSet) (core : CoreQueues) (slot : CoreSlot) (same : length more ≡ length v.shared)
        (indexed : AreIndexed more sets) (is : IsSlot (length v.kinds) core slot.ready) (less : i < length slots) where
      here : core_in (set v.cores i core) i ≡ core
      here = get_or-set_same v.cores i core no_core lt

      there : (c : ℕ) → c ≢ i → core_in (set v.cores i core) c ≡ core_at v c
      there c ne = get_or-set_other v.cores i c core no_core ne

      pub whole-core : IsWhole (record v { shared = more; cores = set v.cores i core; listed = listed }) n sets (set slots i slot)
      whole-core = record {
        shared_lists = same ∙ whole.shared_lists;
        local_lists = λ c within.
            ⊎_elim (λ same. subst (λ k. length (core_in (set v.cores i core) k).local ≡ length v.kinds) (sym same) (subst (λ (s : CoreQueues). length s.local ≡ length v.kinds) (sym here) is.lists))
            (λ ne. subst (λ (s : CoreQueues). length s.local ≡ length v.kinds) (sym (there c ne)) (whole.local_lists c (subst (λ n. c < n) (length-set v.cores i core) within)))
            (cases_eq c i);
        lists = whole.lists ∙ ap (λ m. 257 * (m + 1)) (sym (length-set v.cores i core));
        shared_ready = indexed;
        local_ready = λ c within.
            ⊎_elim (λ same. subst (λ k. AreIndexed (core_in (set v.cores i core) k).local (slot_in (set slots i slot) k).ready) (sym same)
            (subst (λ (s : CoreQueues). AreIndexed s.local (slot_in (set slots i slot) i).ready) (sym here)
            (subst (λ (t : CoreSlot). AreIndexed core.local t.ready) (sym (get_or-set_same slots i slot no_slot less)) is.ready)))
            (λ ne. subst (λ (s : CoreQueues). AreIndexed s.local (slot_in (set slots i slot) c).ready) (sym (there c ne))
            (subst (λ (t : CoreSlot). AreIndexed (core_at v c).local t.ready) (sym (get_or-set_other slots i c slot no_slot ne))
            (whole.local_ready c (subst (λ n. c < n) (length-set v.cores i core) within))))
            (cases_eq c i);
        named = λ c.
            ⊎_elim (λ same. subst (λ k. (q : QueueId) → (core_in (set v.cores i core) k).source ≡ Some q → q.0 < length v.kinds) (sym same)
            (subst (λ (s : CoreQueues). (q : QueueId) → s.source ≡ Some q → q.0 < length v.kinds) (sym here) is.named))
            (λ ne. subst (λ (s : CoreQueues). (q : QueueId) → s.source ≡ Some q → q.0 < length v.kinds) (sym (there c ne)) (whole.named c)) (cases_eq c i);
        unsourced = λ c.
            ⊎_elim (λ same. subst (λ k. (core_in (set v.cores i core) k).source ≡ None → (core_in (set v.cores i core) k).taken ≡ []) (sym same)
            (subst (λ (s : CoreQueues). s.source ≡ None → s.taken ≡ []) (sym here) is.unsourced))
            (λ ne. subst (λ (s : CoreQueues). s.source ≡ None → s.taken ≡ []) (sym (there c ne)) (whole.unsourced c)) (cases_eq c i);
        few_taken = λ c.
            ⊎_elim (λ same. subst (λ k. length (core_in (set v.cores i core) k).taken ≤ 255) (sym same) (subst (λ (s : CoreQueues). length s.taken ≤ 255) (sym here) is.few))
            (λ ne. subst (λ (s : CoreQueues). length s.taken ≤ 255) (sym (there c ne)) (whole.few_taken c)) (cases_eq c i);
      }
