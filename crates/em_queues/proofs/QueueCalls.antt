-- What each call does to the queues, by what it does to the lists of events.
use Rattle.std.proofs.Common.{◌≡◌, ℕ, ◌+◌, ◌*◌, ◌<◌, ◌≤◌, ◌==◌, nat_lt, Bool, true, false, List, [], ◌∷◌, ◌++◌, length, get_or, set, take, drop, if◌then◌else◌, Option, Some, None, IfSome, arith, refl, ap, sym, ◌∙◌, subst}
use Rattle.std.proofs.lemmas.List.{get_or_read, get_or_default, get_or-set_same, set-set, length-set, length-map, length-take, length-drop, set-get_or}
use Rattle.em_log.specs.declared.ids.QueueId.{QueueId}
use Rattle.em_log.specs.Declarations.{is_local}
use Rattle.em_queues.specs.declared.set.QueueSet.{QueueSet}
use Rattle.em_queues.specs.declared.kinds.RankedKind.{RankedKind}
use Rattle.em_queues.specs.declared.cores.CoreSlot.{CoreSlot}
use Rattle.em_queues.specs.Events as events
use Rattle.em_queues.specs.Events.{EventState}
use Rattle.em_queues.specs.Ready.{has_ready, IsMarked}
use Rattle.em_queues.specs.Waiting.{WaitingList, ListScope, AreIndexed, list_in, items_in, is_ready, with_items}
use Rattle.em_queues.specs.Cores.{CoreQueues, no_core}
use Rattle.em_queues.specs.State.{QueueState, kind_at, core_in, core_at, taken_at}
use Rattle.em_queues.specs.Rows.{kind_of_ranked, local_number, taken_number, scoped, lists_from, core_from, cores_from, queues_from, slot_in, no_slot}
use Rattle.em_queues.specs.Whole.{IsWhole, AreWhole}
use Rattle.em_queues.specs.Changes.{arrived_local, arrived_shared, took_local, took_shared, gave_local, gave_shared, started, dequeued}
use Rattle.em_queues.proofs.RowLemmas.{length-lists, list-from, kind-from, rank-from, lists-kept, lists-changed, length-cores, core-from, cores-kept, local-changed, taken-changed, slot-changed}
use Rattle.em_queues.proofs.WaitingLemmas.{pushed-indexed, cut-indexed, given-indexed}
use Rattle.em_queues.proofs.WholeLemmas.{IsSlot, is-slot, whole-shared, whole-core}

-- these stand for w
pub record AreLeft (kinds : List RankedKind) (lists : EventState) (ready : List QueueSet) (slots : List CoreSlot) (w : QueueState) : Type 0 where
  pub whole : AreWhole kinds lists ready slots
  pub state : queues_from kinds lists slots ≡ w

changed-again : (cores : List CoreQueues) (c : ℕ) (k : CoreQueues) (f : CoreQueues → CoreQueues) → c < length cores → set (set cores c k) c (f (core_in (set cores c k) c)) ≡ set cores c (f k)
changed-again cores c k f lt = ap (λ x. set (set cores c k) c (f x)) (get_or-set_same cores c k no_core lt) ∙ set-set cores c k (f k)

get_or_self : (slots : List CoreSlot) (c : ℕ) (d : CoreSlot) → c < length slots → d ≡ slot_in slots c → get_or slots c d ≡ d
get_or_self slots c d lt e = get_or_default slots c d no_slot lt ∙ sym e

scoped-local : (r : RankedKind) → is_local r.kind ≡ true → scoped ListScope.Local r ≡ r.rank
scoped-local r e = ap (λ (b : Bool). if b then r.rank else None) e

scoped-shared : (r : RankedKind) → is_local r.kind ≡ false → scoped ListScope.Shared r ≡ r.rank
scoped-shared r e = ap (λ (b : Bool). if b then None else r.rank) e

module _ (kinds : List RankedKind) (state : EventState) (slots : List CoreSlot) {ready : List QueueSet} (whole : AreWhole kinds state ready slots) where
  abbrev v : QueueState
  v = queues_from kinds state slots

  pub few-queues : length kinds ≤ 256
  few-queues = let few = whole.shared_ready.few in let n = length-lists state.lists ListScope.Shared kinds 0 in omega arith

  pub count-lists : length state.lists ≡ 257 * (length slots + 1)
  count-lists = let n = length-cores state.lists kinds slots 257 in let l = whole.lists in omega arith

  -- as the callers see them
  module _ {w : QueueState} (view : queues_from kinds state slots ≡ w) where
    pub queue-there : (q : ℕ) → q < length w.kinds → q < length kinds
    queue-there q lt =
        let n = length-map kinds kind_of_ranked in
        let here : q < length v.kinds = subst (λ (u : QueueState). q < length u.kinds) (sym view) lt in omega arith

    pub core-there : (c : ℕ) → c < length w.cores → c < length slots
    core-there c lt =
        let n = length-cores state.lists kinds slots 257 in
        let here : c < length v.cores = subst (λ (u : QueueState). c < length u.cores) (sym view) lt in omega arith

    pub kind-there : (q : ℕ) (b : Bool) (r : RankedKind) → q < length kinds → r ≡ get_or kinds q r → is_local (kind_at w q) ≡ b → is_local r.kind ≡ b
    kind-there q b r lt read e =
        ap is_local (sym (kind-from kinds q r lt read)) ∙ subst (λ (u : QueueState). is_local (kind_at u q) ≡ b) (sym view) e

  module _ (q : ℕ) (lt : q < length kinds) where
    pub shared-items : items_in v.shared q ≡ events.list_in state.lists q
    shared-items = list-from state.lists ListScope.Shared kinds 0 q q lt (omega arith)

    shared_less : q < length v.shared
    shared_less = let n = length-lists state.lists ListScope.Shared kinds 0 in omega arith

    pub shared-listed : q < length state.lists
    shared-listed = let n = count-lists in let few = few-queues in omega arith

    shared-rank : (r : RankedKind) → r ≡ get_or kinds q r → is_local r.kind ≡ false → (list_in v.shared q).rank ≡ r.rank
    shared-rank r read e = rank-from state.lists ListScope.Shared kinds 0 q r lt read ∙ scoped-shared r e

    pub shared-few : (r : RankedKind) → r ≡ get_or kinds q r → is_local r.kind ≡ false → IfSome r.rank (λ n. n < 5)
    shared-few r read e = subst (λ (o : Option ℕ). IfSome o (λ n. n < 5)) (shared-rank r read e) (whole.shared_ready.ranked q)

  module _ (c : ℕ) (less : c < length slots) where
    core_less : c < length v.cores
    core_less = let n = length-cores state.lists kinds slots 257 in omega arith

    core-is : core_at v c ≡ core_from state.lists kinds (slot_in slots c) (257 * (c + 1))
    core-is = core-from state.lists kinds slots 257 c (257 * (c + 1)) less (omega arith)

    pub taken-items : taken_at v c ≡ events.list_in state.lists (taken_number c)
    taken-items = ap (λ (x : CoreQueues). x.taken) core-is

    pub taken-listed : taken_number c < length state.lists
    taken-listed = let n = count-lists in omega arith

    source-is : (core_at v c).source ≡ (slot_in slots c).source
    source-is = ap (λ (x : CoreQueues). x.source) core-is

    module _ (q : ℕ) (lt : q < length kinds) where
      pub local-items : items_in (core_at v c).local q ≡ events.list_in state.lists (local_number c q)
      local-items =
          ap (λ (x : CoreQueues). items_in x.local q) core-is
          ∙ list-from state.lists ListScope.Local kinds (257 * (c + 1)) q (local_number c q) lt refl

      pub local-listed : local_number c q < length state.lists
      local-listed = let n = count-lists in let few = few-queues in omega arith

      local_less : q < length (core_at v c).local
      local_less = let n = whole.local_lists c core_less in let m = length-map kinds kind_of_ranked in omega arith

      local-rank : (r : RankedKind) → r ≡ get_or kinds q r → is_local r.kind ≡ true → (list_in (core_at v c).local q).rank ≡ r.rank
      local-rank r read e =
          ap (λ (x : CoreQueues). (list_in x.local q).rank) core-is
          ∙ (rank-from state.lists ListScope.Local kinds (257 * (c + 1)) q r lt read ∙ scoped-local r e)

      pub local-few : (r : RankedKind) → r ≡ get_or kinds q r → is_local r.kind ≡ true → IfSome r.rank (λ n. n < 5)
      local-few r read e = subst (λ (o : Option ℕ). IfSome o (λ n. n < 5)) (local-rank r read e) ((whole.local_ready c core_less).ranked q)

  -- a list of events changes

  module _ (q : ℕ) (lt : q < length kinds) (lists : List (List ℕ)) (xs : List ℕ) (same : length lists ≡ length state.lists) where
    shared-now : lists_from (set lists q xs) ListScope.Shared kinds 0 ≡ with_items (lists_from lists ListScope.Shared kinds 0) q xs
    shared-now = lists-changed lists ListScope.Shared kinds 0 q q xs lt (omega arith) (let there = shared-listed q lt in omega arith)

    shared-cores : cores_from (set lists q xs) kinds slots 257 ≡ cores_from lists kinds slots 257
    shared-cores = cores-kept kinds few-queues lists slots 257 q xs (λ le. let few = few-queues in omega arith)

  module _ (c : ℕ) (less : c < length slots) where
    module _ (xs : List ℕ) where
      taken-shared : (lists : List (List ℕ)) → lists_from (set lists (taken_number c) xs) ListScope.Shared kinds 0 ≡ lists_from lists ListScope.Shared kinds 0
      taken-shared lists = lists-kept lists ListScope.Shared kinds 0 (taken_number c) xs (λ _. let few = few-queues in omega arith)

      taken-cores : (lists : List (List ℕ)) → length lists ≡ length state.lists → cores_from (set lists (taken_number c) xs) kinds slots 257
          ≡ set (cores_from lists kinds slots 257) c (record (core_in (cores_from lists kinds slots 257) c) { taken = xs })
      taken-cores lists same = taken-changed kinds few-queues lists slots 257 c (taken_number c) xs less (omega arith) (let there = taken-listed c less in omega arith)

      module _ (q : ℕ) (lt : q < length kinds) where
        local-shared : (lists : List (List ℕ)) → lists_from (set lists (local_number c q) xs) ListScope.Shared kinds 0 ≡ lists_from lists ListScope.Shared kinds 0
        local-shared lists = lists-kept lists ListScope.Shared kinds 0 (local_number c q) xs (λ _. let few = few-queues in omega arith)

        local-cores : (lists : List (List ℕ)) → length lists ≡ length state.lists → cores_from (set lists (local_number c q) xs) kinds slots 257
            ≡ set (cores_from lists kinds slots 257) c
            (record (core_in (cores_from lists kinds slots 257) c) { local = with_items (core_in (cores_from lists kinds slots 257) c).local q xs })
        local-cores lists same = local-changed kinds few-queues lists slots 257 c q (local_number c q) xs lt less (omega arith) (let there = local-listed c less q lt in omega arith)

    -- the slot of the core, as it is read
    module _ (at : ℕ) (at_is : at ≡ c) (slot : CoreSlot) (slot_read : slot ≡ get_or slots at slot) where
      slot-is : slot ≡ slot_in slots c
      slot-is = get_or_read slots c slot less (slot_read ∙ ap (λ k. get_or slots k slot) at_is) no_slot

      -- its sets and the source change, and its lists and what it has taken
      module _ (more : EventState) (ready_now : List QueueSet) (shared : List WaitingList) (sets : List QueueSet) (source : Option QueueId) (local : List WaitingList) (taken : List ℕ) where
        abbrev core_now : CoreQueues
        core_now = record { local = local; taken = taken; source = source }

        abbrev slot_now : CoreSlot
        slot_now = record { ready = sets; source = source }

        pub core-left : lists_from more.lists ListScope.Shared kinds 0 ≡ shared
            → cores_from more.lists kinds slots 257 ≡ set v.cores c (record core_now { source = (core_at v c).source })
            → length more.lists ≡ length state.lists → length shared ≡ length v.shared → AreIndexed shared ready_now → IsSlot (length v.kinds) core_now sets
            → AreLeft kinds more ready_now (set slots at slot_now) (record { kinds = v.kinds; shared = shared; cores = set v.cores c core_now; listed = more.listed })
        core-left shared_now cores_now long same indexed is =
            subst (λ k. AreLeft kinds more ready_now (set slots k slot_now) (record { kinds = v.kinds; shared = shared; cores = set v.cores c core_now; listed = more.listed })) (sym at_is)
            (record {
              whole =
                  subst (λ (u : QueueState). IsWhole u (length more.lists) ready_now (set slots c slot_now)) (sym now)
                  (subst (λ n. IsWhole (record { kinds = v.kinds; shared = shared; cores = set v.cores c core_now; listed = more.listed }) n ready_now (set slots c slot_now)) (sym long)
                  (whole-core whole c (core_less c less) shared more.listed ready_now core_now slot_now same indexed is less));
              state = now;
            })
          where
            now : queues_from kinds more (set slots c slot_now) ≡ record { kinds = v.kinds; shared = shared; cores = set v.cores c core_now; listed = more.listed }
            now = λ i. record {
              kinds = v.kinds;
              shared = shared_now i;
              cores =
                  (slot-changed more.lists kinds slots 257 c slot_now less
                  ∙ (ap (λ cs. set cs c (record (core_in cs c) { source = source })) cores_now
                  ∙ changed-again v.cores c (record core_now { source = (core_at v c).source }) (λ x. record x { source = source }) (core_less c less))) i;
              listed = more.listed;
            }

        -- as the code has the source, and as it tells which events are in a list
        pub core-left-from : (from : Option QueueId) (listed : List Bool) → from ≡ source → more.listed ≡ listed → lists_from more.lists ListScope.Shared kinds 0 ≡ shared
            → cores_from more.lists kinds slots 257 ≡ set v.cores c (record core_now { source = (core_at v c).source })
            → length more.lists ≡ length state.lists → length shared ≡ length v.shared → AreIndexed shared ready_now → IsSlot (length v.kinds) core_now sets
            → AreLeft kinds more ready_now (set slots at (record { ready = sets; source = from })) (record { kinds = v.kinds; shared = shared; cores = set v.cores c core_now; listed = listed })
        core-left-from from listed from_is listed_is shared_now cores_now long same indexed is =
            subst (λ (o : Option QueueId). AreLeft kinds more ready_now (set slots at (record { ready = sets; source = o })) (record { kinds = v.kinds; shared = shared; cores = set v.cores c core_now; listed = listed }))
            (sym from_is)
            (subst (λ (bs : List Bool). AreLeft kinds more ready_now (set slots at slot_now) (record { kinds = v.kinds; shared = shared; cores = set v.cores c core_now; listed = bs })) listed_is
            (core-left shared_now cores_now long same indexed is))

    -- only what it has taken changes
    module _ (more : EventState) (ready_now : List QueueSet) (shared : List WaitingList) (listed : List Bool) (taken : List ℕ) where
      pub core-left-kept : more.listed ≡ listed → lists_from more.lists ListScope.Shared kinds 0 ≡ shared
          → cores_from more.lists kinds slots 257 ≡ set v.cores c (record (core_at v c) { taken = taken }) → length more.lists ≡ length state.lists
          → length shared ≡ length v.shared → AreIndexed shared ready_now → ((core_at v c).source ≡ None → taken ≡ []) → length taken ≤ 255
          → AreLeft kinds more ready_now slots (record { kinds = v.kinds; shared = shared; cores = set v.cores c (record (core_at v c) { taken = taken }); listed = listed })
      core-left-kept listed_is shared_now cores_now long same indexed unsourced few =
          subst (λ (ss : List CoreSlot). AreLeft kinds more ready_now ss (record { kinds = v.kinds; shared = shared; cores = set v.cores c (record (core_at v c) { taken = taken }); listed = listed }))
          (set-get_or slots c no_slot)
          (core-left-from c refl (slot_in slots c) (sym (get_or_self slots c (slot_in slots c) less refl)) more ready_now shared (slot_in slots c).ready (core_at v c).source (core_at v c).local taken
          (slot_in slots c).source listed (sym (source-is c less)) listed_is shared_now cores_now long same indexed
          (let is = is-slot whole c (core_less c less) in record { lists = is.lists; ready = is.ready; named = is.named; unsourced = unsourced; few = few }))

  -- an event arrives
  module _ (q : ℕ) (lt : q < length kinds) (r : RankedKind) (read : r ≡ get_or kinds q r) (i : ℕ) (more : EventState) (is_so : Bool) (sets : List QueueSet) where
    pub arrived-shared-left : is_local r.kind ≡ false → more.lists ≡ set state.lists q (events.list_in state.lists q ++ i ∷ []) → more.listed ≡ set state.listed i true
        → is_so ≡ (length (events.list_in state.lists q) == 0) → IsMarked ready sets q r.rank is_so true → AreLeft kinds more sets slots (arrived_shared v q i)
    arrived-shared-left kind lists listed tells marked = record {
      whole =
          subst (λ (u : QueueState). IsWhole u (length more.lists) sets slots) (sym now)
          (subst (λ n. IsWhole (arrived_shared v q i) n sets slots) (sym (ap (λ (ls : List (List ℕ)). length ls) lists ∙ length-set state.lists q (events.list_in state.lists q ++ i ∷ [])))
          (whole-shared whole (with_items v.shared q (items_in v.shared q ++ i ∷ [])) (set state.listed i true) sets
          (length-set v.shared q (record (list_in v.shared q) { items = items_in v.shared q ++ i ∷ [] }))
          (pushed-indexed whole.shared_ready q (shared_less q lt) sets is_so i (tells ∙ ap (λ (xs : List ℕ). length xs == 0) (sym (shared-items q lt)))
          (subst (λ (o : Option ℕ). IsMarked ready sets q o is_so true) (sym (shared-rank q lt r read kind)) marked))));
      state = now;
    }
      where
        now : queues_from kinds more slots ≡ arrived_shared v q i
        now = λ j. record {
          kinds = v.kinds;
          shared =
              (ap (λ ls. lists_from ls ListScope.Shared kinds 0) lists
              ∙ (shared-now q lt state.lists (events.list_in state.lists q ++ i ∷ []) refl ∙ ap (λ xs. with_items v.shared q (xs ++ i ∷ [])) (sym (shared-items q lt)))) j;
          cores = (ap (λ ls. cores_from ls kinds slots 257) lists ∙ shared-cores q lt state.lists (events.list_in state.lists q ++ i ∷ []) refl) j;
          listed = listed j;
        }

    module _ (c : ℕ) (less : c < length slots) (at : ℕ) (at_is : at ≡ c) (slot : CoreSlot) (slot_read : slot ≡ get_or slots at slot) where
      pub arrived-local-left : is_local r.kind ≡ true → more.lists ≡ set state.lists (local_number c q) (events.list_in state.lists (local_number c q) ++ i ∷ [])
          → more.listed ≡ set state.listed i true → is_so ≡ (length (events.list_in state.lists (local_number c q)) == 0) → IsMarked slot.ready sets q r.rank is_so true
          → AreLeft kinds more ready (set slots at (record { ready = sets; source = slot.source })) (arrived_local v q c i)
      arrived-local-left kind lists listed tells marked =
          core-left-from c less at at_is slot slot_read more ready v.shared sets (core_at v c).source (with_items (core_at v c).local q (items_in (core_at v c).local q ++ i ∷ [])) (core_at v c).taken
          slot.source (set state.listed i true) (ap (λ (t : CoreSlot). t.source) is_slot ∙ sym (source-is c less)) listed
          (ap (λ ls. lists_from ls ListScope.Shared kinds 0) lists ∙ local-shared c less (events.list_in state.lists (local_number c q) ++ i ∷ []) q lt state.lists)
          (ap (λ ls. cores_from ls kinds slots 257) lists
          ∙ (local-cores c less (events.list_in state.lists (local_number c q) ++ i ∷ []) q lt state.lists refl
          ∙ ap (λ xs. set v.cores c (record (core_at v c) { local = with_items (core_at v c).local q (xs ++ i ∷ []) })) (sym (local-items c less q lt))))
          (ap (λ (ls : List (List ℕ)). length ls) lists ∙ length-set state.lists (local_number c q) (events.list_in state.lists (local_number c q) ++ i ∷ []))
          refl whole.shared_ready
          (let is = is-slot whole c (core_less c less) in record {
            lists = length-set (core_at v c).local q (record (list_in (core_at v c).local q) { items = items_in (core_at v c).local q ++ i ∷ [] }) ∙ is.lists;
            ready =
                pushed-indexed (whole.local_ready c (core_less c less)) q (local_less c less q lt) sets is_so i
                (tells ∙ ap (λ (xs : List ℕ). length xs == 0) (sym (local-items c less q lt)))
                (subst (λ (o : Option ℕ). IsMarked (slot_in slots c).ready sets q o is_so true) (sym (local-rank c less q lt r read kind))
                (subst (λ (t : CoreSlot). IsMarked t.ready sets q r.rank is_so true) is_slot marked));
            named = is.named;
            unsourced = is.unsourced;
            few = is.few;
          })
        where
          is_slot : slot ≡ slot_in slots c
          is_slot = slot-is c less at at_is slot slot_read

  -- core c takes the first n, or gives back what it has taken
  module _ (q : QueueId) (lt : q.0 < length kinds) (r : RankedKind) (read : r ≡ get_or kinds q.0 r) (c : ℕ) (less : c < length slots) (at : ℕ) (at_is : at ≡ c)
      (slot : CoreSlot) (slot_read : slot ≡ get_or slots at slot) (more : EventState) (listed : more.listed ≡ state.listed) (is_so : Bool) (sets : List QueueSet) where
    abbrev local_now : List ℕ
    local_now = events.list_in state.lists (local_number c q.0)

    abbrev shared_list : List ℕ
    shared_list = events.list_in state.lists q.0

    abbrev taken_now : List ℕ
    taken_now = events.list_in state.lists (taken_number c)

    slot_is : slot ≡ slot_in slots c
    slot_is = slot-is c less at at_is slot slot_read

    source_now : slot.source ≡ (core_at v c).source
    source_now = ap (λ (t : CoreSlot). t.source) slot_is ∙ sym (source-is c less)

    named_now : (x : QueueId) → Some q ≡ Some x → x.0 < length v.kinds
    named_now x e =
        let same : q ≡ x = cc e in
        subst (λ (y : QueueId). y.0 < length v.kinds) same (let n = length-map kinds kind_of_ranked in omega arith)

    two_long : (m k : ℕ) (xs ys : List ℕ) → more.lists ≡ set (set state.lists m xs) k ys → length more.lists ≡ length state.lists
    two_long m k xs ys e = ap (λ (ls : List (List ℕ)). length ls) e ∙ (length-set (set state.lists m xs) k ys ∙ length-set state.lists m xs)

    few_first : (n : ℕ) (xs : List ℕ) → n ≤ 255 → length (take n xs) ≤ 255
    few_first n xs few = let long = length-take n xs in omega arith

    pub took-local-left : (n : ℕ) → n ≤ 255 → is_local r.kind ≡ true → n ≤ length local_now
        → more.lists ≡ set (set state.lists (local_number c q.0) (drop n local_now)) (taken_number c) (take n local_now)
        → is_so ≡ (length local_now == n) → IsMarked slot.ready sets q.0 r.rank is_so false
        → AreLeft kinds more ready (set slots at (record { ready = sets; source = Some q })) (took_local v q.0 c n)
    took-local-left n few kind le lists tells marked =
        core-left-from c less at at_is slot slot_read more ready v.shared sets (Some q) (with_items (core_at v c).local q.0 (drop n (items_in (core_at v c).local q.0))) (take n (items_in (core_at v c).local q.0))
        (Some q) state.listed refl listed
        (ap (λ ls. lists_from ls ListScope.Shared kinds 0) lists
        ∙ (taken-shared c less (take n local_now) (set state.lists (local_number c q.0) (drop n local_now)) ∙ local-shared c less (drop n local_now) q.0 lt state.lists))
        (ap (λ ls. cores_from ls kinds slots 257) lists
        ∙ (taken-cores c less (take n local_now) (set state.lists (local_number c q.0) (drop n local_now)) (length-set state.lists (local_number c q.0) (drop n local_now))
        ∙ (ap (λ cs. set cs c (record (core_in cs c) { taken = take n local_now })) (local-cores c less (drop n local_now) q.0 lt state.lists refl)
        ∙ (changed-again v.cores c (record (core_at v c) { local = with_items (core_at v c).local q.0 (drop n local_now) }) (λ x. record x { taken = take n local_now }) (core_less c less)
        ∙ ap (λ xs. set v.cores c (record { local = with_items (core_at v c).local q.0 (drop n xs); taken = take n xs; source = (core_at v c).source })) (sym (local-items c less q.0 lt))))))
        (two_long (local_number c q.0) (taken_number c) (drop n local_now) (take n local_now) lists)
        refl whole.shared_ready
        (let is = is-slot whole c (core_less c less) in record {
          lists = length-set (core_at v c).local q.0 (record (list_in (core_at v c).local q.0) { items = drop n (items_in (core_at v c).local q.0) }) ∙ is.lists;
          ready =
              cut-indexed (whole.local_ready c (core_less c less)) q.0 (local_less c less q.0 lt) sets is_so n
              (subst (λ (xs : List ℕ). n ≤ length xs) (sym (local-items c less q.0 lt)) le)
              (tells ∙ ap (λ (xs : List ℕ). length xs == n) (sym (local-items c less q.0 lt)))
              (subst (λ (o : Option ℕ). IsMarked (slot_in slots c).ready sets q.0 o is_so false) (sym (local-rank c less q.0 lt r read kind))
              (subst (λ (t : CoreSlot). IsMarked t.ready sets q.0 r.rank is_so false) slot_is marked));
          named = named_now;
          unsourced = λ e. absurd (cc e);
          few = few_first n (items_in (core_at v c).local q.0) few;
        })

    pub took-shared-left : (n : ℕ) → n ≤ 255 → is_local r.kind ≡ false → n ≤ length shared_list
        → more.lists ≡ set (set state.lists q.0 (drop n shared_list)) (taken_number c) (take n shared_list)
        → is_so ≡ (length shared_list == n) → IsMarked ready sets q.0 r.rank is_so false
        → AreLeft kinds more sets (set slots at (record { ready = slot.ready; source = Some q })) (took_shared v q.0 c n)
    took-shared-left n few kind le lists tells marked =
        core-left-from c less at at_is slot slot_read more sets (with_items v.shared q.0 (drop n (items_in v.shared q.0))) slot.ready (Some q) (core_at v c).local (take n (items_in v.shared q.0))
        (Some q) state.listed refl listed
        (ap (λ ls. lists_from ls ListScope.Shared kinds 0) lists
        ∙ (taken-shared c less (take n shared_list) (set state.lists q.0 (drop n shared_list))
        ∙ (shared-now q.0 lt state.lists (drop n shared_list) refl ∙ ap (λ xs. with_items v.shared q.0 (drop n xs)) (sym (shared-items q.0 lt)))))
        (ap (λ ls. cores_from ls kinds slots 257) lists
        ∙ (taken-cores c less (take n shared_list) (set state.lists q.0 (drop n shared_list)) (length-set state.lists q.0 (drop n shared_list))
        ∙ (ap (λ cs. set cs c (record (core_in cs c) { taken = take n shared_list })) (shared-cores q.0 lt state.lists (drop n shared_list) refl)
        ∙ ap (λ xs. set v.cores c (record (core_at v c) { taken = take n xs })) (sym (shared-items q.0 lt)))))
        (two_long q.0 (taken_number c) (drop n shared_list) (take n shared_list) lists)
        (length-set v.shared q.0 (record (list_in v.shared q.0) { items = drop n (items_in v.shared q.0) }))
        (cut-indexed whole.shared_ready q.0 (shared_less q.0 lt) sets is_so n
        (subst (λ (xs : List ℕ). n ≤ length xs) (sym (shared-items q.0 lt)) le)
        (tells ∙ ap (λ (xs : List ℕ). length xs == n) (sym (shared-items q.0 lt)))
        (subst (λ (o : Option ℕ). IsMarked ready sets q.0 o is_so false) (sym (shared-rank q.0 lt r read kind)) marked))
        (let is = is-slot whole c (core_less c less) in record {
          lists = is.lists;
          ready = subst (λ (t : CoreSlot). AreIndexed (core_at v c).local t.ready) (sym slot_is) is.ready;
          named = named_now;
          unsourced = λ e. absurd (cc e);
          few = few_first n (items_in v.shared q.0) few;
        })

    pub gave-local-left : is_local r.kind ≡ true → more.lists ≡ set (set state.lists (taken_number c) []) (local_number c q.0) (taken_now ++ local_now)
        → is_so ≡ nat_lt 0 (length taken_now) → IsMarked slot.ready sets q.0 r.rank is_so true
        → AreLeft kinds more ready (set slots at (record { ready = sets; source = slot.source })) (gave_local v c q.0)
    gave-local-left kind lists tells marked =
        core-left-from c less at at_is slot slot_read more ready v.shared sets (core_at v c).source (with_items (core_at v c).local q.0 (taken_at v c ++ items_in (core_at v c).local q.0)) []
        slot.source state.listed source_now listed
        (ap (λ ls. lists_from ls ListScope.Shared kinds 0) lists
        ∙ (local-shared c less (taken_now ++ local_now) q.0 lt (set state.lists (taken_number c) []) ∙ taken-shared c less [] state.lists))
        (ap (λ ls. cores_from ls kinds slots 257) lists
        ∙ (local-cores c less (taken_now ++ local_now) q.0 lt (set state.lists (taken_number c) []) (length-set state.lists (taken_number c) [])
        ∙ (ap (λ cs. set cs c (record (core_in cs c) { local = with_items (core_in cs c).local q.0 (taken_now ++ local_now) })) (taken-cores c less [] state.lists refl)
        ∙ (changed-again v.cores c (record (core_at v c) { taken = [] }) (λ x. record x { local = with_items x.local q.0 (taken_now ++ local_now) }) (core_less c less)
        ∙ (λ i. set v.cores c (record {
          local = with_items (core_at v c).local q.0 (sym (taken-items c less) i ++ sym (local-items c less q.0 lt) i);
          taken = [];
          source = (core_at v c).source;
        }))))))
        (two_long (taken_number c) (local_number c q.0) [] (taken_now ++ local_now) lists)
        refl whole.shared_ready
        (let is = is-slot whole c (core_less c less) in record {
          lists = length-set (core_at v c).local q.0 (record (list_in (core_at v c).local q.0) { items = taken_at v c ++ items_in (core_at v c).local q.0 }) ∙ is.lists;
          ready =
              given-indexed (whole.local_ready c (core_less c less)) q.0 (local_less c less q.0 lt) sets is_so (taken_at v c)
              (tells ∙ ap (λ (xs : List ℕ). nat_lt 0 (length xs)) (sym (taken-items c less)))
              (subst (λ (o : Option ℕ). IsMarked (slot_in slots c).ready sets q.0 o is_so true) (sym (local-rank c less q.0 lt r read kind))
              (subst (λ (t : CoreSlot). IsMarked t.ready sets q.0 r.rank is_so true) slot_is marked));
          named = is.named;
          unsourced = λ _. refl;
          few = omega arith;
        })

  pub gave-shared-left : (q : ℕ) (lt : q < length kinds) (r : RankedKind) (read : r ≡ get_or kinds q r) (c : ℕ) (less : c < length slots) (more : EventState) (is_so : Bool) (sets : List QueueSet)
      → more.listed ≡ state.listed → is_local r.kind ≡ false
      → more.lists ≡ set (set state.lists (taken_number c) []) q (events.list_in state.lists (taken_number c) ++ events.list_in state.lists q)
      → is_so ≡ nat_lt 0 (length (events.list_in state.lists (taken_number c))) → IsMarked ready sets q r.rank is_so true
      → AreLeft kinds more sets slots (gave_shared v c q)
  gave-shared-left q lt r read c less more is_so sets listed kind lists tells marked =
      core-left-kept c less more sets (with_items v.shared q (taken_at v c ++ items_in v.shared q)) state.listed [] listed
      (ap (λ ls. lists_from ls ListScope.Shared kinds 0) lists
      ∙ (shared-now q lt (set state.lists (taken_number c) []) joined (length-set state.lists (taken_number c) [])
      ∙ (ap (λ ls. with_items ls q joined) (taken-shared c less [] state.lists)
      ∙ (λ i. with_items v.shared q (sym (taken-items c less) i ++ sym (shared-items q lt) i)))))
      (ap (λ ls. cores_from ls kinds slots 257) lists
      ∙ (shared-cores q lt (set state.lists (taken_number c) []) joined (length-set state.lists (taken_number c) []) ∙ taken-cores c less [] state.lists refl))
      (ap (λ (ls : List (List ℕ)). length ls) lists ∙ (length-set (set state.lists (taken_number c) []) q joined ∙ length-set state.lists (taken_number c) []))
      (length-set v.shared q (record (list_in v.shared q) { items = taken_at v c ++ items_in v.shared q }))
      (given-indexed whole.shared_ready q (shared_less q lt) sets is_so (taken_at v c)
      (tells ∙ ap (λ (xs : List ℕ). nat_lt 0 (length xs)) (sym (taken-items c less)))
      (subst (λ (o : Option ℕ). IsMarked ready sets q o is_so true) (sym (shared-rank q lt r read kind)) marked))
      (λ _. refl) (omega arith)
    where
      joined : List ℕ
      joined = events.list_in state.lists (taken_number c) ++ events.list_in state.lists q

  -- the first event that core c has taken leaves
  pub started-left : (c : ℕ) (less : c < length slots) (i : ℕ) (more : EventState) → more.listed ≡ set state.listed i false
      → more.lists ≡ set state.lists (taken_number c) (drop 1 (events.list_in state.lists (taken_number c))) → AreLeft kinds more ready slots (started v c i)
  started-left c less i more listed lists =
      core-left-kept c less more ready v.shared (set state.listed i false) (drop 1 (taken_at v c)) listed
      (ap (λ ls. lists_from ls ListScope.Shared kinds 0) lists ∙ taken-shared c less (drop 1 (events.list_in state.lists (taken_number c))) state.lists)
      (ap (λ ls. cores_from ls kinds slots 257) lists
      ∙ (taken-cores c less (drop 1 (events.list_in state.lists (taken_number c))) state.lists refl
      ∙ ap (λ xs. set v.cores c (record (core_at v c) { taken = drop 1 xs })) (sym (taken-items c less))))
      (ap (λ (ls : List (List ℕ)). length ls) lists ∙ length-set state.lists (taken_number c) (drop 1 (events.list_in state.lists (taken_number c))))
      refl whole.shared_ready (λ e. ap (drop 1) (whole.unsourced c e))
      (let few = whole.few_taken c in let long = length-drop 1 (taken_at v c) in omega arith)

  -- the first event that waits in a queue leaves
  pub dequeued-left : (q : ℕ) (lt : q < length kinds) (r : RankedKind) (read : r ≡ get_or kinds q r) (i : ℕ) (more : EventState) (is_so : Bool) (sets : List QueueSet)
      → more.listed ≡ set state.listed i false → is_local r.kind ≡ false → 1 ≤ length (events.list_in state.lists q)
      → more.lists ≡ set state.lists q (drop 1 (events.list_in state.lists q)) → is_so ≡ (length (events.list_in state.lists q) == 1)
      → IsMarked ready sets q r.rank is_so false → AreLeft kinds more sets slots (dequeued v q i)
  dequeued-left q lt r read i more is_so sets listed kind some lists tells marked = record {
    whole =
        subst (λ (u : QueueState). IsWhole u (length more.lists) sets slots) (sym now)
        (subst (λ n. IsWhole (dequeued v q i) n sets slots) (sym (ap (λ (ls : List (List ℕ)). length ls) lists ∙ length-set state.lists q (drop 1 (events.list_in state.lists q))))
        (whole-shared whole (with_items v.shared q (drop 1 (items_in v.shared q))) (set state.listed i false) sets
        (length-set v.shared q (record (list_in v.shared q) { items = drop 1 (items_in v.shared q) }))
        (cut-indexed whole.shared_ready q (shared_less q lt) sets is_so 1 (subst (λ (xs : List ℕ). 1 ≤ length xs) (sym (shared-items q lt)) some)
        (tells ∙ ap (λ (xs : List ℕ). length xs == 1) (sym (shared-items q lt)))
        (subst (λ (o : Option ℕ). IsMarked ready sets q o is_so false) (sym (shared-rank q lt r read kind)) marked))));
    state = now;
  }
    where
      now : queues_from kinds more slots ≡ dequeued v q i
      now = λ j. record {
        kinds = v.kinds;
        shared =
            (ap (λ ls. lists_from ls ListScope.Shared kinds 0) lists
            ∙ (shared-now q lt state.lists (drop 1 (events.list_in state.lists q)) refl ∙ ap (λ xs. with_items v.shared q (drop 1 xs)) (sym (shared-items q lt)))) j;
        cores = (ap (λ ls. cores_from ls kinds slots 257) lists ∙ shared-cores q lt state.lists (drop 1 (events.list_in state.lists q)) refl) j;
        listed = listed j;
      }

  -- as the callers see them
  module _ {w : QueueState} (view : queues_from kinds state slots ≡ w) where
    pub seen-shared : (q : ℕ) → q < length kinds → items_in w.shared q ≡ events.list_in state.lists q
    seen-shared q lt = subst (λ (u : QueueState). items_in u.shared q ≡ events.list_in state.lists q) view (shared-items q lt)

    pub seen-local : (c : ℕ) → c < length slots → (q : ℕ) → q < length kinds → items_in (core_at w c).local q ≡ events.list_in state.lists (local_number c q)
    seen-local c less q lt = subst (λ (u : QueueState). items_in (core_at u c).local q ≡ events.list_in state.lists (local_number c q)) view (local-items c less q lt)

    pub seen-taken : (c : ℕ) → c < length slots → taken_at w c ≡ events.list_in state.lists (taken_number c)
    seen-taken c less = subst (λ (u : QueueState). taken_at u c ≡ events.list_in state.lists (taken_number c)) view (taken-items c less)

    pub seen-source : (c : ℕ) → c < length slots → (at : ℕ) → at ≡ c → (slot : CoreSlot) → slot ≡ get_or slots at slot → slot.source ≡ (core_at w c).source
    seen-source c less at at_is slot read =
        subst (λ (u : QueueState). slot.source ≡ (core_at u c).source) view
        (ap (λ (t : CoreSlot). t.source) (slot-is c less at at_is slot read) ∙ sym (source-is c less))

    pub seen-few : (c : ℕ) → length (taken_at w c) ≤ 255
    seen-few c = subst (λ (u : QueueState). length (taken_at u c) ≤ 255) view (whole.few_taken c)

    pub seen-named : (c : ℕ) (q : QueueId) → (core_at w c).source ≡ Some q → q.0 < length w.kinds
    seen-named c = subst (λ (u : QueueState). (q : QueueId) → (core_at u c).source ≡ Some q → q.0 < length u.kinds) view (whole.named c)

    pub seen-unsourced : (c : ℕ) → (core_at w c).source ≡ None → taken_at w c ≡ []
    seen-unsourced c = subst (λ (u : QueueState). (core_at u c).source ≡ None → taken_at u c ≡ []) view (whole.unsourced c)

    pub seen-shared-ready : (r q : ℕ) → has_ready ready r q ≡ is_ready r (list_in w.shared q)
    seen-shared-ready r q = subst (λ (u : QueueState). has_ready ready r q ≡ is_ready r (list_in u.shared q)) view (whole.shared_ready.exact r q)

    pub seen-local-ready : (c : ℕ) → c < length slots → (at : ℕ) → at ≡ c → (slot : CoreSlot) → slot ≡ get_or slots at slot → (r q : ℕ)
        → has_ready slot.ready r q ≡ is_ready r (list_in (core_at w c).local q)
    seen-local-ready c less at at_is slot read r q =
        subst (λ (u : QueueState). has_ready slot.ready r q ≡ is_ready r (list_in (core_at u c).local q)) view
        (ap (λ (t : CoreSlot). has_ready t.ready r q) (slot-is c less at at_is slot read) ∙ (whole.local_ready c (core_less c less)).exact r q)
