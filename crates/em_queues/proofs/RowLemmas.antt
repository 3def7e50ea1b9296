-- The lists of the queues and the cores, once one list of events has changed.
use Rattle.std.proofs.Common.{◌≡◌, ◌≢◌, ℕ, zero, suc, ◌+◌, ◌*◌, ◌<◌, ◌≤◌, List, [], ◌∷◌, length, map, get_or, set, arith, refl, ap, sym, ◌∙◌}
use Rattle.std.proofs.lemmas.List.{get_or-set_same, get_or-set_other}
use Rattle.em_log.specs.declared.ids.Kind.{Kind}
use Rattle.em_queues.specs.declared.kinds.RankedKind.{RankedKind}
use Rattle.em_queues.specs.declared.cores.CoreSlot.{CoreSlot}
use Rattle.em_queues.specs.Events.{list_in}
use Rattle.em_queues.specs.Waiting.{WaitingList, ListScope, no_list, with_items, items_in}
use Rattle.em_queues.specs.Waiting
use Rattle.em_queues.specs.State.{core_in}
use Rattle.em_queues.specs.Rows.{kind_of_ranked, scoped, lists_from, core_from, cores_from, slot_in}

-- a list for each queue

pub length-lists : (lists : List (List ℕ)) (scope : ListScope) (kinds : List RankedKind) (n : ℕ) → length (lists_from lists scope kinds n) ≡ length kinds
length-lists lists scope [] n = refl
length-lists lists scope (r ∷ rs) n = ap suc (length-lists lists scope rs (suc n))

pub list-from : (lists : List (List ℕ)) (scope : ListScope) (kinds : List RankedKind) (n q m : ℕ) → q < length kinds → m ≡ n + q
    → items_in (lists_from lists scope kinds n) q ≡ list_in lists m
list-from lists scope [] n q m lt e = absurd (omega arith)
list-from lists scope (r ∷ rs) n zero m lt e = let same : n ≡ m = omega arith in ap (list_in lists) same
list-from lists scope (r ∷ rs) n (suc q) m lt e = list-from lists scope rs (suc n) q m (omega arith) (omega arith)

-- the kind of queue q, and its priority in each scope, where r is what is kept of it

pub kind-from : (kinds : List RankedKind) (q : ℕ) (r : RankedKind) → q < length kinds → r ≡ get_or kinds q r → get_or (map kind_of_ranked kinds) q Kind.Unscheduled ≡ r.kind
kind-from [] q r lt read = absurd (omega arith)
kind-from (k ∷ ks) zero r lt read = ap kind_of_ranked (sym read)
kind-from (k ∷ ks) (suc q) r lt read = kind-from ks q r (omega arith) read

pub rank-from : (lists : List (List ℕ)) (scope : ListScope) (kinds : List RankedKind) (n q : ℕ) (r : RankedKind) → q < length kinds → r ≡ get_or kinds q r
    → (Waiting.list_in (lists_from lists scope kinds n) q).rank ≡ scoped scope r
rank-from lists scope [] n q r lt read = absurd (omega arith)
rank-from lists scope (k ∷ ks) n zero r lt read = ap (scoped scope) (sym read)
rank-from lists scope (k ∷ ks) n (suc q) r lt read = rank-from lists scope ks (suc n) q r (omega arith) read

-- a list of events of another number changes
pub lists-kept : (lists : List (List ℕ)) (scope : ListScope) (kinds : List RankedKind) (n m : ℕ) (xs : List ℕ) → (n ≤ m → n + length kinds ≤ m)
    → lists_from (set lists m xs) scope kinds n ≡ lists_from lists scope kinds n
lists-kept lists scope [] n m xs out = refl
lists-kept lists scope (r ∷ rs) n m xs out =
    let ne : n ≢ m = (λ same. let le = out (omega arith) in omega arith) in
    λ i. record { rank = scoped scope r; items = get_or-set_other lists m n xs [] ne i } ∷ lists-kept lists scope rs (suc n) m xs (λ le. let far = out (omega arith) in omega arith) i

-- that of queue q changes
pub lists-changed : (lists : List (List ℕ)) (scope : ListScope) (kinds : List RankedKind) (n q m : ℕ) (xs : List ℕ) → q < length kinds → m ≡ n + q → m < length lists
    → lists_from (set lists m xs) scope kinds n ≡ with_items (lists_from lists scope kinds n) q xs
lists-changed lists scope [] n q m xs lt e there = absurd (omega arith)
lists-changed lists scope (r ∷ rs) n zero m xs lt e there =
    let same : n ≡ m = omega arith in
    λ i. record { rank = scoped scope r; items = (ap (λ k. list_in (set lists m xs) k) same ∙ get_or-set_same lists m xs [] there) i }
    ∷ lists-kept lists scope rs (suc n) m xs (λ le. omega arith) i
lists-changed lists scope (r ∷ rs) n (suc q) m xs lt e there =
    let ne : n ≢ m = omega arith in
    λ i. record { rank = scoped scope r; items = get_or-set_other lists m n xs [] ne i }
    ∷ lists-changed lists scope rs (suc n) q m xs (omega arith) (omega arith) there i

-- the cores

pub length-cores : (lists : List (List ℕ)) (kinds : List RankedKind) (slots : List CoreSlot) (n : ℕ) → length (cores_from lists kinds slots n) ≡ length slots
length-cores lists kinds [] n = refl
length-cores lists kinds (s ∷ ss) n = ap suc (length-cores lists kinds ss (n + 257))

pub core-from : (lists : List (List ℕ)) (kinds : List RankedKind) (slots : List CoreSlot) (n c m : ℕ) → c < length slots → m ≡ n + 257 * c
    → core_in (cores_from lists kinds slots n) c ≡ core_from lists kinds (slot_in slots c) m
core-from lists kinds [] n c m lt e = absurd (omega arith)
core-from lists kinds (s ∷ ss) n zero m lt e = let same : n ≡ m = omega arith in ap (core_from lists kinds s) same
core-from lists kinds (s ∷ ss) n (suc c) m lt e = core-from lists kinds ss (n + 257) c m (omega arith) (omega arith)

module _ (kinds : List RankedKind) (few : length kinds ≤ 256) where
  one_kept : (lists : List (List ℕ)) (s : CoreSlot) (n m : ℕ) (xs : List ℕ) → (n ≤ m → n + 257 ≤ m) → core_from (set lists m xs) kinds s n ≡ core_from lists kinds s n
  one_kept lists s n m xs out =
      let ne : n + 256 ≢ m = (λ same. let far = out (omega arith) in omega arith) in
      λ i. record {
        local = lists-kept lists ListScope.Local kinds n m xs (λ le. let far = out le in omega arith) i;
        taken = get_or-set_other lists m (n + 256) xs [] ne i;
        source = s.source;
      }

  pub cores-kept : (lists : List (List ℕ)) (slots : List CoreSlot) (n m : ℕ) (xs : List ℕ) → (n ≤ m → n + 257 * length slots ≤ m)
      → cores_from (set lists m xs) kinds slots n ≡ cores_from lists kinds slots n
  cores-kept lists [] n m xs out = refl
  cores-kept lists (s ∷ ss) n m xs out =
      λ i. one_kept lists s n m xs (λ le. let far = out le in omega arith) i
      ∷ cores-kept lists ss (n + 257) m xs (λ le. let far = out (omega arith) in omega arith) i

  -- the list that core c has of queue q changes
  pub local-changed : (lists : List (List ℕ)) (slots : List CoreSlot) (n c q m : ℕ) (xs : List ℕ) → q < length kinds → c < length slots → m ≡ n + 257 * c + q → m < length lists
      → cores_from (set lists m xs) kinds slots n
      ≡ set (cores_from lists kinds slots n) c (record (core_in (cores_from lists kinds slots n) c) { local = with_items (core_in (cores_from lists kinds slots n) c).local q xs })
  local-changed lists [] n c q m xs lt less e there = absurd (omega arith)
  local-changed lists (s ∷ ss) n zero q m xs lt less e there =
      let ne : n + 256 ≢ m = omega arith in
      λ i. record {
        local = lists-changed lists ListScope.Local kinds n q m xs lt (omega arith) there i;
        taken = get_or-set_other lists m (n + 256) xs [] ne i;
        source = s.source;
      }
      ∷ cores-kept lists ss (n + 257) m xs (λ le. omega arith) i
  local-changed lists (s ∷ ss) n (suc c) q m xs lt less e there =
      λ i. one_kept lists s n m xs (λ le. omega arith) i
      ∷ local-changed lists ss (n + 257) c q m xs lt (omega arith) (omega arith) there i

  -- what core c has taken changes
  pub taken-changed : (lists : List (List ℕ)) (slots : List CoreSlot) (n c m : ℕ) (xs : List ℕ) → c < length slots → m ≡ n + 257 * c + 256 → m < length lists
      → cores_from (set lists m xs) kinds slots n ≡ set (cores_from lists kinds slots n) c (record (core_in (cores_from lists kinds slots n) c) { taken = xs })
  taken-changed lists [] n c m xs less e there = absurd (omega arith)
  taken-changed lists (s ∷ ss) n zero m xs less e there =
      let same : n + 256 ≡ m = omega arith in
      λ i. record {
        local = lists-kept lists ListScope.Local kinds n m xs (λ le. omega arith) i;
        taken = (ap (λ k. list_in (set lists m xs) k) same ∙ get_or-set_same lists m xs [] there) i;
        source = s.source;
      }
      ∷ cores-kept lists ss (n + 257) m xs (λ le. omega arith) i
  taken-changed lists (s ∷ ss) n (suc c) m xs less e there =
      λ i. one_kept lists s n m xs (λ le. omega arith) i
      ∷ taken-changed lists ss (n + 257) c m xs (omega arith) (omega arith) there i

-- what is kept of core c changes
pub slot-changed : (lists : List (List ℕ)) (kinds : List RankedKind) (slots : List CoreSlot) (n c : ℕ) (t : CoreSlot) → c < length slots
    → cores_from lists kinds (set slots c t) n ≡ set (cores_from lists kinds slots n) c (record (core_in (cores_from lists kinds slots n) c) { source = t.source })
slot-changed lists kinds [] n c t lt = absurd (omega arith)
slot-changed lists kinds (s ∷ ss) n zero t lt = refl
slot-changed lists kinds (s ∷ ss) n (suc c) t lt = λ i. core_from lists kinds s n ∷ slot-changed lists kinds ss (n + 257) c t (omega arith) i

-- what is kept of core c changes, and not the queue that it took from
pub slot-ready : (lists : List (List ℕ)) (kinds : List RankedKind) (slots : List CoreSlot) (n c : ℕ) (t : CoreSlot) → t.source ≡ (slot_in slots c).source
    → cores_from lists kinds (set slots c t) n ≡ cores_from lists kinds slots n
slot-ready lists kinds [] n c t e = refl
slot-ready lists kinds (s ∷ ss) n zero t e =
    λ i. record { local = lists_from lists ListScope.Local kinds n; taken = list_in lists (n + 256); source = e i } ∷ cores_from lists kinds ss (n + 257)
slot-ready lists kinds (s ∷ ss) n (suc c) t e = λ i. core_from lists kinds s n ∷ slot-ready lists kinds ss (n + 257) c t e i
