-- The index of a minted handle is that of an event of the pools.
use Rattle.std.proofs.Common.{◌≡◌, ℕ, zero, suc, ◌+◌, ◌<◌, ◌≤◌, Bool, true, false, [], ◌∷◌, List, take, Option, Some, None, refl, ap, sym, ◌∙◌, subst, arith, if◌then◌else◌, slice_get}
use Rattle.std.specs.List.{find}
use Rattle.std.specs.Option.{option_map, option_map_or}
use Rattle.std.proofs.lemmas.Bool.{eq-eqb}
use Rattle.em_log.specs.declared.declarations.Declarations.{Declarations}
use Rattle.em_log.specs.declared.declarations.PoolShape.{PoolShape}
use Rattle.em_log.specs.declared.entry.Event.{Event}
use Rattle.em_log.specs.declared.entry.What.{What}
use Rattle.em_log.specs.declared.ids.Kind.{Kind}
use Rattle.em_log.specs.declared.ids.Limits.{Limits}
use Rattle.em_log.specs.History.{Past, minted_in, has, index_of}
use Rattle.em_log.specs.Declarations.{event_total, numbers_from, events_of_pool, indices_of_pool, kind_of, is_output, is_unscheduled}
use Rattle.em_log.specs.Contexts.{context_object}
use Rattle.em_log.specs.Handles.{Minting, minting, minting_by, last_handle, next_handle, generation}
use Rattle.em_log.specs.Arrivals.{Item}
use Rattle.em_log.specs.Places.{waiting, taken, kept, first_free, has_item}
use Rattle.em_log.specs.Leads.{claimed_from, kept_again, dequeued}
use Rattle.em_log.specs.Lawful.{AllAllowed}
use Rattle.em_moments.proofs.Moments.{Moment, allowed-moment}
use Rattle.em_laws.specs.Minted.{HasSmallIndices}
use Rattle.em_laws.proofs.Cores.{Compared, Same, Other, compared, some-inj}
use Rattle.em_laws.proofs.Fresh.{handle-index, index-small, free-small}
use Rattle.em_pool.specs.declared.place.Place.{Place}
use Rattle.em_places.specs.Parked.{InTaken, InObject, InQueue}
use Rattle.em_places.proofs.Parked.{parked-sit, last-minted}

-- each minted handle's index is below this
abbrev AllBelow : Past → ℕ → Type 0
AllBelow past n = (h : ℕ) (m : Minting) → minting past h ≡ Some m → index_of h < n

find-within : (p : ℕ → Bool) (i a n : ℕ) → find p (numbers_from a n) ≡ Some i → i < a + n
find-within p i a zero h = absurd cc
find-within p i a (suc n) h = by_test (p a) h (find-within p i (suc a) n)
  where
    by_test : (b : Bool) → (if b then Some a else find p (numbers_from (suc a) n)) ≡ Some i → (find p (numbers_from (suc a) n) ≡ Some i → i < suc a + n) → i < a + suc n
    by_test true h later = let same : a ≡ i = some-inj _ _ h in omega (arith, same)
    by_test false h later = let lt : i < suc a + n = later h in omega (arith, lt)

total-within : (ps : List PoolShape) (p : ℕ) → event_total (take p ps) + option_map_or (λ d. d.events) (slice_get ps p) 0 ≤ event_total ps
total-within [] zero = omega arith
total-within [] (suc p) = omega arith
total-within (d ∷ ds) zero = omega arith
total-within (d ∷ ds) (suc p) = let h = total-within ds p in omega (arith, h)

free-below : (k : Declarations) (past : Past) (p i : ℕ) → first_free k past (indices_of_pool k p) ≡ Some i → i < event_total k.pools
free-below k past p i h =
    let lt : i < event_total (take p k.pools) + events_of_pool k p = find-within _ i _ _ h in
    let le : event_total (take p k.pools) + events_of_pool k p ≤ event_total k.pools = total-within k.pools p in omega (arith, lt, le)

-- an entry mints nothing, or a handle of an index that is below
data MintsBelow (n : ℕ) (w : What) : Type 0 where
  NoMint : minted_in w ≡ None → MintsBelow n w
  OneMint : (e : Event) → minted_in w ≡ Some e → index_of e.handle.0 < n → MintsBelow n w

-- a handle that is the last of its index was minted
last-below : (past : Past) (n h : ℕ) → AllBelow past n → last_handle past (index_of h) ≡ Some h → index_of h < n
last-below past n h older last = let m = last-minted past (index_of h) h last in older h m.1.0 m.1.1

renewed : (past : Past) (n h : ℕ) (e : Event) → e.handle.0 ≡ next_handle past (index_of h) → index_of h < n → index_of e.handle.0 < n
renewed past n h e is lt =
    let same : index_of e.handle.0 ≡ index_of h = ap index_of is ∙ handle-index (generation past (index_of h) + 1) (index_of h) (index-small h) in
    subst (λ (i : ℕ). i < n) (sym same) lt

first-has : (x : Item) (xs : List Item) → has_item (x ∷ xs) x.handle ≡ true
first-has x xs = let own = eq-eqb x.handle x.handle refl in rw own refl

unscheduled-inner : (kind : Kind) → is_unscheduled kind ≡ true → is_output kind ≡ false
unscheduled-inner Kind.Output h = absurd (cc h)
unscheduled-inner Kind.Unscheduled h = refl
unscheduled-inner Kind.Atomic h = refl
unscheduled-inner Kind.Parallel h = refl
unscheduled-inner Kind.Ordered h = refl
unscheduled-inner Kind.Local h = refl

mints-below : (k : Declarations) (l : Limits) (past : Past) (c : ℕ) (w : What) → HasSmallIndices k → AllAllowed k l past → AllBelow past (event_total k.pools) → Moment k l past c w
    → MintsBelow (event_total k.pools) w
mints-below k l past c (What.Alloc p e) small all older m =
    let below = free-below k past p.0 m.index m.free in
    let same : index_of e.handle.0 ≡ m.index = ap index_of m.handle ∙ handle-index (generation past m.index + 1) m.index (free-small k past p.0 m.index small m.free) in
    OneMint e refl (subst (λ (i : ℕ). i < event_total k.pools) (sym same) below)
mints-below k l past c (What.Start q e s) small all older m =
    let there : has_item (taken k past c) m.item.handle ≡ true = rw (m.taken) (first-has m.item m.rest) in
    let sits = parked-sit k l past small all m.item.handle (Place.Taken (record { 0 = c })) (InTaken c there refl) in
    OneMint e refl (renewed past (event_total k.pools) m.item.handle e (ap (λ (v : Event). v.handle.0) m.event) (last-below past (event_total k.pools) m.item.handle older sits.last))
mints-below k l past c (What.Claim None) small all older m = NoMint refl
mints-below k l past c (What.Claim (Some e)) small all older m = by_object (context_object k past c) m.event
  where
    by_minting : (x h : ℕ) (o : Option Minting) → has (kept k past x) h ≡ true → Some e ≡ option_map (kept_again past h) o → MintsBelow (event_total k.pools) (What.Claim (Some e))
    by_minting x h None there is = absurd (cc is)
    by_minting x h (Some m) there is =
        let sits = parked-sit k l past small all h (Place.Kept (record { 0 = x })) (InObject x there refl) in
        OneMint e refl (renewed past (event_total k.pools) h e (ap (λ (v : Event). v.handle.0) (some-inj _ _ is)) (last-below past (event_total k.pools) h older sits.last))

    by_kept : (x : ℕ) (hs : List ℕ) → kept k past x ≡ hs → Some e ≡ claimed_from past hs → MintsBelow (event_total k.pools) (What.Claim (Some e))
    by_kept x [] at is = absurd (cc is)
    by_kept x (h ∷ hs) at is =
        let own = eq-eqb h h refl in
        by_minting x h (minting past h) (ap (λ ys. has ys h) at ∙ (rw own refl)) is

    by_object : (o : Option ℕ) → Some e ≡ option_map_or (λ x. claimed_from past (kept k past x)) o None → MintsBelow (event_total k.pools) (What.Claim (Some e))
    by_object None is = absurd (cc is)
    by_object (Some x) is = by_kept x (kept k past x) refl is
mints-below k l past c (What.Dequeue q None) small all older m = NoMint refl
mints-below k l past c (What.Dequeue q (Some e)) small all older m = by_waiting (waiting k past q.0 c) refl m.event
  where
    by_waiting : (xs : List Item) → waiting k past q.0 c ≡ xs → Some e ≡ dequeued past xs → MintsBelow (event_total k.pools) (What.Dequeue q (Some e))
    by_waiting [] at is = absurd (cc is)
    by_waiting (x ∷ xs) at is =
        let there : has_item (waiting k past q.0 c) x.handle ≡ true = rw at (first-has x xs) in
        let sits = parked-sit k l past small all x.handle (Place.Waiting (record { 0 = q.0 })) (InQueue q.0 c (unscheduled-inner (kind_of k q.0) m.unscheduled) there refl) in
        OneMint e refl (renewed past (event_total k.pools) x.handle e (ap (λ (v : Event). v.handle.0) (some-inj _ _ is)) (last-below past (event_total k.pools) x.handle older sits.last))
mints-below k l past c w small all older m = NoMint refl

all-below : (k : Declarations) (l : Limits) (past : Past) → HasSmallIndices k → AllAllowed k l past → AllBelow past (event_total k.pools)
all-below k l [] small all = λ h m is. absurd (cc is)
all-below k l (e ∷ past) small all =
    by_mint (all-below k l past small all.1) (mints-below k l past e.core.0 e.what small all.1 (all-below k l past small all.1) (allowed-moment k l past e all.1 all.0))
  where
    by_mint : AllBelow past (event_total k.pools) → MintsBelow (event_total k.pools) e.what → (h : ℕ) (m : Minting) → minting (e ∷ past) h ≡ Some m → index_of h < event_total k.pools
    by_mint older (NoMint none) h m is = older h m (subst (λ o. minting_by h e.core.0 o (minting past h) ≡ Some m) none is)
    by_mint older (OneMint v one lt) h m is = by_test (compared v.handle.0 h) (subst (λ o. minting_by h e.core.0 o (minting past h) ≡ Some m) one is)
      where
        by_test : Compared v.handle.0 h → minting_by h e.core.0 (Some v) (minting past h) ≡ Some m → index_of h < event_total k.pools
        by_test (Same t same) is = subst (λ (x : ℕ). index_of x < event_total k.pools) same lt
        by_test (Other f same) is = older h m (rw f at is)

pub minted-below : (k : Declarations) (l : Limits) (past : Past) → HasSmallIndices k → AllAllowed k l past → (h : ℕ) (m : Minting) → minting past h ≡ Some m
    → index_of h < event_total k.pools
minted-below k l past small all h m is = all-below k l past small all h m is
