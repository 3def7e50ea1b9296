-- Each handle stands in one list at most once, and what is taken of a list came from its front.
use Rattle.std.proofs.Common.{◌≡◌, ◌≢◌, ℕ, suc, ◌+◌, ◌-◌, ◌≤◌, ◌==◌, Bool, true, false, ◌||◌, List, [], ◌∷◌, ◌++◌, length, take, drop, Option, Some, None, refl, sym, ◌∙◌, subst, ap, if◌then◌else◌, arith}
use Rattle.std.specs.Option.{option_map_or}
use Rattle.std.proofs.lemmas.List.{append_assoc, map-append, take-append-le, take-append-drop, drop-append-le}
use Rattle.std.proofs.lemmas.Bool.{false_from_ne_true}
use Rattle.std.proofs.Math.Seq.{take-add}
use Rattle.em_log.specs.declared.declarations.Declarations.{Declarations}
use Rattle.em_log.specs.declared.entry.Entry.{Entry}
use Rattle.em_log.specs.declared.entry.What.{What}
use Rattle.em_log.specs.declared.ids.Stamp.{Stamp}
use Rattle.em_log.specs.declared.ids.Limits.{Limits}
use Rattle.em_log.specs.History.{Past, entry_by}
use Rattle.em_log.specs.Declarations.{kind_of, is_served}
use Rattle.em_log.specs.Contexts.{take_queue, receives_from}
use Rattle.em_log.specs.Handles.{Minting, minting, spending}
use Rattle.em_log.specs.Order.{Sent}
use Rattle.em_log.specs.Arrivals.{Item, item_of, item, is_for, entering, with_items, arrivals}
use Rattle.em_log.specs.Places.{gone, gone_after, waiting, taken, has_item}
use Rattle.em_log.specs.Lawful.{Allowed, AllAllowed}
use Rattle.em_log.specs.Laws.{handles_of}
use Rattle.em_moments.proofs.Choices.{IsReady}
use Rattle.em_moments.proofs.Moments.{Moment, allowed-moment}
use Rattle.em_laws.proofs.Cores.{Compared, Same, Other, compared, if-own, some-inj}
use Rattle.em_laws.proofs.Served.{cons-some}
use Rattle.em_laws.proofs.Lists.{grows-by, for-queue, waiting-for}
use Rattle.em_laws.proofs.Counts.{occ, times, occ-append, times-append, entered}
use Rattle.em_laws.proofs.Entering.{times_allowed-le, entered-allowed}
use Rattle.em_laws.proofs.Started.{Holds, Tracked, Idle, Busy, tracked, take-served, receives-queue, nobody-holds, unscheduled-not_served}
use Rattle.em_arrivals.proofs.Lists.{came, with-came, giving-back}
use Rattle.em_arrivals.proofs.Gone.{gone-within, gone-fits}

-- once

one_if_same : ℕ → ℕ → ℕ
one_if_same a h = if a == h then 1 else 0

handles-append : (h : ℕ) (xs ys : List Item) → occ h (handles_of (xs ++ ys)) ≡ occ h (handles_of xs) + occ h (handles_of ys)
handles-append h xs ys = ap (occ h) (map-append (λ (x : Item). x.handle) xs ys) ∙ occ-append h (handles_of xs) (handles_of ys)

item-once : (h f : ℕ) (st : Option Stamp) (o : Option Minting) → occ h (handles_of (item_of f st o)) ≤ one_if_same f h
unfolding one_if_same
item-once h f st None = omega arith
item-once h f st (Some m) = by_test (f == h)
  where
    by_test : (b : Bool) → (if b then suc 0 else 0) ≤ (if b then 1 else 0)
    by_test true = omega arith
    by_test false = omega arith

times-first : (h : ℕ) (s : Sent) (ss : List Sent) → times h (s ∷ ss) ≡ one_if_same s.handle h + times h ss
unfolding one_if_same
times-first h s ss = by_test (s.handle == h)
  where
    by_test : (b : Bool) → (if b then suc (times h ss) else times h ss) ≡ (if b then 1 else 0) + times h ss
    by_test true = omega arith
    by_test false = omega arith

grown : (k : Declarations) (past : Past) (h q c : ℕ) (xs : List Item) (s : Sent) (b : Bool)
    → occ h (handles_of (if b then xs ++ item past s else xs)) ≤ occ h (handles_of xs) + one_if_same s.handle h
grown k past h q c xs s true =
    let whole = handles-append h xs (item past s) in
    let one = item-once h s.handle s.stamp (minting past s.handle) in omega (arith, whole, one)
grown k past h q c xs s false = omega arith

with-once : (k : Declarations) (past : Past) (h q c : ℕ) (xs : List Item) (ss : List Sent)
    → occ h (handles_of (with_items k past q c xs ss)) ≤ occ h (handles_of xs) + times h ss
with-once k past h q c xs [] = omega arith
with-once k past h q c xs (s ∷ ss) =
    let later = with-once k past h q c (if is_for k q c s.queue s.core then xs ++ item past s else xs) ss in
    let here = grown k past h q c xs s (is_for k q c s.queue s.core) in
    let first = times-first h s ss in omega (arith, later, here, first)

pub arrivals-once : (k : Declarations) (past : Past) (h q c : ℕ) → occ h (handles_of (arrivals k past q c)) ≤ times h (entered k past)
arrivals-once k [] h q c = omega arith
arrivals-once k (e ∷ past) h q c =
    let older = arrivals-once k past h q c in
    let here = with-once k past h q c (arrivals k past q c) (entering k past e) in
    let sum = times-append h (entered k past) (entering k past e) in omega (arith, older, here, sum)

-- nothing goes to both of these lists
abbrev pub Apart : Declarations → ℕ → ℕ → ℕ → ℕ → Type 0
Apart k q c r b = (s d : ℕ) → is_for k q c s d ≡ true → is_for k r b s d ≡ true → ⊥

with-apart : (k : Declarations) (past : Past) (h q c r b : ℕ) (xs ys : List Item) (ss : List Sent) → Apart k q c r b
    → occ h (handles_of (with_items k past q c xs ss)) + occ h (handles_of (with_items k past r b ys ss)) ≤ occ h (handles_of xs) + occ h (handles_of ys) + times h ss
with-apart k past h q c r b xs ys [] apart = omega arith
with-apart k past h q c r b xs ys (s ∷ ss) apart =
    let later = with-apart k past h q c r b (if is_for k q c s.queue s.core then xs ++ item past s else xs) (if is_for k r b s.queue s.core then ys ++ item past s else ys) ss apart in
    let here = by_test (is_for k q c s.queue s.core) refl (is_for k r b s.queue s.core) refl in
    let first = times-first h s ss in omega (arith, later, here, first)
  where
    by_test : (u : Bool) → is_for k q c s.queue s.core ≡ u → (v : Bool) → is_for k r b s.queue s.core ≡ v
        → occ h (handles_of (if u then xs ++ item past s else xs)) + occ h (handles_of (if v then ys ++ item past s else ys))
        ≤ occ h (handles_of xs) + occ h (handles_of ys) + one_if_same s.handle h
    by_test true a true e = absurd (apart s.queue s.core a e)
    by_test true a false e = let g = grown k past h q c xs s true in omega (arith, g)
    by_test false a true e = let g = grown k past h r b ys s true in omega (arith, g)
    by_test false a false e = omega arith

arrivals-apart : (k : Declarations) (past : Past) (h q c r b : ℕ) → Apart k q c r b
    → occ h (handles_of (arrivals k past q c)) + occ h (handles_of (arrivals k past r b)) ≤ times h (entered k past)
arrivals-apart k [] h q c r b apart = omega arith
arrivals-apart k (e ∷ past) h q c r b apart =
    let older = arrivals-apart k past h q c r b apart in
    let here = with-apart k past h q c r b (arrivals k past q c) (arrivals k past r b) (entering k past e) apart in
    let sum = times-append h (entered k past) (entering k past e) in omega (arith, older, here, sum)

entered-one : (k : Declarations) (l : Limits) (past : Past) → AllAllowed k l past → (h : ℕ) → times h (entered k past) ≤ 1
entered-one k l past all h = let a = entered-allowed k l past all h in let b = times_allowed-le past (spending past h) in omega (arith, a, b)

pub items-occ : (h : ℕ) (xs : List Item) → has_item xs h ≡ true → 1 ≤ occ h (handles_of xs)
items-occ h [] is = absurd cc
items-occ h (x ∷ xs) is = by_test (x.handle == h) is (items-occ h xs)
  where
    by_test : (b : Bool) → (b || has_item xs h) ≡ true → (has_item xs h ≡ true → 1 ≤ occ h (handles_of xs)) → 1 ≤ (if b then suc (occ h (handles_of xs)) else occ h (handles_of xs))
    by_test true is later = omega arith
    by_test false is later = later is

split-occ : (h n : ℕ) (xs : List Item) → occ h (handles_of xs) ≡ occ h (handles_of (take n xs)) + occ h (handles_of (drop n xs))
split-occ h n xs = ap (λ ys. occ h (handles_of ys)) (sym (take-append-drop n xs)) ∙ handles-append h (take n xs) (drop n xs)

pub waiting-once : (k : Declarations) (l : Limits) (past : Past) → AllAllowed k l past → (h q c : ℕ) → occ h (handles_of (waiting k past q c)) ≤ 1
waiting-once k l past all h q c =
    let a = arrivals-once k past h q c in
    let b = entered-one k l past all h in
    let s = split-occ h (gone k past q c) (arrivals k past q c) in omega (arith, a, b, s)

pub waiting-apart : (k : Declarations) (l : Limits) (past : Past) → AllAllowed k l past → (h q c r b : ℕ) → Apart k q c r b
    → has_item (waiting k past q c) h ≡ true → has_item (waiting k past r b) h ≡ true → ⊥
waiting-apart k l past all h q c r b apart here there =
    let a = arrivals-apart k past h q c r b apart in
    let e = entered-one k l past all h in
    let s = split-occ h (gone k past q c) (arrivals k past q c) in
    let t = split-occ h (gone k past r b) (arrivals k past r b) in
    let u = items-occ h (waiting k past q c) here in
    let v = items-occ h (waiting k past r b) there in omega (arith, a, e, s, t, u, v)

-- an item is not both in the front and after it
pub front-apart : (h n : ℕ) (xs : List Item) → occ h (handles_of xs) ≤ 1 → has_item (take n xs) h ≡ true → has_item (drop n xs) h ≡ true → ⊥
front-apart h n xs one here there =
    let s = split-occ h n xs in
    let u = items-occ h (take n xs) here in
    let v = items-occ h (drop n xs) there in omega (arith, one, s, u, v)

-- what is taken of a list

pub record Front (k : Declarations) (past : Past) (q c d : ℕ) : Type 0 where
  pub front : List Item
  pub is : front ++ taken k past d ≡ take (gone k past q c) (arrivals k past q c)

take-grown : (k : Declarations) (past : Past) (e : Entry) (q c n : ℕ) → n ≤ length (arrivals k past q c) → take n (arrivals k (e ∷ past) q c) ≡ take n (arrivals k past q c)
take-grown k past e q c n le =
    let g = grows-by k past q c (arrivals k past q c) (entering k past e) in
    ap (take n) g.1 ∙ take-append-le n (arrivals k past q c) g.0 le

-- another core's entry leaves what has gone of a list that a core has something of
gone-other : (k : Declarations) (l : Limits) (past : Past) (b : ℕ) (w : What) (q c d : ℕ) → is_served (kind_of k q) ≡ true → AllAllowed k l past → Allowed k l past (entry_by b w)
    → Moment k l past b w → b ≢ d → Holds k past q c d → gone_after k past q c b w (gone k past q c) ≡ gone k past q c
gone-other k l past b (What.Take r n t) q c d served all allowed m ne h = by_test (is_for k q c r.0 b) refl
  where
    by_test : (v : Bool) → is_for k q c r.0 b ≡ v → (if v then gone k past q c + n else gone k past q c) ≡ gone k past q c
    by_test false own = refl
    by_test true own =
        absurd (nobody-holds k l past b r n t q d all allowed (subst (λ (i : ℕ). IsReady k past b i) (for-queue k q c r.0 b own) m.ready) h.0)
gone-other k l past b (What.Untake r n) q c d served all allowed m ne h = by_test (is_for k q c r.0 b) refl
  where
    by_test : (v : Bool) → is_for k q c r.0 b ≡ v → (if v then gone k past q c - n else gone k past q c) ≡ gone k past q c
    by_test false own = refl
    by_test true own =
        let same : r.0 ≡ q = for-queue k q c r.0 b own in
        let mine : is_for k q c q b ≡ true = subst (λ (i : ℕ). is_for k q c i b ≡ true) same own in
        absurd (alone (tracked k l past q c served all) ((cons-some m.item _ m.rest m.taken, m.queue ∙ ap (λ (i : ℕ). Some i) same), mine))
      where
        alone : Tracked k past q c → Holds k past q c b → ⊥
        alone (Idle none track bound) mine = none b mine
        alone (Busy x holding only track bound) mine = ne (only b mine ∙ sym (only d h))
gone-other k l past b (What.EndAtomic rest cells) q c d served all allowed m ne h = by_queue (receives_from past b) refl
  where
    alone : Tracked k past q c → Holds k past q c b → ⊥
    alone (Idle none track bound) mine = none b mine
    alone (Busy x holding only track bound) mine = ne (only b mine ∙ sym (only d h))

    by_taken : (r : ℕ) → receives_from past b ≡ Some r → is_for k q c r b ≡ true → (xs : List Item) → taken k past b ≡ xs → gone k past q c - rest ≡ gone k past q c
    by_taken r from own [] none = let nothing : rest ≡ 0 = m.counted ∙ ap length none in omega (arith, nothing)
    by_taken r from own (x ∷ xs) some =
        let same : r ≡ q = for-queue k q c r b own in
        let mine : is_for k q c q b ≡ true = subst (λ (i : ℕ). is_for k q c i b ≡ true) same own in
        absurd (alone (tracked k l past q c served all) ((cons-some x _ xs some, receives-queue k l past all b r from ∙ ap (λ (i : ℕ). Some i) same), mine))

    by_test : (r : ℕ) → receives_from past b ≡ Some r → (v : Bool) → is_for k q c r b ≡ v → (if v then gone k past q c - rest else gone k past q c) ≡ gone k past q c
    by_test r from false own = refl
    by_test r from true own = by_taken r from own (taken k past b) refl

    by_queue : (o : Option ℕ) → receives_from past b ≡ o → (if option_map_or (λ r. is_for k q c r b) (receives_from past b) false then gone k past q c - rest else gone k past q c) ≡ gone k past q c
    by_queue None from = rw from refl
    by_queue (Some r) from = rw from (by_test r from (is_for k q c r b) refl)
gone-other k l past b (What.Dequeue r (Some e)) q c d served all allowed m ne h =
    let other : is_for k q c r.0 b ≡ false = false_from_ne_true _ (λ own.
    unscheduled-not_served (kind_of k r.0) m.unscheduled (ap (λ (i : ℕ). is_served (kind_of k i)) (for-queue k q c r.0 b own) ∙ served)) in
    rw other refl
gone-other k l past b (What.Dequeue r None) q c d served all allowed m ne h = refl
gone-other k l past b w q c d served all allowed m ne h = refl

front-same : (k : Declarations) (l : Limits) (past : Past) (e : Entry) (q c d : ℕ) → AllAllowed k l past → taken k (e ∷ past) d ≡ taken k past d
    → gone k (e ∷ past) q c ≡ gone k past q c → Front k past q c d → Front k (e ∷ past) q c d
front-same k l past e q c d all same_taken same_gone f = record {
  front = f.front;
  is = ap (λ xs. f.front ++ xs) same_taken ∙ (f.is ∙ (sym (take-grown k past e q c (gone k past q c) (gone-within k l past all q c)) ∙ ap (λ n. take n (arrivals k (e ∷ past) q c)) (sym same_gone)));
}

-- an entry of the core itself
front-own : (k : Declarations) (l : Limits) (past : Past) (d : ℕ) (w : What) (q c : ℕ) → is_served (kind_of k q) ≡ true → AllAllowed k l past
    → Moment k l past d w → (Holds k past q c d → Front k past q c d) → Holds k (entry_by d w ∷ past) q c d → Front k (entry_by d w ∷ past) q c d
front-own k l past d (What.Take r n t) q c served all m older h =
    let same : r.0 ≡ q = some-inj _ _ (sym (if-own d (Some r.0) (take_queue past d)) ∙ h.0.1) in
    let own : is_for k q c r.0 d ≡ true = subst (λ (i : ℕ). is_for k q c i d ≡ true) (sym same) h.1 in
    let waits : waiting k past r.0 d ≡ drop (gone k past q c) (arrivals k past q c) = ap (λ (i : ℕ). waiting k past i d) same ∙ waiting-for k past q c d h.1 in
    let now : Past = entry_by d (What.Take r n t) ∷ past in
    let gone_now : gone k now q c ≡ gone k past q c + n = rw own refl in
    let fits : gone k past q c + n ≤ length (arrivals k past q c) =
    subst (λ (i : ℕ). i ≤ length (arrivals k past q c)) gone_now (gone-fits k l past d (What.Take r n t) q c m (gone-within k l past all q c)) in
    record {
      front = take (gone k past q c) (arrivals k past q c);
      is = ap (λ xs. take (gone k past q c) (arrivals k past q c) ++ xs) (if-own d _ _ ∙ ap (take n) waits)
          ∙ (sym (take-add (gone k past q c) n (arrivals k past q c))
          ∙ (sym (take-grown k past (entry_by d (What.Take r n t)) q c (gone k past q c + n) fits) ∙ ap (λ i. take i (arrivals k now q c)) (sym gone_now)));
    }
front-own k l past d (What.Start r ev s) q c served all m older h =
    let holding : Holds k past q c d = ((cons-some m.item _ m.rest m.taken, sym (if-own d (take_queue past d) (take_queue past d)) ∙ h.0.1), h.1) in
    let f = older holding in
    let now : Past = entry_by d (What.Start r ev s) ∷ past in
    let taken_now : taken k now d ≡ m.rest = if-own d _ _ ∙ ap (λ xs. drop 1 xs) m.taken in
    record {
      front = f.front ++ m.item ∷ [];
      is = ap (λ xs. (f.front ++ m.item ∷ []) ++ xs) taken_now ∙ (append_assoc f.front (m.item ∷ []) m.rest
          ∙ (ap (λ xs. f.front ++ xs) (sym m.taken) ∙ (f.is ∙ sym (take-grown k past (entry_by d (What.Start r ev s)) q c (gone k past q c) (gone-within k l past all q c)))));
    }
front-own k l past d (What.Untake r n) q c served all m older h = absurd (h.0.0 (if-own d _ _))
front-own k l past d (What.EndAtomic rest cells) q c served all m older h = absurd (h.0.0 (if-own d _ _))
front-own k l past d (What.Dequeue r (Some e)) q c served all m older h =
    let other : is_for k q c r.0 d ≡ false = false_from_ne_true _ (λ own.
    unscheduled-not_served (kind_of k r.0) m.unscheduled (ap (λ (i : ℕ). is_served (kind_of k i)) (for-queue k q c r.0 d own) ∙ served)) in
    let same : taken k (entry_by d (What.Dequeue r (Some e)) ∷ past) d ≡ taken k past d = if-own d _ _ in
    front-same k l past _ q c d all same (rw other refl) (older ((λ is. h.0.0 (same ∙ is), sym (if-own d _ _) ∙ h.0.1), h.1))
front-own k l past d (What.Dequeue r None) q c served all m older h =
    let same : taken k (entry_by d (What.Dequeue r None) ∷ past) d ≡ taken k past d = if-own d _ _ in
    front-same k l past _ q c d all same refl (older ((λ is. h.0.0 (same ∙ is), sym (if-own d _ _) ∙ h.0.1), h.1))
front-own k l past d w q c served all m older h =
    let same : taken k (entry_by d w ∷ past) d ≡ taken k past d = if-own d _ _ in
    front-same k l past (entry_by d w) q c d all same refl (older ((λ is. h.0.0 (same ∙ is), sym (if-own d _ _) ∙ h.0.1), h.1))

next-front : (k : Declarations) (l : Limits) (past : Past) (b : ℕ) (w : What) (q c d : ℕ) → is_served (kind_of k q) ≡ true → AllAllowed k l past → Allowed k l past (entry_by b w)
    → Moment k l past b w → (Holds k past q c d → Front k past q c d) → Holds k (entry_by b w ∷ past) q c d → Front k (entry_by b w ∷ past) q c d
next-front k l past b w q c d served all allowed m older h = by_test (compared b d)
  where
    by_test : Compared b d → Front k (entry_by b w ∷ past) q c d
    by_test (Same t e) =
        subst (λ (i : ℕ). Front k (entry_by i w ∷ past) q c d) (sym e)
        (front-own k l past d w q c served all (subst (λ n. Moment k l past n w) e m) older (subst (λ (i : ℕ). Holds k (entry_by i w ∷ past) q c d) e h))
    by_test (Other f ne) =
        let same : taken k (entry_by b w ∷ past) d ≡ taken k past d = rw f refl in
        let holding : Holds k past q c d = ((rw f at h.0.0, rw f at h.0.1), h.1) in
        front-same k l past (entry_by b w) q c d all same (gone-other k l past b w q c d served all allowed m ne holding) (older holding)

pub fronts : (k : Declarations) (l : Limits) (past : Past) → AllAllowed k l past → (q c d : ℕ) → is_served (kind_of k q) ≡ true → Holds k past q c d → Front k past q c d
fronts k l [] all q c d served h = absurd (h.0.0 refl)
fronts k l (e ∷ past) all q c d served h =
    next-front k l past e.core.0 e.what q c d served all.1 all.0 (allowed-moment k l past e all.1 all.0) (fronts k l past all.1 q c d served) h

-- no handle is taken twice
pub taken-once : (k : Declarations) (l : Limits) (past : Past) → AllAllowed k l past → (h q d : ℕ) → take_queue past d ≡ Some q → taken k past d ≢ []
    → is_for k q d q d ≡ true → occ h (handles_of (taken k past d)) ≤ 1
taken-once k l past all h q d queue some own =
    let f = fronts k l past all q d d (take-served k l past all d q queue) ((some, queue), own) in
    let a = arrivals-once k past h q d in
    let b = entered-one k l past all h in
    let s = split-occ h (gone k past q d) (arrivals k past q d) in
    let t : occ h (handles_of (take (gone k past q d) (arrivals k past q d))) ≡ occ h (handles_of f.front) + occ h (handles_of (taken k past d)) =
    ap (λ ys. occ h (handles_of ys)) (sym f.is) ∙ handles-append h f.front (taken k past d) in
    omega (arith, a, b, s, t)

-- what waits after an entry: what is left, and what comes now
pub waiting-now : (k : Declarations) (l : Limits) (past : Past) (d : ℕ) (w : What) (q c : ℕ) → AllAllowed k l past → Moment k l past d w
    → waiting k (entry_by d w ∷ past) q c ≡ drop (gone_after k past q c d w (gone k past q c)) (arrivals k past q c) ++ came k past q c (entering k past (entry_by d w))
waiting-now k l past d w q c all m =
    let fits = gone-fits k l past d w q c m (gone-within k l past all q c) in
    ap (drop (gone_after k past q c d w (gone k past q c))) (with-came k past q c (arrivals k past q c) (entering k past (entry_by d w)))
    ∙ drop-append-le (gone_after k past q c d w (gone k past q c)) (arrivals k past q c) (came k past q c (entering k past (entry_by d w))) fits

-- what a core gives back to a list stands before what waits there
pub given-back : (k : Declarations) (l : Limits) (past : Past) → AllAllowed k l past → (q c d r : ℕ) (x : Item) (xs : List Item) → take_queue past d ≡ Some r → taken k past d ≡ x ∷ xs
    → is_for k q c r d ≡ true → drop (gone k past q c - length (taken k past d)) (arrivals k past q c) ≡ taken k past d ++ waiting k past q c
given-back k l past all q c d r x xs queue some own =
    let same : r ≡ q = for-queue k q c r d own in
    let mine : is_for k q c q d ≡ true = subst (λ (i : ℕ). is_for k q c i d ≡ true) same own in
    let served : is_served (kind_of k q) ≡ true = ap (λ (i : ℕ). is_served (kind_of k i)) (sym same) ∙ take-served k l past all d r queue in
    let f = fronts k l past all q c d served ((cons-some x _ xs some, queue ∙ ap (λ (i : ℕ). Some i) same), mine) in
    sym (giving-back f.front (taken k past d) (arrivals k past q c) (gone k past q c) f.is (gone-within k l past all q c))
