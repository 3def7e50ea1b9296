-- The lists of the queues by their steps are those of the history.
use Rattle.std.proofs.Common.{◌≡◌, ℕ, suc, ◌+◌, ◌-◌, ◌≤◌, ◌==◌, Bool, true, false, List, [], ◌∷◌, ◌++◌, length, map, take, drop, Option, Some, None, refl, sym, ◌∙◌, subst, ap, if◌then◌else◌, arith}
use Rattle.std.specs.Option.{option_and_then}
use Rattle.std.proofs.lemmas.List.{append-nil, append_assoc, map-append, length-map, take-map, drop-map, drop-append-le}
use Rattle.em_log.specs.declared.declarations.Declarations.{Declarations}
use Rattle.em_log.specs.declared.entry.Event.{Event}
use Rattle.em_log.specs.declared.entry.What.{What}
use Rattle.em_log.specs.declared.ids.Kind.{Kind}
use Rattle.em_log.specs.declared.ids.Limits.{Limits}
use Rattle.em_log.specs.declared.ids.Cells.{Cells}
use Rattle.em_log.specs.declared.ids.QueueId.{QueueId}
use Rattle.em_log.specs.History.{Past, entry_by}
use Rattle.em_log.specs.Declarations.{kind_of, is_output, is_served, atomic_of}
use Rattle.em_log.specs.Contexts.{take_queue, receives_from}
use Rattle.em_log.specs.Order.{Sent}
use Rattle.em_log.specs.Arrivals.{Item, item, is_for, entering, arrivals}
use Rattle.em_log.specs.Places.{gone, gone_after, waiting, taken}
use Rattle.em_log.specs.Atomic.{if_holder, received_atomic, holds}
use Rattle.em_log.specs.Lawful.{AllAllowed}
use Rattle.em_log.specs.Laws.{Shown, shown_item, starts}
use Rattle.em_moments.proofs.Moments.{Moment, UntakeMoment, EndAtomicMoment, allowed-moment}
use Rattle.em_laws.proofs.Cores.{if-same, Compared, Same, Other, compared}
use Rattle.em_laws.proofs.Served.{cons-some}
use Rattle.em_laws.proofs.Lists.{for-queue}
use Rattle.em_laws.proofs.Started.{Holds, tracked-of, tracked, take-served, receives-queue}
use Rattle.em_queues.specs.Steps.{QueueStep, Took, Untook, Dequeued, lists}
use Rattle.em_parts.specs.QueueSteps.{item_steps, arrived_steps, served_steps, queue_steps}
use Rattle.em_parts.specs.QueueAlike.{index_in, QueuesAlike}
use Rattle.em_arrivals.proofs.Lists.{drop-more, giving-back, came, with-came}
use Rattle.em_arrivals.proofs.Gone.{gone-fits, gone-within}

item-waits : (k : Declarations) (r d q c : ℕ) (xs : List Item) (steps : List QueueStep)
    → (lists k (item_steps r d xs steps)).waiting q c ≡ (lists k steps).waiting q c ++ (if is_for k q c r d then map index_in xs else [])
item-waits k r d q c [] steps = by_test (is_for k q c r d)
  where
    by_test : (b : Bool) → (lists k steps).waiting q c ≡ (lists k steps).waiting q c ++ (if b then [] else [])
    by_test true = sym (append-nil _)
    by_test false = sym (append-nil _)
item-waits k r d q c (x ∷ xs) steps = item-waits k r d q c xs _ ∙ by_test (is_for k q c r d)
  where
    by_test : (b : Bool) → (if b then (lists k steps).waiting q c ++ index_in x ∷ [] else (lists k steps).waiting q c) ++ (if b then map index_in xs else [])
        ≡ (lists k steps).waiting q c ++ (if b then map index_in (x ∷ xs) else [])
    by_test true = append_assoc ((lists k steps).waiting q c) (index_in x ∷ []) (map index_in xs)
    by_test false = refl

item-taken : (k : Declarations) (r d c : ℕ) (xs : List Item) (steps : List QueueStep) → (lists k (item_steps r d xs steps)).taken c ≡ (lists k steps).taken c
item-taken k r d c [] steps = refl
item-taken k r d c (x ∷ xs) steps = item-taken k r d c xs _

item-source : (k : Declarations) (r d c : ℕ) (xs : List Item) (steps : List QueueStep) → (lists k (item_steps r d xs steps)).source c ≡ (lists k steps).source c
item-source k r d c [] steps = refl
item-source k r d c (x ∷ xs) steps = item-source k r d c xs _

arrived-taken : (k : Declarations) (past : Past) (c : ℕ) (ss : List Sent) (steps : List QueueStep) → (lists k (arrived_steps k past ss steps)).taken c ≡ (lists k steps).taken c
arrived-taken k past c [] steps = refl
arrived-taken k past c (s ∷ ss) steps = arrived-taken k past c ss _ ∙ by_test (is_output (kind_of k s.queue))
  where
    by_test : (b : Bool) → (lists k (if b then steps else item_steps s.queue s.core (item past s) steps)).taken c ≡ (lists k steps).taken c
    by_test true = refl
    by_test false = item-taken k s.queue s.core c (item past s) steps

arrived-source : (k : Declarations) (past : Past) (c : ℕ) (ss : List Sent) (steps : List QueueStep) → (lists k (arrived_steps k past ss steps)).source c ≡ (lists k steps).source c
arrived-source k past c [] steps = refl
arrived-source k past c (s ∷ ss) steps = arrived-source k past c ss _ ∙ by_test (is_output (kind_of k s.queue))
  where
    by_test : (b : Bool) → (lists k (if b then steps else item_steps s.queue s.core (item past s) steps)).source c ≡ (lists k steps).source c
    by_test true = refl
    by_test false = item-source k s.queue s.core c (item past s) steps

arrived-waits : (k : Declarations) (past : Past) (q c : ℕ) (ss : List Sent) (steps : List QueueStep) → is_output (kind_of k q) ≡ false
    → (lists k (arrived_steps k past ss steps)).waiting q c ≡ (lists k steps).waiting q c ++ map index_in (came k past q c ss)
arrived-waits k past q c [] steps plain = sym (append-nil _)
arrived-waits k past q c (s ∷ ss) steps plain = arrived-waits k past q c ss _ plain ∙ by_kind (is_output (kind_of k s.queue)) refl
  where
    old : List ℕ
    old = (lists k steps).waiting q c

    rest : List ℕ
    rest = map index_in (came k past q c ss)

    joined : (b : Bool) → (old ++ (if b then map index_in (item past s) else [])) ++ rest ≡ old ++ map index_in ((if b then item past s else []) ++ came k past q c ss)
    joined true = append_assoc old (map index_in (item past s)) rest ∙ ap (λ xs. old ++ xs) (sym (map-append index_in (item past s) (came k past q c ss)))
    joined false = ap (λ xs. xs ++ rest) (append-nil old)

    by_kind : (b : Bool) → is_output (kind_of k s.queue) ≡ b
        → (lists k (if b then steps else item_steps s.queue s.core (item past s) steps)).waiting q c ++ rest
        ≡ old ++ map index_in ((if is_for k q c s.queue s.core then item past s else []) ++ came k past q c ss)
    by_kind true is = by_for (is_for k q c s.queue s.core) refl
      where
        by_for : (b : Bool) → is_for k q c s.queue s.core ≡ b → old ++ rest ≡ old ++ map index_in ((if b then item past s else []) ++ came k past q c ss)
        by_for true own = absurd (cc (is, plain, ap (λ (i : ℕ). is_output (kind_of k i)) (for-queue k q c s.queue s.core own)))
        by_for false own = refl
    by_kind false is =
        ap (λ xs. xs ++ rest) (item-waits k s.queue s.core q c (item past s) steps) ∙ joined (is_for k q c s.queue s.core)

-- every entry

-- what the entry leaves of a list, but for what comes now
abbrev Left : Declarations → Past → ℕ → ℕ → ℕ → What → Type 0
Left k past q c d w =
    (lists k (served_steps d w (queue_steps k past))).waiting q c ≡ map index_in (drop (gone_after k past q c d w (gone k past q c)) (arrivals k past q c))

map-drop : (n : ℕ) (xs : List Item) → drop n (map index_in xs) ≡ map index_in (drop n xs)
map-drop n xs = drop-map index_in n xs

taken-more : (k : Declarations) (past : Past) (q c n : ℕ) (ws : List ℕ) → ws ≡ map index_in (waiting k past q c)
    → drop n ws ≡ map index_in (drop (gone k past q c + n) (arrivals k past q c))
taken-more k past q c n ws is =
    ap (drop n) is ∙ (map-drop n (waiting k past q c) ∙ ap (map index_in) (drop-more (gone k past q c) n (arrivals k past q c)))

shown-indices : (xs : List Item) → map (λ (s : Shown). s.index) (map shown_item xs) ≡ map index_in xs
shown-indices [] = refl
shown-indices (x ∷ xs) = ap (λ ys. index_in x ∷ ys) (shown-indices xs)

-- what a core has taken of a list goes back to its front
gives-back : (k : Declarations) (l : Limits) (past : Past) (q c d r : ℕ) (x : Item) (xs : List Item) → AllAllowed k l past → take_queue past d ≡ Some r
    → taken k past d ≡ x ∷ xs → is_for k q c r d ≡ true
    → map index_in (taken k past d) ++ map index_in (waiting k past q c) ≡ map index_in (drop (gone k past q c - length (taken k past d)) (arrivals k past q c))
gives-back k l past q c d r x xs all queue some own =
    let same : r ≡ q = for-queue k q c r d own in
    let mine : is_for k q c q d ≡ true = subst (λ (i : ℕ). is_for k q c i d ≡ true) same own in
    let holding : Holds k past q c d = ((cons-some x _ xs some, queue ∙ ap (λ (i : ℕ). Some i) same), mine) in
    let served : is_served (kind_of k q) ≡ true = ap (λ (i : ℕ). is_served (kind_of k i)) (sym same) ∙ take-served k l past all d r queue in
    let h = tracked-of k past q c d holding (tracked k l past q c served all) in
    let fits : gone k past q c ≤ length (map shown_item (arrivals k past q c)) = rw length-map h.bound in
    let back = giving-back (starts k past q c) (map shown_item (taken k past d)) (map shown_item (arrivals k past q c)) (gone k past q c) h.track fits in
    let n : ℕ = length (map shown_item (taken k past d)) in
    let size : n ≡ length (taken k past d) = length-map (taken k past d) shown_item in
    let indices : List Shown → List ℕ = map (λ (s : Shown). s.index) in
    let left : indices (map shown_item (taken k past d) ++ drop (gone k past q c) (map shown_item (arrivals k past q c)))
    ≡ map index_in (taken k past d) ++ map index_in (waiting k past q c) =
    map-append (λ (s : Shown). s.index) (map shown_item (taken k past d)) _
    ∙ (ap (λ ys. ys ++ indices (drop (gone k past q c) (map shown_item (arrivals k past q c)))) (shown-indices (taken k past d))
    ∙ ap (λ ys. map index_in (taken k past d) ++ ys) (ap indices (drop-map shown_item (gone k past q c) (arrivals k past q c)) ∙ shown-indices (waiting k past q c))) in
    let right : indices (drop (gone k past q c - n) (map shown_item (arrivals k past q c))) ≡ map index_in (drop (gone k past q c - n) (arrivals k past q c)) =
    ap indices (drop-map shown_item (gone k past q c - n) (arrivals k past q c)) ∙ shown-indices (drop (gone k past q c - n) (arrivals k past q c)) in
    sym left ∙ (ap indices back ∙ (right ∙ ap (λ (i : ℕ). map index_in (drop (gone k past q c - i) (arrivals k past q c))) size))

left-take : (k : Declarations) (past : Past) (q c d : ℕ) (r : QueueId) (n : ℕ) (t : Option ℕ) (steps : List QueueStep)
    → (lists k steps).waiting q c ≡ map index_in (waiting k past q c)
    → (lists k (Took d r.0 n ∷ steps)).waiting q c ≡ map index_in (drop (gone_after k past q c d (What.Take r n t) (gone k past q c)) (arrivals k past q c))
left-take k past q c d r n t steps was = by_test (is_for k q c r.0 d)
  where
    by_test : (b : Bool) → (if b then drop n ((lists k steps).waiting q c) else (lists k steps).waiting q c)
        ≡ map index_in (drop (if b then gone k past q c + n else gone k past q c) (arrivals k past q c))
    by_test true = taken-more k past q c n ((lists k steps).waiting q c) was
    by_test false = was

left-untake : (k : Declarations) (l : Limits) (past : Past) (q c d : ℕ) (r : QueueId) (n : ℕ) (steps : List QueueStep) → AllAllowed k l past → UntakeMoment k past d r.0 n
    → (lists k steps).source d ≡ take_queue past d → (lists k steps).taken d ≡ map index_in (taken k past d)
    → (lists k steps).waiting q c ≡ map index_in (waiting k past q c)
    → (lists k (Untook d ∷ steps)).waiting q c ≡ map index_in (drop (gone_after k past q c d (What.Untake r n) (gone k past q c)) (arrivals k past q c))
left-untake k l past q c d r n steps all m source held was = rw (source ∙ m.queue) (by_test (is_for k q c r.0 d) refl)
  where
    by_test : (b : Bool) → is_for k q c r.0 d ≡ b → (if b then (lists k steps).taken d ++ (lists k steps).waiting q c else (lists k steps).waiting q c)
        ≡ map index_in (drop (if b then gone k past q c - n else gone k past q c) (arrivals k past q c))
    by_test false own = was
    by_test true own =
        let size : n ≡ length (taken k past d) = m.size ∙ sym (ap length m.taken) in
        ap (λ xs. xs ++ (lists k steps).waiting q c) held ∙ (ap (λ xs. map index_in (taken k past d) ++ xs) was
        ∙ (gives-back k l past q c d r.0 m.item m.rest all m.queue m.taken own ∙ ap (λ (i : ℕ). map index_in (drop (gone k past q c - i) (arrivals k past q c))) (sym size)))

left-end_atomic : (k : Declarations) (l : Limits) (past : Past) (q c d rest : ℕ) (cells : Cells) (steps : List QueueStep) → AllAllowed k l past → EndAtomicMoment k past d rest cells
    → (lists k steps).source d ≡ take_queue past d → (lists k steps).taken d ≡ map index_in (taken k past d)
    → (lists k steps).waiting q c ≡ map index_in (waiting k past q c)
    → (lists k (Untook d ∷ steps)).waiting q c ≡ map index_in (drop (gone_after k past q c d (What.EndAtomic rest cells) (gone k past q c)) (arrivals k past q c))
left-end_atomic k l past q c d rest cells steps all m source held was = by_queue (receives_from past d) refl
  where
    by_taken : (r : ℕ) → receives_from past d ≡ Some r → is_for k q c r d ≡ true → (xs : List Item) → taken k past d ≡ xs
        → (lists k steps).taken d ++ (lists k steps).waiting q c ≡ map index_in (drop (gone k past q c - rest) (arrivals k past q c))
    by_taken r from own [] none =
        let nothing : rest ≡ 0 = m.counted ∙ ap length none in
        ap (λ xs. xs ++ (lists k steps).waiting q c) (held ∙ ap (map index_in) none)
        ∙ (was ∙ ap (λ (i : ℕ). map index_in (drop i (arrivals k past q c))) (omega (arith, nothing)))
    by_taken r from own (x ∷ xs) some =
        ap (λ xs. xs ++ (lists k steps).waiting q c) held ∙ (ap (λ xs. map index_in (taken k past d) ++ xs) was
        ∙ (gives-back k l past q c d r x xs all (receives-queue k l past all d r from) some own
        ∙ ap (λ (i : ℕ). map index_in (drop (gone k past q c - i) (arrivals k past q c))) (sym m.counted)))

    by_test : (r : ℕ) → receives_from past d ≡ Some r → (b : Bool) → is_for k q c r d ≡ b → (if b then (lists k steps).taken d ++ (lists k steps).waiting q c else (lists k steps).waiting q c)
        ≡ map index_in (drop (if b then gone k past q c - rest else gone k past q c) (arrivals k past q c))
    by_test r from false own = was
    by_test r from true own = by_taken r from own (taken k past d) refl

    by_queue : (o : Option ℕ) → receives_from past d ≡ o
        → (lists k (Untook d ∷ steps)).waiting q c ≡ map index_in (drop (gone_after k past q c d (What.EndAtomic rest cells) (gone k past q c)) (arrivals k past q c))
    by_queue None from =
        let no_atomic : received_atomic k past d ≡ None = ap (option_and_then (atomic_of k)) from in
        let free : holds k past d ≡ None = ap (option_and_then (if_holder k past d)) no_atomic in
        absurd (cc (free, m.holds))
    by_queue (Some r) from = rw (source ∙ receives-queue k l past all d r from, from) (by_test r from (is_for k q c r d) refl)

left-dequeue : (k : Declarations) (past : Past) (q c d : ℕ) (r : QueueId) (e : Event) (steps : List QueueStep)
    → (lists k steps).waiting q c ≡ map index_in (waiting k past q c)
    → (lists k (Dequeued r.0 d ∷ steps)).waiting q c ≡ map index_in (drop (gone_after k past q c d (What.Dequeue r (Some e)) (gone k past q c)) (arrivals k past q c))
left-dequeue k past q c d r e steps was = by_test (is_for k q c r.0 d)
  where
    by_test : (b : Bool) → (if b then drop 1 ((lists k steps).waiting q c) else (lists k steps).waiting q c)
        ≡ map index_in (drop (if b then suc (gone k past q c) else gone k past q c) (arrivals k past q c))
    by_test true =
        let more : gone k past q c + 1 ≡ suc (gone k past q c) = omega arith in
        taken-more k past q c 1 ((lists k steps).waiting q c) was ∙ ap (λ (i : ℕ). map index_in (drop i (arrivals k past q c))) more
    by_test false = was

left-of : (k : Declarations) (l : Limits) (past : Past) (q c d : ℕ) (w : What) → AllAllowed k l past → Moment k l past d w → QueuesAlike k past → is_output (kind_of k q) ≡ false
    → Left k past q c d w
left-of k l past q c d (What.Take r n t) all m was plain = left-take k past q c d r n t (queue_steps k past) (was.waiting q c plain)
left-of k l past q c d (What.Untake r n) all m was plain =
    left-untake k l past q c d r n (queue_steps k past) all m (was.source d) (was.taken d) (was.waiting q c plain)
left-of k l past q c d (What.EndAtomic rest cells) all m was plain =
    left-end_atomic k l past q c d rest cells (queue_steps k past) all m (was.source d) (was.taken d) (was.waiting q c plain)
left-of k l past q c d (What.Dequeue r (Some e)) all m was plain = left-dequeue k past q c d r e (queue_steps k past) (was.waiting q c plain)
left-of k l past q c d (What.Dequeue r None) all m was plain = was.waiting q c plain
left-of k l past q c d (What.Start r e s) all m was plain = was.waiting q c plain
left-of k l past q c d w all m was plain = was.waiting q c plain

next-waiting : (k : Declarations) (l : Limits) (past : Past) (d : ℕ) (w : What) (q c : ℕ) → AllAllowed k l past → Moment k l past d w → QueuesAlike k past
    → is_output (kind_of k q) ≡ false
    → (lists k (queue_steps k (entry_by d w ∷ past))).waiting q c ≡ map index_in (waiting k (entry_by d w ∷ past) q c)
next-waiting k l past d w q c all m was plain =
    let ss : List Sent = entering k past (entry_by d w) in
    let gone_now : ℕ = gone_after k past q c d w (gone k past q c) in
    let left = left-of k l past q c d w all m was plain in
    let fits = gone-fits k l past d w q c m (gone-within k l past all q c) in
    arrived-waits k past q c ss (served_steps d w (queue_steps k past)) plain
    ∙ (ap (λ xs. xs ++ map index_in (came k past q c ss)) left
    ∙ (sym (map-append index_in (drop gone_now (arrivals k past q c)) (came k past q c ss))
    ∙ ap (map index_in) (sym (drop-append-le gone_now (arrivals k past q c) (came k past q c ss) fits)
    ∙ ap (drop gone_now) (sym (with-came k past q c (arrivals k past q c) ss)))))

pub served-output : (kind : Kind) → is_served kind ≡ true → is_output kind ≡ false
served-output Kind.Output h = absurd cc
served-output Kind.Unscheduled h = refl
served-output Kind.Atomic h = refl
served-output Kind.Parallel h = refl
served-output Kind.Ordered h = refl
served-output Kind.Local h = refl

taken-served : (k : Declarations) (l : Limits) (past : Past) (d : ℕ) (w : What) (c : ℕ) → Moment k l past d w → QueuesAlike k past
    → (lists k (served_steps d w (queue_steps k past))).taken c ≡ map index_in (taken k (entry_by d w ∷ past) c)
taken-served k l past d (What.Take r n t) c m was = by_core (compared d c)
  where
    by_core : Compared d c → (if d == c then take n ((lists k (queue_steps k past)).waiting r.0 d) else (lists k (queue_steps k past)).taken c)
        ≡ map index_in (if d == c then take n (waiting k past r.0 c) else taken k past c)
    by_core (Same t e) =
        let own : (lists k (queue_steps k past)).waiting r.0 d ≡ map index_in (waiting k past r.0 c) =
        was.waiting r.0 d (served-output (kind_of k r.0) m.ready.served) ∙ ap (λ (i : ℕ). map index_in (waiting k past r.0 i)) e in
        rw t (ap (take n) own ∙ take-map index_in n (waiting k past r.0 c))
    by_core (Other f e) = rw f (was.taken c)
taken-served k l past d (What.Start r ev s) c m was = by_core (d == c)
  where
    by_core : (b : Bool) → (if b then drop 1 ((lists k (queue_steps k past)).taken c) else (lists k (queue_steps k past)).taken c)
        ≡ map index_in (if b then drop 1 (taken k past c) else taken k past c)
    by_core true = ap (λ xs. drop 1 xs) (was.taken c) ∙ map-drop 1 (taken k past c)
    by_core false = was.taken c
taken-served k l past d (What.Untake r n) c m was = by_core (d == c)
  where
    by_core : (b : Bool) → (if b then [] else (lists k (queue_steps k past)).taken c) ≡ map index_in (if b then [] else taken k past c)
    by_core true = refl
    by_core false = was.taken c
taken-served k l past d (What.EndAtomic rest cells) c m was = by_core (d == c)
  where
    by_core : (b : Bool) → (if b then [] else (lists k (queue_steps k past)).taken c) ≡ map index_in (if b then [] else taken k past c)
    by_core true = refl
    by_core false = was.taken c
taken-served k l past d (What.Dequeue r (Some e)) c m was = was.taken c ∙ ap (map index_in) (sym (if-same (d == c) (taken k past c)))
taken-served k l past d (What.Dequeue r None) c m was = was.taken c ∙ ap (map index_in) (sym (if-same (d == c) (taken k past c)))
taken-served k l past d w c m was = was.taken c ∙ ap (map index_in) (sym (if-same (d == c) (taken k past c)))

source-served : (k : Declarations) (past : Past) (d : ℕ) (w : What) (c : ℕ) → QueuesAlike k past
    → (lists k (served_steps d w (queue_steps k past))).source c ≡ take_queue (entry_by d w ∷ past) c
source-served k past d (What.Take r n t) c was = ap (λ o. if d == c then Some r.0 else o) (was.source c)
source-served k past d (What.Dequeue r (Some e)) c was = was.source c ∙ sym (if-same (d == c) (take_queue past c))
source-served k past d (What.Dequeue r None) c was = was.source c ∙ sym (if-same (d == c) (take_queue past c))
source-served k past d w c was = was.source c ∙ sym (if-same (d == c) (take_queue past c))

next-alike : (k : Declarations) (l : Limits) (past : Past) (d : ℕ) (w : What) → AllAllowed k l past → Moment k l past d w → QueuesAlike k past
    → QueuesAlike k (entry_by d w ∷ past)
next-alike k l past d w all m was = record {
  waiting = λ q c plain. next-waiting k l past d w q c all m was plain;
  taken = λ c. arrived-taken k past c (entering k past (entry_by d w)) (served_steps d w (queue_steps k past)) ∙ taken-served k l past d w c m was;
  source = λ c. arrived-source k past c (entering k past (entry_by d w)) (served_steps d w (queue_steps k past)) ∙ source-served k past d w c was;
}

-- the lists by the steps are those of the history
pub queues-alike : (k : Declarations) (l : Limits) (past : Past) → AllAllowed k l past → QueuesAlike k past
queues-alike k l [] all = record { waiting = λ q c plain. refl; taken = λ c. refl; source = λ c. refl }
queues-alike k l (e ∷ past) all =
    next-alike k l past e.core.0 e.what all.1 (allowed-moment k l past e all.1 all.0) (queues-alike k l past all.1)
