-- What is listed waits in a queue, or is taken.
use Rattle.std.proofs.Common.{◌≡◌, ℕ, ◌==◌, Bool, true, false, not, ◌&&◌, ◌||◌, [], ◌∷◌, ◌++◌, List, map, take, drop, Option, Some, None, refl, ap, sym, ◌∙◌, subst, if◌then◌else◌}
use Rattle.std.proofs.lemmas.Bool.{eq-eqb}
use Rattle.std.proofs.lemmas.List.{take-append-drop}
use Rattle.em_log.specs.declared.declarations.Declarations.{Declarations}
use Rattle.em_log.specs.declared.entry.What.{What}
use Rattle.em_log.specs.declared.ids.Limits.{Limits}
use Rattle.em_log.specs.History.{Past, has, index_of}
use Rattle.em_log.specs.Declarations.{kind_of, is_output, is_local}
use Rattle.em_log.specs.Contexts.{take_queue}
use Rattle.em_log.specs.Order.{Sent}
use Rattle.em_log.specs.Arrivals.{Item, item, entering, is_for}
use Rattle.em_log.specs.Places.{waiting, taken}
use Rattle.em_log.specs.Lawful.{AllAllowed}
use Rattle.em_moments.proofs.Moments.{Moment, allowed-moment}
use Rattle.em_laws.proofs.Cores.{Compared, Same, Other, compared, eqb-eq}
use Rattle.em_laws.proofs.Started.{take-served}
use Rattle.std.proofs.lemmas.Bool.{or_right}
use Rattle.em_queues.specs.Steps.{QueueStep, Arrived, Took, NextTaken, Untook, Dequeued, lists, is_listed, begins_with}
use Rattle.em_parts.specs.QueueSteps.{queue_steps, served_steps, arrived_steps, item_steps}
use Rattle.em_parts.specs.QueueAlike.{index_in}
use Rattle.em_parts.proofs.QueueLists.{queues-alike, served-output}
use Rattle.em_desk.proofs.Beginnings.{taken-first}

pub data Located (k : Declarations) (past : Past) (i : ℕ) : Type 0 where
  InQueue : (q c : ℕ) → is_output (kind_of k q) ≡ false → has (map index_in (waiting k past q c)) i ≡ true → Located k past i
  IsTaken : (c : ℕ) → has (map index_in (taken k past c)) i ≡ true → Located k past i

-- the same over the lists of the steps
data At (k : Declarations) (t : List QueueStep) (i : ℕ) : Type 0 where
  Waits : (q c : ℕ) → is_output (kind_of k q) ≡ false → has ((lists k t).waiting q c) i ≡ true → At k t i
  Holds : (c : ℕ) → has ((lists k t).taken c) i ≡ true → At k t i

abbrev AllAt : Declarations → List QueueStep → Type 0
AllAt k t = (i : ℕ) → is_listed k t i ≡ true → At k t i

-- lists

has-left : (xs ys : List ℕ) (i : ℕ) → has xs i ≡ true → has (xs ++ ys) i ≡ true
has-left [] ys i h = absurd cc
has-left (x ∷ xs) ys i h = by_test (x == i) h (has-left xs ys i)
  where
    by_test : (b : Bool) → (b || has xs i) ≡ true → (has xs i ≡ true → has (xs ++ ys) i ≡ true) → (b || has (xs ++ ys) i) ≡ true
    by_test true h later = refl
    by_test false h later = later h

has-right : (xs ys : List ℕ) (i : ℕ) → has ys i ≡ true → has (xs ++ ys) i ≡ true
has-right [] ys i h = h
has-right (x ∷ xs) ys i h = or_right (x == i) (has (xs ++ ys) i) (has-right xs ys i h)

data Either (xs ys : List ℕ) (i : ℕ) : Type 0 where
  Left : has xs i ≡ true → Either xs ys i
  Right : has ys i ≡ true → Either xs ys i

either : (xs ys : List ℕ) (i : ℕ) → has (xs ++ ys) i ≡ true → Either xs ys i
either [] ys i h = Right h
either (x ∷ xs) ys i h = by_test (x == i) refl h (either xs ys i)
  where
    by_test : (b : Bool) → (x == i) ≡ b → (b || has (xs ++ ys) i) ≡ true → (has (xs ++ ys) i ≡ true → Either xs ys i) → Either (x ∷ xs) ys i
    by_test true t h later = Left (rw t refl)
    by_test false t h later = by_rest (later h)
      where
        by_rest : Either xs ys i → Either (x ∷ xs) ys i
        by_rest (Left l) = Left (or_right (x == i) (has xs i) l)
        by_rest (Right r) = Right r

taken-or-left : (n : ℕ) (xs : List ℕ) (i : ℕ) → has xs i ≡ true → Either (take n xs) (drop n xs) i
taken-or-left n xs i h = either (take n xs) (drop n xs) i (subst (λ ys. has ys i ≡ true) (sym (take-append-drop n xs)) h)

-- past the first, where that is another
has-after : (xs : List ℕ) (i : ℕ) → begins_with i xs ≡ false → has xs i ≡ true → has (drop 1 xs) i ≡ true
has-after [] i off h = absurd cc
has-after (x ∷ xs) i off h = rw off at h

unless : (b was : Bool) → (if b then false else was) ≡ true → (b ≡ false) × (was ≡ true)
unless true was h = absurd cc
unless false was h = (refl, h)

own-list : (k : Declarations) (q c : ℕ) → is_for k q c q c ≡ true
own-list k q c = by_kind (is_local (kind_of k q)) refl
  where
    a : (q == q) ≡ true
    a = eq-eqb q q refl

    b : (c == c) ≡ true
    b = eq-eqb c c refl

    by_kind : (l : Bool) → is_local (kind_of k q) ≡ l → is_for k q c q c ≡ true
    by_kind true t = rw (t, a, b) refl
    by_kind false t = rw (t, a) refl

-- a queue that is not local has one list
shared : (k : Declarations) (t : List QueueStep) (q c d : ℕ) → is_local (kind_of k q) ≡ false → (lists k t).waiting q c ≡ (lists k t).waiting q d
shared k [] q c d off = refl
shared k (Arrived r e i ∷ t) q c d off = let same = shared k t q c d off in rw (off, same) refl
shared k (Took e r n ∷ t) q c d off = let same = shared k t q c d off in rw (off, same) refl
shared k (NextTaken e ∷ t) q c d off = shared k t q c d off
shared k (Untook e ∷ t) q c d off = let same = shared k t q c d off in rw (off, same) refl
shared k (Dequeued r e ∷ t) q c d off = let same = shared k t q c d off in rw (off, same) refl

both-true : (a b : Bool) → (a && b) ≡ true → (a ≡ true) × (b ≡ true)
both-true true b h = (refl, h)
both-true false b h = absurd cc

-- what goes to the list of core c goes to the list that core d reads
same-list : (k : Declarations) (t : List QueueStep) (q c r d : ℕ) → is_for k q c r d ≡ true → (lists k t).waiting q c ≡ (lists k t).waiting r d
same-list k t q c r d own =
    let parts = both-true (r == q) (not (is_local (kind_of k q)) || (d == c)) own in
    let queue : r ≡ q = eqb-eq r q parts.0 in
    by_kind (is_local (kind_of k q)) refl parts.1 ∙ ap (λ (x : ℕ). (lists k t).waiting x d) (sym queue)
  where
    by_kind : (l : Bool) → is_local (kind_of k q) ≡ l → (not l || (d == c)) ≡ true → (lists k t).waiting q c ≡ (lists k t).waiting q d
    by_kind false off h = shared k t q c d off
    by_kind true on h = ap (λ (x : ℕ). (lists k t).waiting q x) (sym (eqb-eq d c h))

-- steps

arrives : (k : Declarations) (t : List QueueStep) (q d j : ℕ) → is_output (kind_of k q) ≡ false → AllAt k t → AllAt k (Arrived q d j ∷ t)
arrives k t q d j out older i h = by_test (j == i) refl h
  where
    more : (b : Bool) (xs : List ℕ) → has xs i ≡ true → has (if b then xs ++ j ∷ [] else xs) i ≡ true
    more true xs there = has-left xs (j ∷ []) i there
    more false xs there = there

    before : At k t i → At k (Arrived q d j ∷ t) i
    before (Waits r c inner there) = Waits r c inner (more (is_for k r c q d) ((lists k t).waiting r c) there)
    before (Holds c there) = Holds c there

    by_test : (b : Bool) → (j == i) ≡ b → (b || is_listed k t i) ≡ true → At k (Arrived q d j ∷ t) i
    by_test true same h =
        let own = own-list k q d in
        let last : has (j ∷ []) i ≡ true = rw same refl in
        Waits q d out (rw own (has-right ((lists k t).waiting q d) (j ∷ []) i last))
    by_test false same h = before (older i h)

items-arrive : (k : Declarations) (q d : ℕ) (xs : List Item) (t : List QueueStep) → is_output (kind_of k q) ≡ false → AllAt k t → AllAt k (item_steps q d xs t)
items-arrive k q d [] t out older = older
items-arrive k q d (x ∷ xs) t out older = items-arrive k q d xs (Arrived q d (index_of x.handle) ∷ t) out (arrives k t q d (index_of x.handle) out older)

all-arrive : (k : Declarations) (past : Past) (ss : List Sent) (t : List QueueStep) → AllAt k t → AllAt k (arrived_steps k past ss t)
all-arrive k past [] t older = older
all-arrive k past (s ∷ ss) t older = all-arrive k past ss _ (by_kind (is_output (kind_of k s.queue)) refl)
  where
    by_kind : (b : Bool) → is_output (kind_of k s.queue) ≡ b → AllAt k (if b then t else item_steps s.queue s.core (item past s) t)
    by_kind true is = older
    by_kind false is = items-arrive k s.queue s.core (item past s) t is older

takes : (k : Declarations) (t : List QueueStep) (d r n : ℕ) → (lists k t).taken d ≡ [] → AllAt k t → AllAt k (Took d r n ∷ t)
takes k t d r n none older i h = by_place (older i h)
  where
    by_place : At k t i → At k (Took d r n ∷ t) i
    by_place (Holds c there) = by_core (compared d c)
      where
        by_core : Compared d c → At k (Took d r n ∷ t) i
        by_core (Same same e) =
            let empty : (lists k t).taken c ≡ [] = subst (λ (x : ℕ). (lists k t).taken x ≡ []) e none in
            absurd (let no : has [] i ≡ true = rw empty at there in cc no)
        by_core (Other f e) = Holds c (rw f there)
    by_place (Waits q c inner there) = by_list (is_for k q c r d) refl
      where
        by_list : (b : Bool) → is_for k q c r d ≡ b → At k (Took d r n ∷ t) i
        by_list false off = Waits q c inner (rw off there)
        by_list true own = by_half (taken-or-left n ((lists k t).waiting q c) i there)
          where
            by_half : Either (take n ((lists k t).waiting q c)) (drop n ((lists k t).waiting q c)) i → At k (Took d r n ∷ t) i
            by_half (Left l) =
                let mine = eq-eqb d d refl in
                let same = same-list k t q c r d own in
                Holds d (rw mine (subst (λ xs. has (take n xs) i ≡ true) same l))
            by_half (Right l) = Waits q c inner (rw own l)

starts : (k : Declarations) (t : List QueueStep) (d : ℕ) → AllAt k t → AllAt k (NextTaken d ∷ t)
starts k t d older i h =
    let parts = unless (begins_with i ((lists k t).taken d)) (is_listed k t i) h in by_place parts.0 (older i parts.1)
  where
    by_place : begins_with i ((lists k t).taken d) ≡ false → At k t i → At k (NextTaken d ∷ t) i
    by_place off (Waits q c inner there) = Waits q c inner there
    by_place off (Holds c there) = by_core (compared d c)
      where
        by_core : Compared d c → At k (NextTaken d ∷ t) i
        by_core (Same same e) = Holds c (rw same (has-after ((lists k t).taken c) i (subst (λ (x : ℕ). begins_with i ((lists k t).taken x) ≡ false) e off) there))
        by_core (Other f e) = Holds c (rw f there)

gives-back : (k : Declarations) (t : List QueueStep) (d : ℕ)
    → ((i : ℕ) → has ((lists k t).taken d) i ≡ true → (r : ℕ) × (((lists k t).source d ≡ Some r) × (is_output (kind_of k r) ≡ false)))
    → AllAt k t → AllAt k (Untook d ∷ t)
gives-back k t d source older i h = by_place (older i h)
  where
    more : (b : Bool) (xs ys : List ℕ) → has ys i ≡ true → has (if b then xs ++ ys else ys) i ≡ true
    more true xs ys there = has-right xs ys i there
    more false xs ys there = there

    by_place : At k t i → At k (Untook d ∷ t) i
    by_place (Waits q c inner there) = Waits q c inner (more _ ((lists k t).taken d) ((lists k t).waiting q c) there)
    by_place (Holds c there) = by_core (compared d c)
      where
        by_core : Compared d c → At k (Untook d ∷ t) i
        by_core (Same same e) =
            let mine : has ((lists k t).taken d) i ≡ true = subst (λ (x : ℕ). has ((lists k t).taken x) i ≡ true) (sym e) there in
            let s = source i mine in
            let from = s.1.0 in
            let own = own-list k s.0 d in
            Waits s.0 d s.1.1 (rw (from, own) (has-left ((lists k t).taken d) ((lists k t).waiting s.0 d) i mine))
        by_core (Other f e) = Holds c (rw f there)

dequeues : (k : Declarations) (t : List QueueStep) (r d : ℕ) → AllAt k t → AllAt k (Dequeued r d ∷ t)
dequeues k t r d older i h =
    let parts = unless (begins_with i ((lists k t).waiting r d)) (is_listed k t i) h in by_place parts.0 (older i parts.1)
  where
    by_place : begins_with i ((lists k t).waiting r d) ≡ false → At k t i → At k (Dequeued r d ∷ t) i
    by_place off (Holds c there) = Holds c there
    by_place off (Waits q c inner there) = by_list (is_for k q c r d) refl
      where
        by_list : (b : Bool) → is_for k q c r d ≡ b → At k (Dequeued r d ∷ t) i
        by_list false other = Waits q c inner (rw other there)
        by_list true own =
            let same = same-list k t q c r d own in
            Waits q c inner (rw own (has-after ((lists k t).waiting q c) i (subst (λ xs. begins_with i xs ≡ false) (sym same) off) there))

-- entries

-- where a core has taken something, it took it from a queue that is no output
taken-source : (k : Declarations) (l : Limits) (past : Past) (d i : ℕ) → AllAllowed k l past → has ((lists k (queue_steps k past)).taken d) i ≡ true
    → (r : ℕ) × (((lists k (queue_steps k past)).source d ≡ Some r) × (is_output (kind_of k r) ≡ false))
taken-source k l past d i all h = by_queue (take_queue past d) refl
  where
    by_queue : (o : Option ℕ) → take_queue past d ≡ o → (r : ℕ) × (((lists k (queue_steps k past)).source d ≡ Some r) × (is_output (kind_of k r) ≡ false))
    by_queue None from =
        let none : (lists k (queue_steps k past)).taken d ≡ [] = (queues-alike k l past all).taken d ∙ ap (map index_in) (taken-first k past d from) in
        absurd (let no : has [] i ≡ true = rw none at h in cc no)
    by_queue (Some r) from = (r, ((queues-alike k l past all).source d ∙ from, served-output (kind_of k r) (take-served k l past all d r from)))

served-at : (k : Declarations) (l : Limits) (past : Past) (d : ℕ) (w : What) → AllAllowed k l past → Moment k l past d w → AllAt k (queue_steps k past)
    → AllAt k (served_steps d w (queue_steps k past))
served-at k l past d (What.Take q n t) all m older =
    takes k (queue_steps k past) d q.0 n ((queues-alike k l past all).taken d ∙ ap (map index_in) m.ready.between.untaken) older
served-at k l past d (What.Start q e s) all m older = starts k (queue_steps k past) d older
served-at k l past d (What.Untake q n) all m older = gives-back k (queue_steps k past) d (λ i h. taken-source k l past d i all h) older
served-at k l past d (What.EndAtomic rest cells) all m older = gives-back k (queue_steps k past) d (λ i h. taken-source k l past d i all h) older
served-at k l past d (What.Dequeue q None) all m older = older
served-at k l past d (What.Dequeue q (Some e)) all m older = dequeues k (queue_steps k past) q.0 d older
served-at k l past d w all m older = older

all-at : (k : Declarations) (l : Limits) (past : Past) → AllAllowed k l past → AllAt k (queue_steps k past)
all-at k l [] all = λ i h. absurd (cc h)
all-at k l (e ∷ past) all =
    all-arrive k past (entering k past e) (served_steps e.core.0 e.what (queue_steps k past))
    (served-at k l past e.core.0 e.what all.1 (allowed-moment k l past e all.1 all.0) (all-at k l past all.1))

pub located : (k : Declarations) (l : Limits) (past : Past) → AllAllowed k l past → (i : ℕ) → is_listed k (queue_steps k past) i ≡ true → Located k past i
located k l past all i h = by_place (all-at k l past all i h)
  where
    by_place : At k (queue_steps k past) i → Located k past i
    by_place (Waits q c inner there) = InQueue q c inner (subst (λ xs. has xs i ≡ true) ((queues-alike k l past all).waiting q c inner) there)
    by_place (Holds c there) = IsTaken c (subst (λ xs. has xs i ≡ true) ((queues-alike k l past all).taken c) there)
