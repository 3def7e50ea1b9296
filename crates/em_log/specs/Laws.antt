-- Four laws that a person can hold against any history, without knowing how one comes about.
use Rattle.std.specs.Prelude.{ℕ, suc, ◌≤◌, ◌≡◌, ◌≢◌, ◌==◌, Bool, true, false, ◌&&◌, ◌⊎◌, List, [], ◌∷◌, ◌++◌, length, map, take, Option, Some, None, if◌then◌else◌, IsTrue}
use Rattle.std.specs.List.{flat_map}
use Rattle.em_log.specs.declared.declarations.Declarations.{Declarations}
use Rattle.em_log.specs.declared.entry.What.{What}
use Rattle.em_log.specs.declared.entry.Begun.{Begun}
use Rattle.em_log.specs.declared.ids.Stamp.{Stamp}
use Rattle.em_log.specs.History.{Past, has, index_of}
use Rattle.em_log.specs.Declarations.{below, kind_of, is_local, object_of, group_of, atomic_of}
use Rattle.em_log.specs.Contexts.{receives_from, take_queue}
use Rattle.em_log.specs.Handles.{next_handle}
use Rattle.em_log.specs.Operations.{by_job}
use Rattle.em_log.specs.Order.{enters, ticket_of_send}
use Rattle.em_log.specs.Arrivals.{Item, arrivals, is_for}
use Rattle.em_log.specs.Places.{taken}
use Rattle.em_log.specs.Atomic.{holder, has_open_take}
use Rattle.em_log.specs.Eligible.{has_core}

-- P holds after each entry
abbrev pub Always : (Past → Type 0) → Past → Type 0
Always P [] = P []
Always P (e ∷ past) = P (e ∷ past) × Always P past

-- P holds of each entry with the history before it
abbrev pub Each : (Past → ℕ → What → Type 0) → Past → Type 0
Each P [] = Unit {0}
Each P (e ∷ past) = P past e.core.0 e.what × Each P past

-- core c has an open receive of queue q
abbrev pub Receives : Past → ℕ → ℕ → Type 0
Receives past c q = receives_from past c ≡ Some q

-- core c has taken events of queue q that have not started
abbrev pub HasTaken : Declarations → Past → ℕ → ℕ → Type 0
HasTaken k past c q = (taken k past c ≢ []) × (take_queue past c ≡ Some q)

-- stopped objects are quiet

abbrev pub stopped_by : ℕ → Begun → Bool → Bool → Bool
stopped_by x (Begun.Start y) true was = if y.0 == x then false else was
stopped_by x (Begun.Stop y) true was = if y.0 == x then true else was
stopped_by x job ok was = was

abbrev pub stopped_after : Past → ℕ → What → Bool → Bool
stopped_after past x (What.Done op ok) was = by_job past op (λ j. stopped_by x j ok was) was
stopped_after past x w was = was

-- a stop of the object has completed, and no start of it since
abbrev pub is_stopped : Past → ℕ → Bool
is_stopped [] x = false
is_stopped (e ∷ past) x = stopped_after past x e.what (is_stopped past x)

-- no object that is stopped owns this queue
abbrev pub NotStopped : Declarations → Past → ℕ → Type 0
NotStopped k past q = (x : ℕ) → object_of k q ≡ Some x → is_stopped past x ≡ false

abbrev pub NoneOfStopped : Declarations → Past → ℕ → What → Type 0
NoneOfStopped k past c (What.Take q n t) = NotStopped k past q.0
NoneOfStopped k past c (What.Start q e s) = NotStopped k past q.0
NoneOfStopped k past c w = Unit {0}

abbrev pub StoppedIsQuiet : Declarations → Past → Type 0
StoppedIsQuiet k past = (c q : ℕ) → Receives past c q ⊎ HasTaken k past c q → NotStopped k past q

-- from each completed stop of an object until a start of it completes, no take and no start of its queues stands, and
-- after no entry a receive of it is open or an event of its queues taken, on any core
pub record StopQuiet (k : Declarations) (past : Past) : Type 0 where
  pub entries : Each (NoneOfStopped k) past
  pub after : Always (StoppedIsQuiet k) past

-- changed groups are quiet

abbrev pub settled_by : ℕ → Begun → Bool → Option ℕ → Option ℕ
settled_by g (Begun.Modify h new) true was = if h.0 == g then Some new else was
settled_by g job ok was = was

abbrev pub settled_after : Past → ℕ → What → Option ℕ → Option ℕ
settled_after past g (What.Done op ok) was = by_job past op (λ j. settled_by g j ok was) was
settled_after past g w was = was

-- the mask of the group's last change that has completed, if one has
abbrev pub settled : Past → ℕ → Option ℕ
settled [] g = None
settled (e ∷ past) g = settled_after past g e.what (settled past g)

-- core c is in the mask that the queue's group was last changed to
abbrev pub InSettled : Declarations → Past → ℕ → ℕ → Type 0
InSettled k past c q = (g m : ℕ) → group_of k q ≡ Some g → settled past g ≡ Some m → has_core m c ≡ true

abbrev pub TakesInSettled : Declarations → Past → ℕ → What → Type 0
TakesInSettled k past c (What.Take q n t) = InSettled k past c q.0
TakesInSettled k past c w = Unit {0}

abbrev pub ServedInSettled : Declarations → Past → Type 0
ServedInSettled k past = (c q : ℕ) → Receives past c q ⊎ HasTaken k past c q → InSettled k past c q

-- from each completed change of a queue group until the next, only cores of its mask take from the group's queues, and
-- after each entry every open receive and every taken event of them is on such a core
pub record GroupQuiet (k : Declarations) (past : Past) : Type 0 where
  pub entries : Each (TakesInSettled k) past
  pub after : Always (ServedInSettled k) past

-- atomic contexts are exclusive

abbrev pub within_after : Declarations → What → Option ℕ → Option ℕ
within_after k (What.Start q e s) was = atomic_of k q.0
within_after k (What.Enter b) was = None
within_after k (What.End lost cells) was = None
within_after k (What.EndAtomic rest cells) was = None
within_after k w was = was

-- the atomic context of core c's open receive, until the receive ends it early
abbrev pub within : Declarations → Past → ℕ → Option ℕ
within k [] c = None
within k (e ∷ past) c = if e.core.0 == c then within_after k e.what (within k past c) else within k past c

-- core c is the holder of the atomic context, and no other core has a take of it that is not closed
pub record HoldsAlone (k : Declarations) (past : Past) (a c : ℕ) : Type 0 where
  pub holder : holder k past a ≡ Some c
  pub alone : (d : ℕ) → has_open_take k past a d ≡ true → d ≡ c

-- a core whose receive is in an atomic context holds it alone
abbrev pub OnlyHolder : Declarations → Past → Type 0
OnlyHolder k past = (a c : ℕ) → within k past c ≡ Some a → HoldsAlone k past a c

-- after each entry at most one core is in an atomic context, and it is the holder; no other has an open take of it
abbrev pub Exclusive : Declarations → Past → Type 0
Exclusive k = Always (OnlyHolder k)

-- each event once

abbrev pub handles_of : List Item → List ℕ
handles_of xs = map (λ x. x.handle) xs

-- the handles that have entered a queue: in its one list, or in those of all cores
abbrev pub entered_in : Declarations → Past → ℕ → List ℕ
entered_in k past q =
    if is_local (kind_of k q)
    then flat_map (λ c. handles_of (arrivals k past q c)) (below k.cores)
    else handles_of (arrivals k past q 0)

abbrev pub entered_in_all : Declarations → Past → List ℕ
entered_in_all k past = flat_map (entered_in k past) (below (length k.queues))

abbrev pub AreDifferent : List ℕ → Type 0
AreDifferent [] = Unit {0}
AreDifferent (h ∷ hs) = (has hs h ≡ false) × AreDifferent hs

-- an item with this handle and this stamp stands in the list
pub record StandsIn (items : List Item) (h : ℕ) (s : Option Stamp) : Type 0 where
  pub before : List Item
  pub item : Item
  pub after : List Item
  pub list : items ≡ before ++ item ∷ after
  pub handle : item.handle ≡ h
  pub stamp : item.stamp ≡ s

-- a send of core d has entered its queue exactly where it has no ticket, or one that comes first now, and then it stands
-- with its stamp in the list that it goes to
pub record EntersAsSent (k : Declarations) (now past : Past) (d h q : ℕ) (t : Option ℕ) (s : Option Stamp) : Type 0 where
  pub turn : has (entered_in k now q) h ≡ enters now (ticket_of_send past d t)
  pub stands : IsTrue (enters now (ticket_of_send past d t)) → (c : ℕ) → IsTrue (is_for k q c q d) → StandsIn (arrivals k now q c) h s

abbrev pub EntersInTurn : Declarations → Past → Past → ℕ → What → Type 0
EntersInTurn k now past d (What.Send h q t s) = EntersAsSent k now past d h.0 q.0 t s
EntersInTurn k now past d w = Unit {0}

-- what a start shows of its event: all but the generation
pub record Shown : Type 0 where
  pub index : ℕ
  pub kind : ℕ
  pub words : List ℕ
  pub stamp : Option Stamp

abbrev pub shown_item : Item → Shown
shown_item x = record { index = index_of x.handle; kind = x.kind; words = x.words; stamp = x.stamp }

abbrev pub starts_after : Declarations → ℕ → ℕ → ℕ → What → List Shown → List Shown
starts_after k q c d (What.Start r e s) xs =
    if is_for k q c r.0 d
    then xs ++ record { index = index_of e.handle.0; kind = e.kind; words = e.words; stamp = s } ∷ []
    else xs
starts_after k q c d w xs = xs

-- the starts of a list, in order
abbrev pub starts : Declarations → Past → ℕ → ℕ → List Shown
starts k [] q c = []
starts k (e ∷ past) q c = starts_after k q c e.core.0 e.what (starts k past q c)

abbrev pub notifies_after : ℕ → ℕ → What → ℕ → ℕ
notifies_after g a (What.Notify h b) n = if (h.0 == g) && (b == a) then suc n else n
notifies_after g a w n = n

-- a start mints the next handle of its event
abbrev pub StartsNext : Past → ℕ → What → Type 0
StartsNext past d (What.Start q e s) = e.handle.0 ≡ next_handle past (index_of e.handle.0)
StartsNext past d w = Unit {0}

-- how often an application has notified
abbrev pub notifies : Past → ℕ → ℕ → ℕ
notifies [] g a = 0
notifies (e ∷ past) g a = notifies_after g a e.what (notifies past g a)

-- no handle enters twice; each send enters exactly when the tickets before it have ended, as it was sent; the starts of
-- a list are its first arrivals, in order, each under the next handle; and each application notifies at most once
pub record Once (k : Declarations) (past : Past) : Type 0 where
  pub different : AreDifferent (entered_in_all k past)
  pub sent : Each (EntersInTurn k past) past
  pub started : (q c : ℕ) → starts k past q c ≡ take (length (starts k past q c)) (map shown_item (arrivals k past q c))
  pub renewed : Each StartsNext past
  pub notified : (g a : ℕ) → notifies past g a ≤ 1
