-- Where each ask was served, no operation began, no group was applied, no flag was set or cleared.
use Rattle.std.proofs.Common.{◌≡◌, ℕ, ◌==◌, Bool, true, false, List, [], ◌∷◌, Option, Some, None, refl, ap, ◌∙◌, if◌then◌else◌, IsTrue}
use Rattle.std.specs.List.{list_all}
use Rattle.std.specs.Option.{option_map_or, option_and_then}
use Rattle.em_log.specs.declared.declarations.Declarations.{Declarations}
use Rattle.em_log.specs.declared.entry.What.{What}
use Rattle.em_log.specs.declared.entry.Begun.{Begun}
use Rattle.em_log.specs.declared.ids.EoState.{EoState}
use Rattle.em_log.specs.declared.ids.Note.{Note}
use Rattle.em_log.specs.History.{Past}
use Rattle.em_log.specs.Declarations.{object_of, kind_of, is_served, declared_mask, group_of}
use Rattle.em_log.specs.Operations.{Operation, operation, begun_by, operations, one_more_begun, step, all_done, notes_of}
use Rattle.em_log.specs.States.{state, state_after, state_done, flag, flag_after, mask, mask_after, mask_done, change, change_after, change_done, effective, within_change, closed, closed_by, is_running}
use Rattle.em_log.specs.Eligible.{runs, is_in_group, has_core}
use Rattle.em_log.specs.EventGroups.{applied_notes, notes_applied}
use Rattle.em_desk.specs.Served.{AllServed, is_served_entry, serves_queue}

-- operations

begin-unserved : (k : Declarations) (job : Begun) (notes : List Note) (op : _) → IsTrue (is_served_entry k (What.Begin op job notes)) → ⊥
begin-unserved k (Begun.Start x) notes op h = cc h
begin-unserved k (Begun.Stop x) notes op h = cc h
begin-unserved k (Begun.Modify g m) notes op h = cc h

operations-after : (k : Declarations) (w : What) (n : ℕ) → IsTrue (is_served_entry k w) → n ≡ 0 → one_more_begun w n ≡ 0
operations-after k (What.Begin op job notes) n h none = absurd (begin-unserved k job notes op h)
operations-after k w n h none = none

pub operations-none : (k : Declarations) (past : Past) → AllServed k past → operations past ≡ 0
operations-none k [] s = refl
operations-none k (e ∷ past) s = operations-after k e.what (operations past) s.0 (operations-none k past s.1)

operation-after : (k : Declarations) (n c : ℕ) (w : What) (o : Option Operation) → IsTrue (is_served_entry k w) → o ≡ None → begun_by n c w o ≡ None
operation-after k n c (What.Begin op job notes) o h none = absurd (begin-unserved k job notes op h)
operation-after k n c w o h none = none

pub no-operation : (k : Declarations) (past : Past) (n : ℕ) → AllServed k past → operation past n ≡ None
no-operation k [] n s = refl
no-operation k (e ∷ past) n s = operation-after k n e.core.0 e.what (operation past n) s.0 (no-operation k past n s.1)

pub no-step : (k : Declarations) (past : Past) (c : ℕ) → AllServed k past → step k past c ≡ None
no-step k past c s = let none = operations-none k past s in rw none refl

pub all-done : (k : Declarations) (past : Past) → AllServed k past → all_done past ≡ true
all-done k past s = let none = operations-none k past s in rw none refl

-- states, flags and masks

state-next : (k : Declarations) (past : Past) (x : ℕ) (w : What) (s : EoState) → IsTrue (is_served_entry k w) → AllServed k past → state_after past x w s ≡ s
state-next k past x (What.Begin op job notes) s h all = absurd (begin-unserved k job notes op h)
state-next k past x (What.Done op ok) s h all = ap (λ (o : Option Operation). option_map_or (λ o. state_done x o.job ok s) o s) (no-operation k past op.0 all)
state-next k past x w s h all = refl

pub state-declared : (k : Declarations) (past : Past) (x : ℕ) → AllServed k past → state k past x ≡ state k [] x
state-declared k [] x s = refl
state-declared k (e ∷ past) x s = state-next k past x e.what (state k past x) s.0 s.1 ∙ state-declared k past x s.1

flag-next : (k : Declarations) (q : ℕ) (w : What) (f : Bool) → IsTrue (is_served_entry k w) → flag_after q w f ≡ f
flag-next k q (What.Enable r) f h = absurd (cc h)
flag-next k q (What.Disable r) f h = absurd (cc h)
flag-next k q w f h = refl

pub flag-set : (k : Declarations) (past : Past) (q : ℕ) → AllServed k past → flag past q ≡ true
flag-set k [] q s = refl
flag-set k (e ∷ past) q s = flag-next k q e.what (flag past q) s.0 ∙ flag-set k past q s.1

mask-next : (k : Declarations) (past : Past) (g : ℕ) (w : What) (m : ℕ) → AllServed k past → mask_after past g w m ≡ m
mask-next k past g (What.Done op ok) m all = ap (λ (o : Option Operation). option_map_or (λ o. mask_done g o.job m) o m) (no-operation k past op.0 all)
mask-next k past g w m all = refl

mask-declared : (k : Declarations) (past : Past) (g : ℕ) → AllServed k past → mask k past g ≡ declared_mask k g
mask-declared k [] g s = refl
mask-declared k (e ∷ past) g s = mask-next k past g e.what (mask k past g) s.1 ∙ mask-declared k past g s.1

change-next : (k : Declarations) (past : Past) (g : ℕ) (w : What) (m : Option ℕ) → IsTrue (is_served_entry k w) → AllServed k past → change_after past g w m ≡ m
change-next k past g (What.Begin op job notes) m h all = absurd (begin-unserved k job notes op h)
change-next k past g (What.Done op ok) m h all = ap (λ (o : Option Operation). option_map_or (λ o. change_done g o.job m) o m) (no-operation k past op.0 all)
change-next k past g w m h all = refl

no-change : (k : Declarations) (past : Past) (g : ℕ) → AllServed k past → change past g ≡ None
no-change k [] g s = refl
no-change k (e ∷ past) g s = change-next k past g e.what (change past g) s.0 s.1 ∙ no-change k past g s.1

pub effective-declared : (k : Declarations) (past : Past) (g : ℕ) → AllServed k past → effective k past g ≡ declared_mask k g
effective-declared k past g s =
    ap (λ (o : Option ℕ). within_change (mask k past g) o) (no-change k past g s) ∙ mask-declared k past g s

-- queues

pub runs-declared : (k : Declarations) (past : Past) (q : ℕ) → AllServed k past → runs k past q ≡ runs k [] q
runs-declared k past q s = by_object (object_of k q)
  where
    by_object : (o : Option ℕ) → option_map_or (λ x. is_running (state k past x)) o false ≡ option_map_or (λ x. is_running (state k [] x)) o false
    by_object None = refl
    by_object (Some x) = ap is_running (state-declared k past x s)

pub group-declared : (k : Declarations) (past : Past) (c q : ℕ) → AllServed k past → is_in_group k past c q ≡ is_in_group k [] c q
group-declared k past c q s = by_group (group_of k q)
  where
    by_group : (o : Option ℕ) → option_map_or (λ g. has_core (effective k past g) c) o true ≡ option_map_or (λ g. has_core (effective k [] g) c) o true
    by_group None = refl
    by_group (Some g) = ap (λ (m : ℕ). has_core m c) (effective-declared k past g s)

pub closed-declared : (k : Declarations) (past : Past) (q : ℕ) → AllServed k past → closed k past q ≡ closed k [] q
closed-declared k past q s = by_object (is_served (kind_of k q)) (object_of k q)
  where
    by_object : (b : Bool) (o : Option ℕ) → (if b then option_and_then (λ x. closed_by (state k past x) (flag past q)) o else None)
        ≡ (if b then option_and_then (λ x. closed_by (state k [] x) true) o else None)
    by_object false o = refl
    by_object true None = refl
    by_object true (Some x) = (λ i. closed_by (state-declared k past x s i) (flag-set k past q s i))

-- event groups

applied-next : (k : Declarations) (g : ℕ) (w : What) (was : List Note) → IsTrue (is_served_entry k w) → list_all (λ n. serves_queue k n.queue.0) was ≡ true
    → list_all (λ n. serves_queue k n.queue.0) (notes_applied g w was) ≡ true
applied-next k g (What.Apply h a n notes) was s older = by_test (h.0 == g)
  where
    by_test : (b : Bool) → list_all (λ n. serves_queue k n.queue.0) (if b then notes else was) ≡ true
    by_test true = s
    by_test false = older
applied-next k g w was s older = older

-- the queues of all notes of a group are served
pub applied-served : (k : Declarations) (past : Past) (g : ℕ) → AllServed k past → list_all (λ n. serves_queue k n.queue.0) (applied_notes past g) ≡ true
applied-served k [] g s = refl
applied-served k (e ∷ past) g s = applied-next k g e.what (applied_notes past g) s.0 (applied-served k past g s.1)

pub no-notes : (k : Declarations) (past : Past) (n : ℕ) → AllServed k past → notes_of (operation past n) ≡ []
no-notes k past n s = ap notes_of (no-operation k past n s)
