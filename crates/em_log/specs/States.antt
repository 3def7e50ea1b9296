-- States of objects, flags of queues, masks of queue groups, and which queues are closed.
use Rattle.std.specs.Prelude.{ℕ, ◌==◌, Bool, true, false, [], ◌∷◌, Option, Some, None, if◌then◌else◌, bit_and, slice_get}
use Rattle.std.specs.Option.{option_map_or, option_and_then}
use Rattle.em_log.specs.declared.declarations.Declarations.{Declarations}
use Rattle.em_log.specs.declared.entry.What.{What}
use Rattle.em_log.specs.declared.entry.Begun.{Begun}
use Rattle.em_log.specs.declared.ids.EoState.{EoState}
use Rattle.em_log.specs.History.{Past}
use Rattle.em_log.specs.Declarations.{kind_of, object_of, declared_mask, is_served}
use Rattle.em_log.specs.Operations.{by_job}

-- states

-- the state that a completed operation leaves
abbrev pub state_done : ℕ → Begun → Bool → EoState → EoState
state_done x (Begun.Start y) true s = if y.0 == x then EoState.Running else s
state_done x (Begun.Start y) false s = if y.0 == x then EoState.Created else s
state_done x (Begun.Stop y) ok s = if y.0 == x then EoState.Created else s
state_done x (Begun.Modify g m) ok s = s

abbrev pub state_begun : ℕ → Begun → EoState → EoState
state_begun x (Begun.Start y) s = if y.0 == x then EoState.Starting else s
state_begun x (Begun.Stop y) s = if y.0 == x then EoState.Stopping else s
state_begun x (Begun.Modify g m) s = s

abbrev pub state_after : Past → ℕ → What → EoState → EoState
state_after past x (What.Begin op job notes) s = state_begun x job s
state_after past x (What.Done op ok) s = by_job past op (λ j. state_done x j ok s) s
state_after past x w s = s

abbrev pub first_state : Bool → EoState
first_state true = EoState.Running
first_state false = EoState.Created

-- the state of an object: the declared one, changed by its starts and stops
abbrev pub state : Declarations → Past → ℕ → EoState
state k [] x = option_map_or first_state (slice_get k.running x) EoState.Created
state k (e ∷ past) x = state_after past x e.what (state k past x)

abbrev pub is_running : EoState → Bool
is_running EoState.Running = true
is_running _ = false

-- flags

abbrev pub flag_after : ℕ → What → Bool → Bool
flag_after q (What.Enable r) f = if r.0 == q then true else f
flag_after q (What.Disable r) f = if r.0 == q then false else f
flag_after q w f = f

-- whether the queue is enabled: all are at first
abbrev pub flag : Past → ℕ → Bool
flag [] q = true
flag (e ∷ past) q = flag_after q e.what (flag past q)

-- masks

abbrev pub mask_done : ℕ → Begun → ℕ → ℕ
mask_done g (Begun.Modify h new) m = if h.0 == g then new else m
mask_done g _ m = m

abbrev pub mask_after : Past → ℕ → What → ℕ → ℕ
mask_after past g (What.Done op ok) m = by_job past op (λ j. mask_done g j m) m
mask_after past g w m = m

-- the mask of a queue group: that of its last change that is done, else the declared one
abbrev pub mask : Declarations → Past → ℕ → ℕ
mask k [] g = declared_mask k g
mask k (e ∷ past) g = mask_after past g e.what (mask k past g)

abbrev pub change_done : ℕ → Begun → Option ℕ → Option ℕ
change_done g (Begun.Modify h new) m = if h.0 == g then None else m
change_done g _ m = m

abbrev pub change_begun : ℕ → Begun → Option ℕ → Option ℕ
change_begun g (Begun.Modify h new) m = if h.0 == g then Some new else m
change_begun g _ m = m

abbrev pub change_after : Past → ℕ → What → Option ℕ → Option ℕ
change_after past g (What.Begin op job notes) m = change_begun g job m
change_after past g (What.Done op ok) m = by_job past op (λ j. change_done g j m) m
change_after past g w m = m

-- the mask to which the queue group is being changed, where a change has begun and is not done
abbrev pub change : Past → ℕ → Option ℕ
change [] g = None
change (e ∷ past) g = change_after past g e.what (change past g)

abbrev pub within_change : ℕ → Option ℕ → ℕ
within_change m None = m
within_change m (Some new) = bit_and m new

-- the mask in force: while a change is pending, what the old and the new mask share
abbrev pub effective : Declarations → Past → ℕ → ℕ
effective k past g = within_change (mask k past g) (change past g)

-- closed queues

-- why a queue of such an object is closed, if it is: the number of the object's state, or 4 where it is disabled
abbrev pub closed_by : EoState → Bool → Option ℕ
closed_by EoState.Created f = Some 0
closed_by EoState.Stopping f = Some 3
closed_by _ true = None
closed_by _ false = Some 4

-- why the queue is closed, if it is: unscheduled and output queues are always open
abbrev pub closed : Declarations → Past → ℕ → Option ℕ
closed k past q =
    if is_served (kind_of k q)
    then option_and_then (λ x. closed_by (state k past x) (flag past q)) (object_of k q)
    else None
