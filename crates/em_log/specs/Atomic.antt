-- Atomic contexts: who holds one, and its cells.
use Rattle.std.specs.Prelude.{ℕ, ◌==◌, Bool, true, false, List, [], ◌∷◌, Option, Some, None, if◌then◌else◌, replicate}
use Rattle.std.specs.List.{find}
use Rattle.std.specs.Option.{option_and_then}
use Rattle.em_log.specs.declared.declarations.Declarations.{Declarations}
use Rattle.em_log.specs.declared.entry.What.{What}
use Rattle.em_log.specs.History.{Past}
use Rattle.em_log.specs.Declarations.{below, atomic_of, is_number}
use Rattle.em_log.specs.Contexts.{receives_from}
use Rattle.em_log.specs.Arrivals.{Item}
use Rattle.em_log.specs.Places.{taken}

abbrev pub is_empty : List Item → Bool
is_empty [] = true
is_empty (x ∷ xs) = false

abbrev pub has_open_after : Declarations → ℕ → List Item → What → Bool → Bool
has_open_after k a taken (What.Take q n t) was = if is_number a (atomic_of k q.0) then true else was
has_open_after k a taken (What.Untake q n) was = false
has_open_after k a taken (What.EndAtomic rest cells) was = false
has_open_after k a taken (What.End lost cells) was = if is_empty taken then false else was
has_open_after k a taken w was = was

-- whether core c's last take of a queue of the atomic context is not closed: an early end, a giving back, or the
-- end after which the core has nothing taken closes it
abbrev pub has_open_take : Declarations → Past → ℕ → ℕ → Bool
has_open_take k [] a c = false
has_open_take k (e ∷ past) a c =
    if e.core.0 == c
    then has_open_after k a (taken k past c) e.what (has_open_take k past a c)
    else has_open_take k past a c

-- the core that holds the atomic context, if one does
abbrev pub holder : Declarations → Past → ℕ → Option ℕ
holder k past a = find (has_open_take k past a) (below k.cores)

-- the atomic context of the queue that core c's open context receives from
abbrev pub received_atomic : Declarations → Past → ℕ → Option ℕ
received_atomic k past c = option_and_then (atomic_of k) (receives_from past c)

abbrev pub if_holder : Declarations → Past → ℕ → ℕ → Option ℕ
if_holder k past c a = if is_number c (holder k past a) then Some a else None

-- the atomic context that core c's open receive holds
abbrev pub holds : Declarations → Past → ℕ → Option ℕ
holds k past c = option_and_then (if_holder k past c) (received_atomic k past c)

-- eight cells of 0
abbrev pub zeros : List ℕ
zeros = replicate 8 0

abbrev pub cells_after : Declarations → Past → ℕ → ℕ → What → List ℕ → List ℕ
cells_after k past a d (What.End lost (Some cells)) cs = if is_number a (received_atomic k past d) then cells.0 else cs
cells_after k past a d (What.EndAtomic rest cells) cs = if is_number a (received_atomic k past d) then cells.0 else cs
cells_after k past a d w cs = cs

-- the cells of the atomic context: those of its receives' last end with cells, 0 at first
abbrev pub cells : Declarations → Past → ℕ → List ℕ
cells k [] a = zeros
cells k (e ∷ past) a = cells_after k past a e.core.0 e.what (cells k past a)
