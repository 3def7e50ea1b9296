-- The steps of atomic contexts that a history makes, over all kinds of entries.
use Rattle.std.specs.Prelude.{ℕ, Bool, true, false, List, [], ◌∷◌, Option, Some, None}
use Rattle.em_log.specs.declared.declarations.Declarations.{Declarations}
use Rattle.em_log.specs.declared.entry.What.{What}
use Rattle.em_log.specs.declared.ids.Cells.{Cells}
use Rattle.em_log.specs.History.{Past}
use Rattle.em_log.specs.Declarations.{atomic_of}
use Rattle.em_log.specs.Places.{taken}
use Rattle.em_log.specs.Atomic.{is_empty, cells}
use Rattle.em_atomic.specs.Steps.{AtomicStep, Grabbed, Given}

-- a take of a queue of an atomic context grabs it
abbrev pub grabbed_steps : Option ℕ → ℕ → List AtomicStep → List AtomicStep
grabbed_steps None c steps = steps
grabbed_steps (Some a) c steps = Grabbed a c ∷ steps

-- what is given back with events that did not start has the cells of the last end
abbrev pub untaken_steps : Declarations → Past → Option ℕ → ℕ → List AtomicStep → List AtomicStep
untaken_steps k past None c steps = steps
untaken_steps k past (Some a) c steps = Given c (cells k past a) ∷ steps

-- the end of a receive with cells gives its context back where the core has nothing taken
abbrev pub ended_steps : Bool → Option Cells → ℕ → List AtomicStep → List AtomicStep
ended_steps true (Some cs) c steps = Given c cs.0 ∷ steps
ended_steps true None c steps = steps
ended_steps false cs c steps = steps

abbrev pub atomic_after : Declarations → Past → ℕ → What → List AtomicStep → List AtomicStep
atomic_after k past c (What.Take q n t) steps = grabbed_steps (atomic_of k q.0) c steps
atomic_after k past c (What.Untake q n) steps = untaken_steps k past (atomic_of k q.0) c steps
atomic_after k past c (What.EndAtomic rest cs) steps = Given c cs.0 ∷ steps
atomic_after k past c (What.End lost cs) steps = ended_steps (is_empty (taken k past c)) cs c steps
atomic_after k past c w steps = steps

abbrev pub atomic_steps : Declarations → Past → List AtomicStep
atomic_steps k [] = []
atomic_steps k (e ∷ past) = atomic_after k past e.core.0 e.what (atomic_steps k past)

-- whether an entry may change who holds an atomic context
abbrev pub touches_atomics : What → Bool
touches_atomics (What.Take q n t) = true
touches_atomics (What.Untake q n) = true
touches_atomics (What.End lost cells) = true
touches_atomics (What.EndAtomic rest cells) = true
touches_atomics w = false
