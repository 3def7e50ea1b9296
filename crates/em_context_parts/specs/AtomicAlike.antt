-- What the steps of atomic contexts tell as the history does.
use Rattle.std.specs.Prelude.{ℕ, ◌≡◌, [], Some, None}
use Rattle.em_log.specs.declared.declarations.Declarations.{Declarations}
use Rattle.em_log.specs.declared.entry.What.{What}
use Rattle.em_log.specs.History.{Past}
use Rattle.em_log.specs.Contexts.{context}
use Rattle.em_log.specs.Declarations.{is_number}
use Rattle.em_log.specs.Places.{taken}
use Rattle.em_log.specs.Atomic as log
use Rattle.em_atomic.specs.Holding as part
use Rattle.em_context_parts.specs.AtomicSteps.{atomic_steps}

pub record AtomicsAlike (k : Declarations) (past : Past) : Type 0 where
  -- a core holds a context by the steps exactly where its last take of a queue of the context is not closed
  pub open_take : (a c : ℕ) → log.has_open_take k past a c ≡ is_number a (part.held (atomic_steps k past) c)
  -- in an open context a core holds by the steps what the context holds: so the same early ends are refused
  pub held : (c : ℕ) (began : What) → context past c ≡ Some began → part.held (atomic_steps k past) c ≡ log.holds k past c
  -- a core that may take holds none
  pub idle : (c : ℕ) → context past c ≡ None → taken k past c ≡ [] → part.held (atomic_steps k past) c ≡ None
  pub holder : (a : ℕ) → part.holder (atomic_steps k past) a ≡ log.holder k past a
  -- the cells of a free context: those of one that is held are with the core
  pub cells : (a : ℕ) → log.holder k past a ≡ None → part.cells (atomic_steps k past) a ≡ log.cells k past a
