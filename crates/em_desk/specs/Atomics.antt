-- The atomic contexts as the desk keeps them: which queue has which, and the queues whose context is held.
use Rattle.std.specs.Prelude.{ℕ, suc, [], ◌∷◌, ◌≡◌, ◌+◌, ◌<◌, Bool, false, List, length, get_or, slice_index_or, Option, Some, None, is_some, IsSome, if◌then◌else◌, unwrap_or}
use Rattle.std.specs.Option.{option_map_or, option_map}
use Rattle.em_log.specs.declared.declarations.Declarations.{Declarations}
use Rattle.em_log.specs.declared.declarations.QueueShape.{QueueShape}
use Rattle.em_log.specs.declared.ids.AtomicId.{AtomicId}
use Rattle.em_log.specs.declared.ids.Cells.{Cells}
use Rattle.em_log.specs.Declarations.{atomic_of, is_atomic, is_lone, is_number, lone_count}
use Rattle.em_log.specs.Answers.{cells_as}
use Rattle.em_atomic.specs.Steps.{AtomicStep}
use Rattle.em_atomic.specs.Holding.{held as held_by, holder, cells}
use Rattle.em_atomic.specs.State.{Shape, shape, atomic_number}
use Rattle.em_atomic.specs.Stands as atomic
use Rattle.em_queues.specs.declared.set.QueueSet.{QueueSet}
use Rattle.em_queues.specs.Sets.{contains}
use Rattle.em_desk.specs.declared.atomic_queues.AtomicQueues.{AtomicQueues}

-- the atomic context of a queue of this shape: its group, or the next one
abbrev pub context_in : ℕ → QueueShape → Option ℕ
context_in next d = if is_atomic d.kind then Some (unwrap_or d.agroup next) else None

-- those of the queues, in order, of which each atomic one outside a group is the next
abbrev pub contexts_from : ℕ → List QueueShape → List (Option ℕ)
contexts_from next [] = []
contexts_from next (d ∷ ds) = context_in next d ∷ contexts_from (if is_lone d then suc next else next) ds

abbrev pub context_at : List (Option AtomicId) → ℕ → Option ℕ
context_at contexts q = atomic_number (slice_index_or contexts q None)

-- some core holds the queue's atomic context
abbrev pub is_held : Declarations → List AtomicStep → ℕ → Bool
is_held k s q = option_map_or (λ a. is_some (holder s a)) (atomic_of k q) false

-- the cells of the queue's atomic context, if it has one
abbrev pub cells_of : Declarations → List AtomicStep → ℕ → Option Cells
cells_of k s q = option_map (λ a. cells_as (cells s a)) (atomic_of k q)

abbrev pub atomic_shape : Declarations → Shape
atomic_shape k = record { contexts = length k.agroups + lone_count k.queues; cores = k.cores }

-- each set has the queues of the atomic context of its number
abbrev pub AreMembers : (ℕ → Option ℕ) → List QueueSet → Type 0
AreMembers context sets = (a q : ℕ) (s : QueueSet) → a < length sets → s ≡ get_or sets a s → contains s q ≡ is_number a (context q)

pub record AtomicsStand (k : Declarations) (v : AtomicQueues) (s : List AtomicStep) : Type 0 where
  pub contexts : atomic.Stands v.contexts s
  pub shape : shape v.contexts ≡ atomic_shape k
  pub of_queue : (q : ℕ) → context_at v.of_queue.items q ≡ atomic_of k q
  pub within : (q a : ℕ) → atomic_of k q ≡ Some a → a < (atomic_shape k).contexts
  pub count : length v.members.items ≡ (atomic_shape k).contexts
  pub members : AreMembers (atomic_of k) v.members.items
  pub held : (q : ℕ) → contains v.held q ≡ is_held k s q
  -- what a core holds is there
  pub holdings : (c a : ℕ) → held_by s c ≡ Some a → a < (atomic_shape k).contexts

-- core c holds no atomic context, and nobody that of queue q
pub record CanGrab (v : AtomicQueues) (q c : ℕ) : Type 0 where
  pub graph : Declarations
  pub steps : List AtomicStep
  pub stands : AtomicsStand graph v steps
  pub core : c < graph.cores
  pub free : is_held graph steps q ≡ false
  pub idle : held_by steps c ≡ None

-- core c holds an atomic context
pub record CanGive (v : AtomicQueues) (c : ℕ) : Type 0 where
  pub graph : Declarations
  pub steps : List AtomicStep
  pub stands : AtomicsStand graph v steps
  pub core : c < graph.cores
  pub holds : IsSome (held_by steps c)
