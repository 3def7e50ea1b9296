-- What is known of one core of a run.
use Rattle.std.specs.Prelude.{ℕ, ◌≡◌, ◌==◌, Bool, true, false, None, is_some}
use Rattle.em_log.specs.declared.ask.Answer.{Answer}
use Rattle.em_log.specs.declared.ask.Ask.{Ask}
use Rattle.em_log.specs.declared.declarations.Declarations.{Declarations}
use Rattle.em_log.specs.declared.declarations.PoolShape.{PoolShape}
use Rattle.em_log.specs.declared.graph.Config.{Config}
use Rattle.em_log.specs.declared.ids.Limits.{Limits}
use Rattle.em_log.specs.Contexts.{context}
use Rattle.em_log.specs.Declarations.{atomic_of, declarations_of}
use Rattle.em_log.specs.History.{Past}
use Rattle.em_log.specs.Lawful.{Lawful}
use Rattle.em_desk_rows.specs.Graphs.{one_queue}

-- the run is of a graph without atomic queues, and takes one event at a time
pub record IsPlainRun (k : Declarations) (l : Limits) : Type 0 where
  pub graph : Config
  pub declared : declarations_of graph ≡ k
  pub burst : l.burst ≡ 1
  pub unheld : (q : ℕ) → atomic_of k q ≡ None

-- its graph has one pool and one queue
pub record HasOneQueue (k : Declarations) (l : Limits) : Type 0 where
  pub run : IsPlainRun k l
  pub pool : PoolShape
  pub is : k ≡ one_queue k.cores pool

-- the history is lawful, and core c is inside a context or not
pub record IsKnown (k : Declarations) (l : Limits) (past : Past) (c : ℕ) (inside : Bool) : Type 0 where
  pub lawful : Lawful k l past
  pub open_context : is_some (context past c) ≡ inside

-- a take that is answered so has opened a context
abbrev pub is_context : Answer → Bool
is_context (Answer.Context context) = true
is_context answer = false

-- an ask of the first pool and the first queue, that may stand in every context
abbrev pub is_plain : Ask → Bool
is_plain (Ask.Alloc p kind words) = p.0 == 0
is_plain (Ask.Free w) = true
is_plain (Ask.Send w q None) = q.0 == 0
is_plain (Ask.Say v) = true
is_plain ask = false
