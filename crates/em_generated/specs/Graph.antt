-- The graph of n objects in a ring: each passes its events on to the next, and the first counts their rounds.
use Rattle.std.specs.Prelude.{ℕ, zero, suc, ◌+◌, ◌%◌, true, false, List, [], ◌∷◌, ◌++◌, map, Some, None, codes, decimal}
use Rattle.std.specs.List.{range_with_len}
use Rattle.em_log.specs.declared.body.Expr.{Expr}
use Rattle.em_log.specs.declared.body.Expr.TheVariants as expr
use Rattle.em_log.specs.declared.body.Stmt.{Stmt}
use Rattle.em_log.specs.declared.body.Stmt.TheVariants as stmt
use Rattle.em_log.specs.declared.graph.Config.{Config}
use Rattle.em_log.specs.declared.graph.Decl.{Decl}
use Rattle.em_log.specs.declared.graph.EoDecl.{EoDecl}
use Rattle.em_log.specs.declared.graph.Priority.{Priority}
use Rattle.em_log.specs.declared.graph.QueueDecl.{QueueDecl}
use Rattle.em_log.specs.declared.ids.EoId.{EoId}
use Rattle.em_log.specs.declared.ids.Kind.{Kind}
use Rattle.em_log.specs.declared.ids.PoolId.{PoolId}
use Rattle.em_log.specs.declared.ids.QueueId.{QueueId}

-- ---- names and numbers

-- the numbers of n things
abbrev pub numbers : ℕ → List ℕ
numbers n = range_with_len 0 n

-- letters and a number
abbrev pub named : List ℕ → ℕ → List ℕ
named letters i = letters ++ decimal i

abbrev pub object : ℕ → EoId
object i = record { 0 = i }

abbrev pub queue : ℕ → QueueId
queue i = record { 0 = i }

-- the queue after queue i of n, which go round
abbrev pub next_queue : ℕ → ℕ → QueueId
next_queue n i = queue ((i + 1) % n)

-- the only pool
abbrev pub events : PoolId
events = record { 0 = 0 }

-- ---- bodies

-- how many rounds the current event has left: its first word
abbrev pub rounds : Expr
rounds = expr.Word (expr.Number 0)

-- variable 0 becomes a new event, with this word
abbrev pub made : Expr → Stmt
made left = stmt.Alloc 0 events (expr.Number 0) (left ∷ [])

-- the event of variable 0 goes to this queue
abbrev pub sent : QueueId → Stmt
sent q = stmt.Send (expr.Var 0) q

-- the received event goes to this queue
abbrev pub forwarded : QueueId → Stmt
forwarded q = stmt.Send expr.Me q

-- object i begins to start
abbrev pub begun : ℕ → Stmt
begun i = stmt.Start (object i) []

-- forty events of six rounds go to the first queue
abbrev pub filled : Stmt
filled = stmt.Repeat 40 (made (expr.Number 6) ∷ sent (queue 0) ∷ [])

-- boot starts the objects, and makes the events
abbrev pub boot_of : ℕ → List Stmt
boot_of n = map begun (numbers n) ++ filled ∷ []

-- an event goes on as a new one, of a round less
abbrev pub another_round : ℕ → List Stmt
another_round n = made (expr.Sub rounds (expr.Number 1)) ∷ stmt.Free expr.Me ∷ sent (next_queue n 0) ∷ []

-- the first object: an event of no round leaves by the output, and any other goes another round
abbrev pub counted : ℕ → List Stmt
counted n = stmt.If (expr.Eq rounds (expr.Number 0)) (forwarded (queue n) ∷ []) (another_round n) true ∷ []

-- what object i does with an event: the others pass it on
abbrev pub received : ℕ → ℕ → List Stmt
received n zero = counted n
received n (suc i) = forwarded (next_queue n (suc i)) ∷ []

-- ---- declarations

-- object i of n, which boot starts
abbrev pub object_of : ℕ → ℕ → EoDecl
object_of n i =
    record {
      name = named (codes "x") i;
      running = false;
      receive = received n i;
      start = [];
      stop = [];
      lstart = [];
      lstop = [];
      error = None;
      given = record { receive = true; start = false; stop = false; lstart = false; lstop = false };
    }

abbrev pub kind_of_rest : ℕ → Kind
kind_of_rest zero = Kind.Atomic
kind_of_rest (suc zero) = Kind.Parallel
kind_of_rest (suc (suc r)) = Kind.Ordered

-- the kinds take turns
abbrev pub kind_at : ℕ → Kind
kind_at i = kind_of_rest (i % 3)

-- the queue of object i
abbrev pub queue_of : ℕ → QueueDecl
queue_of i =
    record {
      name = named (codes "q") i;
      kind = kind_at i;
      eo = Some (object i);
      priority = Some Priority.Normal;
      group = Some (record { 0 = 0 });
      agroup = None;
    }

abbrev pub output : QueueDecl
output = record { name = codes "o"; kind = Kind.Output; eo = None; priority = None; group = None; agroup = None }

-- the pool, the objects, the queues, of which the output is the last
abbrev pub order_of : ℕ → List Decl
order_of n = Decl.Pool 0 ∷ (map (λ i. Decl.Eo i) (numbers n) ++ map (λ i. Decl.Queue i) (numbers (n + 1)))

-- ---- the whole

unfoldable pub generated_graph : ℕ → Config
generated_graph n =
    record {
      cores = 4;
      order = order_of n;
      pools = record { name = codes "p"; events = 64; words = 1 } ∷ [];
      groups = [];
      eos = map (object_of n) (numbers n);
      agroups = [];
      queues = map queue_of (numbers n) ++ output ∷ [];
      egroups = [];
      boot = boot_of n;
      error = None;
    }
