-- What is kept of a core.
use Rattle.std.specs.Prelude.{ℕ, List, [], Option, None}
use Rattle.em_log.specs.declared.ids.QueueId.{QueueId}
use Rattle.em_queues.specs.Waiting.{WaitingList}

-- its lists of the local queues, what it has taken, and the queue that it took that from
pub record CoreQueues : Type 0 where
  pub local : List WaitingList
  pub taken : List ℕ
  pub source : Option QueueId

-- a core that is not there
abbrev pub no_core : CoreQueues
no_core = record { local = []; taken = []; source = None }
