-- What is known of every core of a desk of one queue.
use Rattle.std.specs.Prelude.{ℕ, ◌≡◌, ◌≢◌, ◌≤◌, ◌<◌, List, length, get_or, is_some, nat_lt}
use Rattle.em_log.specs.declared.declarations.Declarations.{Declarations}
use Rattle.em_log.specs.Allowance.{left}
use Rattle.em_log.specs.Contexts.{context}
use Rattle.em_log.specs.History.{Past}
use Rattle.em_desk.specs.State.{DeskState, IsSameRun}
use Rattle.em_board_rows.specs.Cores.{HasOneQueue}

-- core c's open context has n left at least; where n is 0, none is open
pub record HasLeft (k : Declarations) (past : Past) (c n : ℕ) : Type 0 where
  pub open_context : is_some (context past c) ≡ nat_lt 0 n
  pub room : n ≤ left k past c

-- each core has so much left
pub record AllHaveLeft (d : DeskState) (ns : List ℕ) : Type 0 where
  pub run : HasOneQueue d.declarations d.limits
  pub cores : length ns ≡ d.declarations.cores
  pub each : (c : ℕ) → c < length ns → HasLeft d.declarations d.past c (get_or ns c 0)

-- a call of core c has left the contexts of the others as they were
pub record LeavesOthers (c : ℕ) (old new : DeskState) : Type 0 where
  pub run : IsSameRun old new
  pub contexts : (d : ℕ) → d ≢ c → context new.past d ≡ context old.past d
  pub rooms : (d : ℕ) → d ≢ c → left old.declarations new.past d ≡ left old.declarations old.past d
