-- What an entry that refuses leaves as it was.
use Rattle.std.specs.Prelude.{ℕ, ◌≡◌, ◌==◌, Bool, true, false, ◌&&◌, ◌||◌}
use Rattle.em_log.specs.declared.declarations.Declarations.{Declarations}
use Rattle.em_log.specs.declared.fault.Fault.{Fault}
use Rattle.em_log.specs.History.{Past}
use Rattle.em_log.specs.Contexts.{context, boot_ended}
use Rattle.em_log.specs.Handles.{generation, held, rule}
use Rattle.em_log.specs.Order.{released, open_ticket}
use Rattle.em_log.specs.Arrivals.{arrivals}
use Rattle.em_log.specs.Places.{waiting, taken, promised, kept, place}
use Rattle.em_log.specs.Atomic.{holder, cells}
use Rattle.em_log.specs.States.{state, flag, mask, effective, closed}
use Rattle.em_log.specs.Operations.{step, operation, done, global_done, acked, last_acker}
use Rattle.em_log.specs.Tails.{has_failed}
use Rattle.em_log.specs.EventGroups.{busy, applications, total, members, count, open_stamp}

-- every part stands after now as it stood after past
pub record IsUnchanged (k : Declarations) (past now : Past) : Type 0 where
  pub place : (i : ℕ) → place k now i ≡ place k past i
  pub generation : (i : ℕ) → generation now i ≡ generation past i
  pub rule : (c w : ℕ) → rule now c w ≡ rule past c w
  pub held : (c : ℕ) → held now c ≡ held past c
  pub context : (c : ℕ) → context now c ≡ context past c
  pub boot_ended : boot_ended now ≡ boot_ended past
  pub open_ticket : (c : ℕ) → open_ticket now c ≡ open_ticket past c
  pub released : (q : ℕ) → released now q ≡ released past q
  pub arrivals : (q c : ℕ) → arrivals k now q c ≡ arrivals k past q c
  pub waiting : (q c : ℕ) → waiting k now q c ≡ waiting k past q c
  pub taken : (c : ℕ) → taken k now c ≡ taken k past c
  pub promised : promised k now ≡ promised k past
  pub kept : (x : ℕ) → kept k now x ≡ kept k past x
  pub holder : (a : ℕ) → holder k now a ≡ holder k past a
  pub cells : (a : ℕ) → cells k now a ≡ cells k past a
  pub state : (x : ℕ) → state k now x ≡ state k past x
  pub flag : (q : ℕ) → flag now q ≡ flag past q
  pub mask : (g : ℕ) → mask k now g ≡ mask k past g
  pub effective : (g : ℕ) → effective k now g ≡ effective k past g
  pub closed : (q : ℕ) → closed k now q ≡ closed k past q
  pub operation : (n : ℕ) → operation now n ≡ operation past n
  pub done : (n : ℕ) → done now n ≡ done past n
  pub global_done : (n : ℕ) → global_done now n ≡ global_done past n
  pub acked : (n : ℕ) → acked now n ≡ acked past n
  pub last_acker : (n : ℕ) → last_acker k now n ≡ last_acker k past n
  pub step : (c : ℕ) → step k now c ≡ step k past c
  pub busy : (g : ℕ) → busy now g ≡ busy past g
  pub applications : (g : ℕ) → applications now g ≡ applications past g
  pub total : (g : ℕ) → total now g ≡ total past g
  pub members : (g a : ℕ) → members now g a ≡ members past g a
  pub count : (g : ℕ) → count now g ≡ count past g
  pub open_stamp : (c : ℕ) → open_stamp now c ≡ open_stamp past c

-- the refusal of a `fail`
abbrev pub is_fail : Fault → Bool
is_fail (Fault.StartFailed op) = true
is_fail fault = false

-- after a refusal of core c every part stands as before, and a global start has failed only where it had, or where this
-- refuses a `fail` of its core: so a `fail` alone decides how its operation's global start ends
pub record IsRefusal (k : Declarations) (past : Past) (c : ℕ) (fault : Fault) (now : Past) : Type 0 where
  pub unchanged : IsUnchanged k past now
  pub failed : (d : ℕ) → has_failed now d ≡ (((c == d) && is_fail fault) || has_failed past d)
