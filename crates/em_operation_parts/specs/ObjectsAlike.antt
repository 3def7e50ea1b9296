-- What the steps of objects tell as the history does.
use Rattle.std.specs.Prelude.{ℕ, ◌≡◌, ◌&&◌}
use Rattle.em_log.specs.declared.declarations.Declarations.{Declarations}
use Rattle.em_log.specs.History.{Past}
use Rattle.em_log.specs.Eligible.{runs}
use Rattle.em_log.specs.Leads as leads
use Rattle.em_log.specs.States as log
use Rattle.em_objects.specs.Queues as part
use Rattle.em_operation_parts.specs.ObjectSteps.{object_steps}

pub record ObjectsAlike (k : Declarations) (past : Past) : Type 0 where
  pub state : (x : ℕ) → part.state k (object_steps past) x ≡ log.state k past x
  pub flag : (q : ℕ) → part.flag (object_steps past) q ≡ log.flag past q
  -- queues are closed for the same reasons, and refused with the same faults
  pub closed : (q : ℕ) → part.closed k (object_steps past) q ≡ log.closed k past q
  pub closed_fault : (q : ℕ) → part.closed_fault k (object_steps past) q ≡ leads.closed_fault k past q
  pub delivers : (q : ℕ) → part.delivers k (object_steps past) q ≡ (runs k past q && log.flag past q)
