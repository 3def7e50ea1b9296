-- What the steps of event groups tell as the history does.
use Rattle.std.specs.Prelude.{ℕ, ◌≡◌, ◌≤◌, length, ◌<◌, ◌==◌, not, ◌&&◌, List, [], ◌∷◌, Some, if◌then◌else◌}
use Rattle.em_log.specs.declared.declarations.Declarations.{Declarations}
use Rattle.em_log.specs.declared.entry.What.{What}
use Rattle.em_log.specs.declared.ids.EventGroupId.{EventGroupId}
use Rattle.em_log.specs.declared.ids.Stamp.{Stamp}
use Rattle.em_log.specs.History.{Past, entry_by}
use Rattle.em_log.specs.EventGroups as log
use Rattle.em_log.specs.Leads.{count_refusal, stamp_refusal, increment_refusal, abort_refusal}
use Rattle.em_log.specs.Tails.{note_results, notification}
use Rattle.em_egroups.specs.declared.group.Counted.{Counted}
use Rattle.em_egroups.specs.Applications as part
use Rattle.em_egroups.specs.Refusals as refused
use Rattle.em_context_parts.specs.EgroupSteps.{egroup_steps}

pub record EgroupsAlike (past : Past) : Type 0 where
  pub applications : (g : ℕ) → part.applications (egroup_steps past) g ≡ log.applications past g
  -- a group has no more applications than there are entries
  pub few : (g : ℕ) → log.applications past g ≤ length past
  pub total : (g : ℕ) → part.total (egroup_steps past) g ≡ log.total past g
  pub notes : (g : ℕ) → part.applied_notes (egroup_steps past) g ≡ log.applied_notes past g
  pub members : (g a : ℕ) → part.members (egroup_steps past) g a ≡ log.members past g a
  pub departed : (g a : ℕ) → part.departed (egroup_steps past) g a ≡ log.departed past g a
  pub count : (g : ℕ) → part.count (egroup_steps past) g ≡ log.count past g
  -- between the end that makes the count zero and its notification a group is busy by the history alone
  pub busy : (g : ℕ) → part.busy (egroup_steps past) g ≡ (log.busy past g && not (log.count past g == 0))

-- between asks a group is busy by the steps exactly where it is by the history, and so the same calls are refused, with the
-- same faults
pub record RefusalsAlike (past : Past) : Type 0 where
  pub current : (g a : ℕ) → part.is_current (egroup_steps past) g a ≡ log.is_current past g a
  pub apply : (g n : ℕ) → refused.apply_refusal (egroup_steps past) g n ≡ count_refusal past g n
  pub stamp : (g : ℕ) → refused.stamp_refusal (egroup_steps past) g ≡ stamp_refusal past g
  pub increment : (s : Stamp) (n : ℕ) → refused.increment_refusal (egroup_steps past) s n ≡ increment_refusal past (Some s) n
  pub abort : (g : EventGroupId) → refused.abort_refusal (egroup_steps past) g ≡ abort_refusal past g

-- what the leaving of a receive with this stamp comes to, now being the history with the entry by which it leaves: the
-- application is not the current one, or so much of its count is left, or nothing, and then its notes come
abbrev pub left_by : Past → Stamp → Counted
left_by now s =
    if log.is_current now s.group.0 s.app then refused.counted_to (log.applied_notes now s.group.0) (log.count now s.group.0)
    else Counted.Stale

-- the entries that tell of it: a notification where nothing is left
abbrev pub told_of : Declarations → Past → ℕ → Stamp → Counted → List What
told_of k now d s (Counted.Zero notes) =
    What.Notify s.group s.app ∷ note_results k (entry_by d (What.Notify s.group s.app) ∷ now) d notes
told_of k now d s (Counted.Still n) = []
told_of k now d s Counted.Stale = []

-- core c, whose open receive has the stamp, leaves its group by the entry w
pub record Leaves (k : Declarations) (past : Past) (c : ℕ) (w : What) (s : Stamp) : Type 0 where
  -- fewer have left than members were sent
  pub member : log.departed past s.group.0 s.app < log.members past s.group.0 s.app
  pub answer : refused.counted (egroup_steps past) s ≡ left_by (entry_by c w ∷ past) s
  pub told : notification k (entry_by c w ∷ past) c (Some s) ≡ told_of k (entry_by c w ∷ past) c s (refused.counted (egroup_steps past) s)
