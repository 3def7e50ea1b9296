-- Entries that leave the event groups.
use Rattle.std.proofs.Common.{◌≡◌, ℕ, false, ◌∷◌, List, sym, subst}
use Rattle.em_log.specs.declared.declarations.Declarations.{Declarations}
use Rattle.em_log.specs.declared.entry.What.{What}
use Rattle.em_log.specs.History.{Past, entry_by}
use Rattle.em_egroups.specs.declared.group.Group.{Group}
use Rattle.em_egroups.specs.Stands as groups
use Rattle.em_context_parts.specs.EgroupSteps.{egroup_steps, touches_egroups}
use Rattle.em_context_parts.proofs.Untouched.{egroups-untouched}
use Rattle.em_desk.specs.Groups.{GroupsStand}

-- the groups stand after an entry that touches none
pub groups-kept : (k : Declarations) (v : List Group) (past : Past) (c : ℕ) (w : What) → touches_egroups w ≡ false → GroupsStand k v past → GroupsStand k v (entry_by c w ∷ past)
groups-kept k v past c w none s =
    record { steps = subst (groups.Stands v) (sym (egroups-untouched past c w (egroup_steps past) none)) s.steps; count = s.count }
