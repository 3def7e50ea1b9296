-- Applications on the steps of event groups: their totals, members and counts, and which one is the current one.
use Rattle.std.specs.Prelude.{ℕ, suc, ◌+◌, ◌-◌, ◌==◌, nat_le, Bool, true, false, ◌&&◌, List, [], ◌∷◌, Some, if◌then◌else◌}
use Rattle.em_log.specs.declared.ids.Note.{Note}
use Rattle.em_log.specs.declared.ids.Stamp.{Stamp}
use Rattle.em_log.specs.EventGroups.{is_stamp}
use Rattle.em_egroups.specs.Steps.{EgroupStep, Applied, Stamped, Increased, Left, Aborted}

abbrev pub applications_after : ℕ → EgroupStep → ℕ → ℕ
applications_after g (Applied h n notes) m = if h == g then suc m else m
applications_after g s m = m

-- how many applications the group has had: they are numbered from 1
abbrev pub applications : List EgroupStep → ℕ → ℕ
applications [] g = 0
applications (s ∷ steps) g = applications_after g s (applications steps g)

abbrev pub total_after : ℕ → EgroupStep → ℕ → ℕ
total_after g (Applied h n notes) m = if h == g then n else m
total_after g (Increased h n) m = if h == g then m + n else m
total_after g s m = m

-- the count of the last application, with what was added to it
abbrev pub total : List EgroupStep → ℕ → ℕ
total [] g = 0
total (s ∷ steps) g = total_after g s (total steps g)

abbrev pub notes_after : ℕ → EgroupStep → List Note → List Note
notes_after g (Applied h n notes) was = if h == g then notes else was
notes_after g s was = was

-- the notes of the group's last application
abbrev pub applied_notes : List EgroupStep → ℕ → List Note
applied_notes [] g = []
applied_notes (s ∷ steps) g = notes_after g s (applied_notes steps g)

-- the stamp of a member that is sent now
abbrev pub stamp_now : List EgroupStep → ℕ → Stamp
stamp_now steps g = record { group = record { 0 = g }; app = applications steps g }

abbrev pub members_after : List EgroupStep → ℕ → ℕ → EgroupStep → ℕ → ℕ
members_after steps g a (Stamped h) m = if is_stamp g a (Some (stamp_now steps h)) then suc m else m
members_after steps g a s m = m

-- how many members of this application were sent
abbrev pub members : List EgroupStep → ℕ → ℕ → ℕ
members [] g a = 0
members (s ∷ steps) g a = members_after steps g a s (members steps g a)

-- whether the stamp's application has begun
abbrev pub has_begun : List EgroupStep → Stamp → Bool
has_begun steps s = nat_le s.app (applications steps s.group.0)

abbrev pub departed_after : List EgroupStep → ℕ → ℕ → EgroupStep → ℕ → ℕ
departed_after steps g a (Left stamp) m = if is_stamp g a (Some stamp) && has_begun steps stamp then suc m else m
departed_after steps g a s m = m

-- how many receives with this stamp have left their group since the application began
abbrev pub departed : List EgroupStep → ℕ → ℕ → ℕ
departed [] g a = 0
departed (s ∷ steps) g a = departed_after steps g a s (departed steps g a)

-- what is left of the last application's count
abbrev pub count : List EgroupStep → ℕ → ℕ
count steps g = total steps g - departed steps g (applications steps g)

abbrev pub busy_after : List EgroupStep → ℕ → EgroupStep → Bool → Bool
busy_after steps g (Applied h n notes) was = if h == g then true else was
busy_after steps g (Left stamp) was = if count (Left stamp ∷ steps) g == 0 then false else was
busy_after steps g (Aborted h) was = if h == g then false else was
busy_after steps g s was = was

-- whether the group's last application was not given up, and never had its whole count left
abbrev pub busy : List EgroupStep → ℕ → Bool
busy [] g = false
busy (s ∷ steps) g = busy_after steps g s (busy steps g)

-- whether this is the group's current application: an idle group has none
abbrev pub is_current : List EgroupStep → ℕ → ℕ → Bool
is_current steps g a = busy steps g && (applications steps g == a)
