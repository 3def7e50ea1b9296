-- Event groups: applications, members and counts.
use Rattle.std.specs.Prelude.{ℕ, suc, ◌+◌, ◌-◌, ◌==◌, Bool, true, false, ◌&&◌, List, [], ◌∷◌, Option, Some, None, if◌then◌else◌}
use Rattle.em_log.specs.declared.entry.What.{What}
use Rattle.em_log.specs.declared.ids.Note.{Note}
use Rattle.em_log.specs.declared.ids.Stamp.{Stamp}
use Rattle.em_log.specs.History.{Past}

abbrev pub is_stamp : ℕ → ℕ → Option Stamp → Bool
is_stamp g a None = false
is_stamp g a (Some s) = (s.group.0 == g) && (s.app == a)

abbrev pub applications_after : ℕ → What → ℕ → ℕ
applications_after g (What.Apply h a n notes) m = if h.0 == g then suc m else m
applications_after g w m = m

-- how many applications the group has had
abbrev pub applications : Past → ℕ → ℕ
applications [] g = 0
applications (e ∷ past) g = applications_after g e.what (applications past g)

abbrev pub busy_after : ℕ → What → Bool → Bool
busy_after g (What.Apply h a n notes) b = if h.0 == g then true else b
busy_after g (What.Notify h a) b = if h.0 == g then false else b
busy_after g (What.Abort h) b = if h.0 == g then false else b
busy_after g w b = b

-- whether the group's last application was neither notified nor aborted
abbrev pub busy : Past → ℕ → Bool
busy [] g = false
busy (e ∷ past) g = busy_after g e.what (busy past g)

-- whether this is the group's current application: an idle group has none
abbrev pub is_current : Past → ℕ → ℕ → Bool
is_current past g a = busy past g && (applications past g == a)

abbrev pub total_after : ℕ → What → ℕ → ℕ
total_after g (What.Apply h a n notes) m = if h.0 == g then n else m
total_after g (What.Increment h n) m = if h.0 == g then m + n else m
total_after g w m = m

-- the count of the last application, with what was added to it
abbrev pub total : Past → ℕ → ℕ
total [] g = 0
total (e ∷ past) g = total_after g e.what (total past g)

abbrev pub notes_applied : ℕ → What → List Note → List Note
notes_applied g (What.Apply h a n notes) was = if h.0 == g then notes else was
notes_applied g w was = was

-- the notes of the group's last application
abbrev pub applied_notes : Past → ℕ → List Note
applied_notes [] g = []
applied_notes (e ∷ past) g = notes_applied g e.what (applied_notes past g)

abbrev pub members_after : ℕ → ℕ → What → ℕ → ℕ
members_after g a (What.Send h q t s) m = if is_stamp g a s then suc m else m
members_after g a w m = m

-- how many sends have the stamp of this application
abbrev pub members : Past → ℕ → ℕ → ℕ
members [] g a = 0
members (e ∷ past) g a = members_after g a e.what (members past g a)

abbrev pub stamp_after : What → Option Stamp → Option Stamp
stamp_after (What.Start q e s) was = s
stamp_after (What.Enter b) was = None
stamp_after What.EndGroup was = None
stamp_after (What.End lost cells) was = None
stamp_after w was = was

-- the stamp of core c's open context: it is left early, or with the context
abbrev pub open_stamp : Past → ℕ → Option Stamp
open_stamp [] c = None
open_stamp (e ∷ past) c = if e.core.0 == c then stamp_after e.what (open_stamp past c) else open_stamp past c

abbrev pub departed_after : Past → ℕ → ℕ → ℕ → What → ℕ → ℕ
departed_after past g a d What.EndGroup m = if is_stamp g a (open_stamp past d) then suc m else m
departed_after past g a d (What.End lost cells) m = if is_stamp g a (open_stamp past d) then suc m else m
departed_after past g a d w m = m

-- how many receives with this stamp have left their group
abbrev pub departed : Past → ℕ → ℕ → ℕ
departed [] g a = 0
departed (e ∷ past) g a = departed_after past g a e.core.0 e.what (departed past g a)

-- what is left of the last application's count
abbrev pub count : Past → ℕ → ℕ
count past g = total past g - departed past g (applications past g)
