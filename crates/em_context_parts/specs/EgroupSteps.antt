-- The steps of event groups that a history makes, over all kinds of entries.
use Rattle.std.specs.Prelude.{ℕ, Bool, true, false, List, [], ◌∷◌, Option, Some, None}
use Rattle.em_log.specs.declared.entry.What.{What}
use Rattle.em_log.specs.declared.ids.Stamp.{Stamp}
use Rattle.em_log.specs.History.{Past}
use Rattle.em_log.specs.EventGroups.{open_stamp}
use Rattle.em_egroups.specs.Steps.{EgroupStep, Applied, Stamped, Increased, Left, Aborted}

abbrev pub stamped_steps : Option Stamp → List EgroupStep → List EgroupStep
stamped_steps None steps = steps
stamped_steps (Some s) steps = Stamped s.group.0 ∷ steps

-- a receive of a stamped event leaves its group
abbrev pub left_steps : Option Stamp → List EgroupStep → List EgroupStep
left_steps None steps = steps
left_steps (Some s) steps = Left s ∷ steps

-- a notification is no step: the part is idle from the leaving on that makes the count zero
abbrev pub egroup_after : Past → ℕ → What → List EgroupStep → List EgroupStep
egroup_after past c (What.Apply g a n notes) steps = Applied g.0 n notes ∷ steps
egroup_after past c (What.Send h q t s) steps = stamped_steps s steps
egroup_after past c (What.Increment g n) steps = Increased g.0 n ∷ steps
egroup_after past c What.EndGroup steps = left_steps (open_stamp past c) steps
egroup_after past c (What.End lost cells) steps = left_steps (open_stamp past c) steps
egroup_after past c (What.Abort g) steps = Aborted g.0 ∷ steps
egroup_after past c w steps = steps

abbrev pub egroup_steps : Past → List EgroupStep
egroup_steps [] = []
egroup_steps (e ∷ past) = egroup_after past e.core.0 e.what (egroup_steps past)

-- whether an entry begins, counts or gives up an application, or may end a membership
abbrev pub touches_egroups : What → Bool
touches_egroups (What.Apply g a n notes) = true
touches_egroups (What.Send h q t (Some s)) = true
touches_egroups (What.Increment g n) = true
touches_egroups What.EndGroup = true
touches_egroups (What.End lost cells) = true
touches_egroups (What.Abort g) = true
touches_egroups w = false
