-- The steps of queue groups that a history makes, over all kinds of entries.
use Rattle.std.specs.Prelude.{Bool, true, false, List, [], ◌∷◌}
use Rattle.em_log.specs.declared.entry.Begun.{Begun}
use Rattle.em_log.specs.declared.entry.What.{What}
use Rattle.em_log.specs.History.{Past}
use Rattle.em_log.specs.Operations.{by_job}
use Rattle.em_groups.specs.Steps.{GroupStep, Began, Finished}

abbrev pub begun_steps : Begun → List GroupStep → List GroupStep
begun_steps (Begun.Modify g m) steps = Began g.0 m ∷ steps
begun_steps job steps = steps

abbrev pub done_steps : Begun → List GroupStep → List GroupStep
done_steps (Begun.Modify g m) steps = Finished g.0 ∷ steps
done_steps job steps = steps

abbrev pub group_after : Past → What → List GroupStep → List GroupStep
group_after past (What.Begin op job notes) steps = begun_steps job steps
group_after past (What.Done op ok) steps = by_job past op (λ j. done_steps j steps) steps
group_after past w steps = steps

abbrev pub group_steps : Past → List GroupStep
group_steps [] = []
group_steps (e ∷ past) = group_after past e.what (group_steps past)

-- whether an entry may change a mask
abbrev pub touches_groups : What → Bool
touches_groups (What.Begin op (Begun.Modify g m) notes) = true
touches_groups (What.Done op ok) = true
touches_groups w = false
