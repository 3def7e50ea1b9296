-- The steps of objects that a history makes, over all kinds of entries.
use Rattle.std.specs.Prelude.{Bool, true, false, List, [], ◌∷◌}
use Rattle.em_log.specs.declared.entry.Begun.{Begun}
use Rattle.em_log.specs.declared.entry.What.{What}
use Rattle.em_log.specs.declared.ids.EoState.{EoState}
use Rattle.em_log.specs.History.{Past}
use Rattle.em_log.specs.Operations.{by_job}
use Rattle.em_objects.specs.Steps.{ObjectStep, Moved, Flagged}

-- an operation that begins moves its object
abbrev pub begun_steps : Begun → List ObjectStep → List ObjectStep
begun_steps (Begun.Start x) steps = Moved x.0 EoState.Starting ∷ steps
begun_steps (Begun.Stop x) steps = Moved x.0 EoState.Stopping ∷ steps
begun_steps (Begun.Modify g m) steps = steps

-- one that is done moves it again: a start that failed leaves it created
abbrev pub done_steps : Begun → Bool → List ObjectStep → List ObjectStep
done_steps (Begun.Start x) true steps = Moved x.0 EoState.Running ∷ steps
done_steps (Begun.Start x) false steps = Moved x.0 EoState.Created ∷ steps
done_steps (Begun.Stop x) ok steps = Moved x.0 EoState.Created ∷ steps
done_steps (Begun.Modify g m) ok steps = steps

abbrev pub object_after : Past → What → List ObjectStep → List ObjectStep
object_after past (What.Begin op job notes) steps = begun_steps job steps
object_after past (What.Done op ok) steps = by_job past op (λ j. done_steps j ok steps) steps
object_after past (What.Enable q) steps = Flagged q.0 true ∷ steps
object_after past (What.Disable q) steps = Flagged q.0 false ∷ steps
object_after past w steps = steps

abbrev pub object_steps : Past → List ObjectStep
object_steps [] = []
object_steps (e ∷ past) = object_after past e.what (object_steps past)

-- whether an entry may move an object or change a flag
abbrev pub touches_objects : What → Bool
touches_objects (What.Begin op (Begun.Start x) notes) = true
touches_objects (What.Begin op (Begun.Stop x) notes) = true
touches_objects (What.Done op ok) = true
touches_objects (What.Enable q) = true
touches_objects (What.Disable q) = true
touches_objects w = false
