-- A core takes a note from the queue of the object whose stop it tells.
use Rattle.std.specs.Prelude.{List, [], ◌∷◌, None, true}
use Rattle.em_log.specs.declared.entry.What.{What}
use Rattle.em_log.specs.declared.entry.Body.{Body}
use Rattle.em_log.specs.declared.entry.Begun.{Begun}
use Rattle.em_log.specs.declared.entry.Entry.{Entry}
use Rattle.em_log.specs.Operations.{op_id}
use Rattle.em_histories.specs.Words.{by, queue, pool, object, event, note}
use Rattle.em_histories.specs.Runs.{Run}
use Rattle.em_histories.specs.worked.StopWhoseNoteIsLost.{graph, limits}

abbrev pub history : List Entry
history =
    by 0 (What.Enter Body.Boot)
    ∷ by 0 (What.Alloc (pool 0) (event 65536 3 []))
    ∷ by 0 (What.Begin (op_id 0) (Begun.Stop (object 0)) ((note 65536 0) ∷ []))
    ∷ by 0 (What.End 0 None)
    ∷ by 0 (What.Enter (Body.LocalStop (op_id 0)))
    ∷ by 0 (What.End 0 None)
    ∷ by 0 (What.Ack (op_id 0))
    ∷ by 0 (What.Enter (Body.GlobalStop (op_id 0)))
    ∷ by 0 (What.End 0 None)
    ∷ by 0 (What.GlobalDone (op_id 0) true)
    ∷ by 0 (What.Done (op_id 0) true)
    ∷ by 0 (What.Take (queue 0) 1 None)
    ∷ []

abbrev pub run : Run
run = record { graph = graph; limits = limits; history = history }
