-- A core takes from the queue of an object that has stopped.
use Rattle.std.specs.Prelude.{List, [], ◌∷◌, None, true}
use Rattle.em_log.specs.declared.entry.What.{What}
use Rattle.em_log.specs.declared.entry.Body.{Body}
use Rattle.em_log.specs.declared.entry.Begun.{Begun}
use Rattle.em_log.specs.declared.entry.Entry.{Entry}
use Rattle.em_log.specs.Operations.{op_id}
use Rattle.em_histories.specs.Words.{by, queue, pool, object, handle, event, note}
use Rattle.em_histories.specs.Runs.{Run}
use Rattle.em_histories.specs.worked.ObjectStoppedByItsOwnEventAndStartedAgain.{graph, limits}

abbrev pub history : List Entry
history =
    by 0 (What.Enter Body.Boot)
    ∷ by 0 (What.Alloc (pool 0) (event 65536 1 []))
    ∷ by 0 (What.Send (handle 65536) (queue 0) None None)
    ∷ by 0 (What.Alloc (pool 0) (event 65537 2 []))
    ∷ by 0 (What.Send (handle 65537) (queue 0) None None)
    ∷ by 0 (What.End 0 None)
    ∷ by 0 (What.Take (queue 0) 1 None)
    ∷ by 0 (What.Start (queue 0) (event 131072 1 []) None)
    ∷ by 0 (What.Begin (op_id 0) (Begun.Stop (object 0)) ((note 131072 1) ∷ []))
    ∷ by 0 (What.End 0 None)
    ∷ by 0 (What.Enter (Body.LocalStop (op_id 0)))
    ∷ by 0 (What.Say 8)
    ∷ by 0 (What.End 0 None)
    ∷ by 0 (What.Ack (op_id 0))
    ∷ by 0 (What.Enter (Body.GlobalStop (op_id 0)))
    ∷ by 0 (What.Say 9)
    ∷ by 0 (What.End 0 None)
    ∷ by 0 (What.GlobalDone (op_id 0) true)
    ∷ by 0 (What.Done (op_id 0) true)
    ∷ by 0 (What.Take (queue 0) 1 None)
    ∷ []

abbrev pub run : Run
run = record { graph = graph; limits = limits; history = history }
