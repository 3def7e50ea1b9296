-- A start whose body failed is done as a good one.
use Rattle.std.specs.Prelude.{List, [], ◌∷◌, Some, None, true}
use Rattle.em_log.specs.declared.entry.What.{What}
use Rattle.em_log.specs.declared.entry.Body.{Body}
use Rattle.em_log.specs.declared.entry.Begun.{Begun}
use Rattle.em_log.specs.declared.fault.Fault.{Fault}
use Rattle.em_log.specs.declared.fault.Call.{Call}
use Rattle.em_log.specs.declared.entry.Entry.{Entry}
use Rattle.em_log.specs.Operations.{op_id}
use Rattle.em_histories.specs.Words.{by, pool, object, event, note}
use Rattle.em_histories.specs.Runs.{Run}
use Rattle.em_histories.specs.worked.StartThatFails.{graph, limits}

abbrev pub history : List Entry
history =
    by 0 (What.Enter Body.Boot)
    ∷ by 0 (What.Alloc (pool 0) (event 65536 3 []))
    ∷ by 0 (What.Begin (op_id 0) (Begun.Start (object 0)) ((note 65536 0) ∷ []))
    ∷ by 0 (What.End 0 None)
    ∷ by 0 (What.Enter (Body.GlobalStart (op_id 0)))
    ∷ by 0 (What.Fault Call.Fail (Fault.StartFailed (op_id 0)) (Some (object 0)))
    ∷ by 0 (What.End 0 None)
    ∷ by 0 (What.GlobalDone (op_id 0) true)
    ∷ []

abbrev pub run : Run
run = record { graph = graph; limits = limits; history = history }
