-- An event group notifies while one of its events has not ended.
use Rattle.std.specs.Prelude.{List, [], ◌∷◌, Some, None}
use Rattle.em_log.specs.declared.entry.What.{What}
use Rattle.em_log.specs.declared.entry.Body.{Body}
use Rattle.em_log.specs.declared.fault.Fault.{Fault}
use Rattle.em_log.specs.declared.fault.Call.{Call}
use Rattle.em_log.specs.declared.entry.Entry.{Entry}
use Rattle.em_histories.specs.Words.{by, queue, pool, event_group, handle, event, stamp, note}
use Rattle.em_histories.specs.Runs.{Run}
use Rattle.em_histories.specs.worked.GroupCountsAndNotifies.{graph, limits}

abbrev pub history : List Entry
history =
    by 0 (What.Enter Body.Boot)
    ∷ by 0 (What.Alloc (pool 0) (event 65536 9 []))
    ∷ by 0 (What.Apply (event_group 0) 1 1 ((note 65536 1) ∷ []))
    ∷ by 0 (What.Alloc (pool 0) (event 65537 1 []))
    ∷ by 0 (What.Send (handle 65537) (queue 0) None (Some (stamp 0 1)))
    ∷ by 0 (What.Alloc (pool 0) (event 65538 2 []))
    ∷ by 0 (What.Fault Call.Send (Fault.BadCount 1) None)
    ∷ by 0 (What.End 1 None)
    ∷ by 0 (What.Take (queue 0) 1 None)
    ∷ by 0 (What.Start (queue 0) (event 131073 1 []) (Some (stamp 0 1)))
    ∷ by 0 (What.Increment (event_group 0) 1)
    ∷ by 0 (What.Alloc (pool 0) (event 65539 2 []))
    ∷ by 0 (What.Send (handle 65539) (queue 0) None (Some (stamp 0 1)))
    ∷ by 0 What.EndGroup
    ∷ by 0 (What.Notify (event_group 0) 1)
    ∷ []

abbrev pub run : Run
run = record { graph = graph; limits = limits; history = history }
