-- A context ends its order a second time.
use Rattle.std.specs.Prelude.{List, [], ◌∷◌, Some, None}
use Rattle.em_log.specs.declared.entry.What.{What}
use Rattle.em_log.specs.declared.entry.Body.{Body}
use Rattle.em_log.specs.declared.entry.Entry.{Entry}
use Rattle.em_histories.specs.Words.{by, queue, pool, handle, event}
use Rattle.em_histories.specs.Runs.{Run}
use Rattle.em_histories.specs.worked.OrderedEndedTwice.{graph, limits}

abbrev pub history : List Entry
history =
    by 0 (What.Enter Body.Boot)
    ∷ by 0 (What.Alloc (pool 0) (event 65536 1 []))
    ∷ by 0 (What.Send (handle 65536) (queue 0) None None)
    ∷ by 0 (What.End 0 None)
    ∷ by 0 (What.Take (queue 0) 1 (Some 0))
    ∷ by 0 (What.Start (queue 0) (event 131072 1 []) None)
    ∷ by 0 (What.Send (handle 131072) (queue 1) (Some 0) None)
    ∷ by 0 (What.Out (queue 1) 1 [])
    ∷ by 0 What.EndOrdered
    ∷ by 0 What.EndOrdered
    ∷ []

abbrev pub run : Run
run = record { graph = graph; limits = limits; history = history }
