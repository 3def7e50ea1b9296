-- A dequeue gives again the event that the dequeue before it gave.
use Rattle.std.specs.Prelude.{List, [], ◌∷◌, Some, None}
use Rattle.em_log.specs.declared.entry.What.{What}
use Rattle.em_log.specs.declared.entry.Body.{Body}
use Rattle.em_log.specs.declared.entry.Entry.{Entry}
use Rattle.em_histories.specs.Words.{by, queue, pool, handle, event}
use Rattle.em_histories.specs.Runs.{Run}
use Rattle.em_histories.specs.worked.UnscheduledOutputAndCells.{graph, limits}

abbrev pub history : List Entry
history =
    by 0 (What.Enter Body.Boot)
    ∷ by 0 (What.Alloc (pool 0) (event 65536 3 []))
    ∷ by 0 (What.Send (handle 65536) (queue 1) None None)
    ∷ by 0 (What.Dequeue (queue 1) (Some (event 131072 3 [])))
    ∷ by 0 (What.Dequeue (queue 1) (Some (event 131072 3 [])))
    ∷ []

abbrev pub run : Run
run = record { graph = graph; limits = limits; history = history }
