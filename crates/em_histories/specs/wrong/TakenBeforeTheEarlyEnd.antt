-- A core takes the next event of an atomic queue before its holder has ended early.
use Rattle.std.specs.Prelude.{List, [], ◌∷◌, None}
use Rattle.em_log.specs.declared.entry.What.{What}
use Rattle.em_log.specs.declared.entry.Body.{Body}
use Rattle.em_log.specs.declared.entry.Entry.{Entry}
use Rattle.em_histories.specs.Words.{by, queue, pool, handle, event}
use Rattle.em_histories.specs.Runs.{Run}
use Rattle.em_histories.specs.worked.EarlyEndOfAtomicProcessing.{graph, limits}

abbrev pub history : List Entry
history =
    by 0 (What.Enter Body.Boot)
    ∷ by 0 (What.Alloc (pool 0) (event 65536 1 []))
    ∷ by 0 (What.Alloc (pool 0) (event 65537 2 []))
    ∷ by 0 (What.Send (handle 65536) (queue 0) None None)
    ∷ by 0 (What.Send (handle 65537) (queue 0) None None)
    ∷ by 0 (What.End 0 None)
    ∷ by 1 (What.Take (queue 0) 1 None)
    ∷ by 1 (What.Start (queue 0) (event 131072 1 []) None)
    ∷ by 0 (What.Take (queue 0) 1 None)
    ∷ []

abbrev pub run : Run
run = record { graph = graph; limits = limits; history = history }
