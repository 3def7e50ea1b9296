-- An alloc gives a second event of a pool of one.
use Rattle.std.specs.Prelude.{List, [], ◌∷◌}
use Rattle.em_log.specs.declared.entry.What.{What}
use Rattle.em_log.specs.declared.entry.Body.{Body}
use Rattle.em_log.specs.declared.entry.Entry.{Entry}
use Rattle.em_histories.specs.Words.{by, pool, event}
use Rattle.em_histories.specs.Runs.{Run}
use Rattle.em_histories.specs.worked.OneEventAtTheLimit.{graph, limits}

abbrev pub history : List Entry
history =
    by 0 (What.Enter Body.Boot)
    ∷ by 0 (What.Alloc (pool 0) (event 65536 7 (5 ∷ [])))
    ∷ by 0 (What.Alloc (pool 0) (event 65537 7 (5 ∷ [])))
    ∷ []

abbrev pub run : Run
run = record { graph = graph; limits = limits; history = history }
