-- A second change of a queue group begins while the first one is pending.
use Rattle.std.specs.Prelude.{List, [], ◌∷◌}
use Rattle.em_log.specs.declared.entry.What.{What}
use Rattle.em_log.specs.declared.entry.Body.{Body}
use Rattle.em_log.specs.declared.entry.Begun.{Begun}
use Rattle.em_log.specs.declared.entry.Entry.{Entry}
use Rattle.em_log.specs.Operations.{op_id}
use Rattle.em_histories.specs.Words.{by, queue_group}
use Rattle.em_histories.specs.Runs.{Run}
use Rattle.em_histories.specs.worked.ChangesRefused.{graph, limits}

abbrev pub history : List Entry
history =
    by 0 (What.Enter Body.Boot)
    ∷ by 0 (What.Begin (op_id 0) (Begun.Modify (queue_group 1) 2) [])
    ∷ by 0 (What.Begin (op_id 1) (Begun.Modify (queue_group 1) 1) [])
    ∷ []

abbrev pub run : Run
run = record { graph = graph; limits = limits; history = history }
