-- Boot is entered a second time.
use Rattle.std.specs.Prelude.{List, [], ◌∷◌, None}
use Rattle.em_log.specs.declared.entry.What.{What}
use Rattle.em_log.specs.declared.entry.Body.{Body}
use Rattle.em_log.specs.declared.entry.Entry.{Entry}
use Rattle.em_histories.specs.Words.{by}
use Rattle.em_histories.specs.Runs.{Run}
use Rattle.em_histories.specs.worked.OnlyBoot.{graph, limits}

abbrev pub history : List Entry
history =
    by 0 (What.Enter Body.Boot)
    ∷ by 0 (What.End 0 None)
    ∷ by 0 (What.Enter Body.Boot)
    ∷ []

abbrev pub run : Run
run = record { graph = graph; limits = limits; history = history }
