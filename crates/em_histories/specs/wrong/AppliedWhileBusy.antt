-- A busy event group takes a second application.
use Rattle.std.specs.Prelude.{List, [], ◌∷◌, None}
use Rattle.em_log.specs.declared.entry.What.{What}
use Rattle.em_log.specs.declared.entry.Body.{Body}
use Rattle.em_log.specs.declared.fault.Fault.{Fault}
use Rattle.em_log.specs.declared.fault.Call.{Call}
use Rattle.em_log.specs.declared.ids.Kind.{Kind}
use Rattle.em_log.specs.declared.entry.Entry.{Entry}
use Rattle.em_histories.specs.Words.{by, pool, event_group, event, note}
use Rattle.em_histories.specs.Runs.{Run}
use Rattle.em_histories.specs.worked.EveryRefusalOfBoot.{graph, limits}

abbrev pub history : List Entry
history =
    by 0 (What.Enter Body.Boot)
    ∷ by 0 (What.Fault Call.Alloc (Fault.BadSize 1) None)
    ∷ by 0 (What.Alloc (pool 0) (event 65536 0 []))
    ∷ by 0 (What.Fault Call.Send (Fault.QueueClosed 0) None)
    ∷ by 0 (What.Fault Call.Send (Fault.WrongKind Kind.Unscheduled) None)
    ∷ by 0 (What.Fault Call.Dequeue (Fault.WrongKind Kind.Output) None)
    ∷ by 0 (What.Fault Call.Enable (Fault.WrongKind Kind.Unscheduled) None)
    ∷ by 0 (What.Fault Call.EndAtomic Fault.NotAtomic None)
    ∷ by 0 (What.Fault Call.EndOrdered Fault.NotOrdered None)
    ∷ by 0 (What.Fault Call.EndGroup Fault.NoGroup None)
    ∷ by 0 (What.Fault Call.Increment Fault.NoGroup None)
    ∷ by 0 (What.Fault Call.Abort (Fault.GroupIdle (event_group 0)) None)
    ∷ by 0 (What.Fault Call.Apply (Fault.BadCount 0) None)
    ∷ by 0 (What.Apply (event_group 0) 1 1 ((note 65536 2) ∷ []))
    ∷ by 0 (What.Apply (event_group 0) 2 1 [])
    ∷ []

abbrev pub run : Run
run = record { graph = graph; limits = limits; history = history }
