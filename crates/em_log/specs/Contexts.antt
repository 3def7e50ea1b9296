-- The open context of a core, its object, and boot.
use Rattle.std.specs.Prelude.{ℕ, ◌==◌, Bool, true, false, [], ◌∷◌, Option, Some, None, if◌then◌else◌}
use Rattle.std.specs.Option.{option_and_then}
use Rattle.em_log.specs.declared.declarations.Declarations.{Declarations}
use Rattle.em_log.specs.declared.entry.What.{What}
use Rattle.em_log.specs.declared.entry.Body.{Body}
use Rattle.em_log.specs.declared.entry.Begun.{Begun}
use Rattle.em_log.specs.History.{Past}
use Rattle.em_log.specs.Declarations.{object_of}
use Rattle.em_log.specs.Operations.{operation}

abbrev pub context_after : What → Option What → Option What
context_after (What.Enter b) was = Some (What.Enter b)
context_after (What.Start q e s) was = Some (What.Start q e s)
context_after (What.End lost cells) was = None
context_after w was = was

-- the entry that began core c's open context, if one is open
abbrev pub context : Past → ℕ → Option What
context [] c = None
context (e ∷ past) c = if e.core.0 == c then context_after e.what (context past c) else context past c

abbrev pub received_queue : Option What → Option ℕ
received_queue (Some (What.Start q e s)) = Some q.0
received_queue _ = None

-- the queue whose event core c's open context receives
abbrev pub receives_from : Past → ℕ → Option ℕ
receives_from past c = received_queue (context past c)

abbrev pub is_boot : Option What → Bool
is_boot (Some (What.Enter Body.Boot)) = true
is_boot _ = false

abbrev pub ends_boot : What → Option What → Bool
ends_boot (What.End lost cells) context = is_boot context
ends_boot _ context = false

-- boot has ended
abbrev pub boot_ended : Past → Bool
boot_ended [] = false
boot_ended (e ∷ past) = if ends_boot e.what (context past e.core.0) then true else boot_ended past

-- the object that a start or stop is of
abbrev pub object_in : Begun → Option ℕ
object_in (Begun.Start x) = Some x.0
object_in (Begun.Stop x) = Some x.0
object_in (Begun.Modify g m) = None

abbrev pub operation_object : Past → ℕ → Option ℕ
operation_object past n = option_and_then (λ o. object_in o.job) (operation past n)

abbrev pub body_object : Past → Body → Option ℕ
body_object past Body.Boot = None
body_object past (Body.GlobalStart op) = operation_object past op.0
body_object past (Body.LocalStart op) = operation_object past op.0
body_object past (Body.LocalStop op) = operation_object past op.0
body_object past (Body.GlobalStop op) = operation_object past op.0

abbrev pub object_begun : Declarations → Past → Option What → Option ℕ
object_begun k past (Some (What.Start q e s)) = object_of k q.0
object_begun k past (Some (What.Enter b)) = body_object past b
object_begun k past _ = None

-- the object whose body core c's open context runs: none in boot
abbrev pub context_object : Declarations → Past → ℕ → Option ℕ
context_object k past c = object_begun k past (context past c)

abbrev pub take_queue_after : What → Option ℕ → Option ℕ
take_queue_after (What.Take q n t) was = Some q.0
take_queue_after w was = was

-- the queue of core c's last take
abbrev pub take_queue : Past → ℕ → Option ℕ
take_queue [] c = None
take_queue (e ∷ past) c = if e.core.0 == c then take_queue_after e.what (take_queue past c) else take_queue past c
