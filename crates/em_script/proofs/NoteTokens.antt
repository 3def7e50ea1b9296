-- A note takes tokens.
use Rattle.std.specs.Prelude.{codes}
use Rattle.em_script.specs.Names.{Naming, as_queue}
use Rattle.em_script.specs.declared.named.Named.TheVariants as named
use Rattle.em_script.specs.Form.{◌▷◌, queue_name}
use Rattle.em_script.specs.Expressions.{expression}
use Rattle.em_script.specs.Statements.{note}
use Rattle.em_script.proofs.Repeats.{TakesTokens, then-takes, after-takes, used-takes}
use Rattle.em_script.proofs.Symbols.{expression-takes}

pub note-takes : (names : Naming) → TakesTokens (note names)
note-takes names = after-takes (codes "note") (expression ▷ queue_name names) (then-takes expression (queue_name names) expression-takes (used-takes names as_queue (λ id. named.Queue id) (record { 0 = 0 })))
