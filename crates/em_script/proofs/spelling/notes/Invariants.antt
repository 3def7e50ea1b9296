use Rattle.std.proofs.Common.{◌≡◌, ◌++◌, take}
use Rattle.std.specs.List.{flat_map}
use Rattle.em_script.specs.Lines.{spaced}
use Rattle.em_script.specs.Names.{writing}
use Rattle.em_script.specs.Statements.{note}
use Rattle.em_script.proofs.spelling.notes.Given as goal

abbrev pub invariant-loop-each : goal.invariant-loop-each
invariant-loop-each l = l.text ≡ l.initial.text ++ spaced (flat_map (note (writing l.config)).write (take l.each-index l.list))
