use Rattle.std.proofs.Common.{◌≡◌, ◌++◌, take}
use Rattle.std.specs.List.{flat_map}
use Rattle.em_script.specs.Spelling.{declared_lines, text_of}
use Rattle.em_script.proofs.printing.declarations.Given as goal

abbrev pub invariant-loop-decl : goal.invariant-loop-decl
invariant-loop-decl l = l.text ≡ l.initial.text ++ text_of l.config (flat_map (declared_lines l.config) (take l.decl-index l.config.order))
