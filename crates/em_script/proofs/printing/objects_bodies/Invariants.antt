use Rattle.std.proofs.Common.{◌≡◌, ◌++◌, take}
use Rattle.std.specs.List.{flat_map}
use Rattle.em_script.specs.Spelling.{bodies_of_objects, body_lines, text_of}
use Rattle.em_script.proofs.printing.objects_bodies.Given as goal

abbrev pub invariant-loop-n : goal.invariant-loop-n
invariant-loop-n l = l.text ≡ l.initial.text ++ text_of l.config (flat_map body_lines (bodies_of_objects 0 (take l.n l.config.eos)))
