use Rattle.std.proofs.Common.{◌≡◌, ◌++◌, take}
use Rattle.std.specs.List.{flat_map}
use Rattle.em_script.specs.Spelling.{statement_lines, text_of}
use Rattle.em_script.proofs.printing.+block.Given as goal

abbrev pub invariant-block_lines-loop-each : goal.invariant-block_lines-loop-each
invariant-block_lines-loop-each l = l.text ≡ l.initial.text ++ text_of l.config (flat_map statement_lines (take l.each-index l.block))
