use Rattle.std.proofs.Common.{◌≡◌, take}
use Rattle.em_view.specs.Markup.{escaped}
use Rattle.em_view.proofs.markup.escaped.Given as goal

abbrev pub invariant-loop-byte : goal.invariant-loop-byte
invariant-loop-byte l = l.bytes.items ≡ escaped (take l.byte-index l.text)
