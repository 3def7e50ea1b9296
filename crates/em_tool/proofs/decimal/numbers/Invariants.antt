-- What was read stands before what is left.
use Rattle.std.proofs.Common.{length}
use denote.Shadow.{shadow}
use denote.Text.{Utf8}
use Rattle.em_tool.proofs.Numbers.{Reads}
use Rattle.em_tool.proofs.decimal.numbers.Given as goal

abbrev pub invariant-loop-first : goal.invariant-loop-first
invariant-loop-first l = record { text : shadow (Utf8 l.rest); reads : Reads l.separator l.text l.numbers l.rest }

abbrev pub decreases-loop-first : goal.decreases-loop-first
decreases-loop-first l = length l.rest
