use Rattle.std.proofs.Common.{◌≡◌, false}
use Rattle.em_turn.proofs.tests.add_all.Given as goal

abbrev pub invariant-loop-word : goal.invariant-loop-word
invariant-loop-word g l = (l.seat.turn ≡ l.fn.seat.turn) × (l.seat.inside ≡ false) × (l.seat.numbers ≡ l.fn.seat.numbers) × (l.seat.spare ≡ l.fn.seat.spare)
