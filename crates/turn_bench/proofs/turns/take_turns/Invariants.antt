use Rattle.std.proofs.Common.{◌≡◌, false}
use Rattle.turn_bench.proofs.turns.take_turns.Given as goal

abbrev pub invariant-loop : goal.invariant-loop
invariant-loop g l = (l.seat.turn ≡ l.fn.seat.turn) × (l.seat.inside ≡ false) × (l.seat.numbers ≡ l.fn.seat.numbers) × (l.seat.spare ≡ l.fn.seat.spare)
