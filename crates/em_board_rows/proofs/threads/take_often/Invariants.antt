use Rattle.std.proofs.Common.{◌≡◌, false}
use Rattle.em_board_rows.specs.Passes.{IsAt, rights}
use Rattle.em_board_rows.proofs.threads.take_often.Given as goal

abbrev pub invariant-loop : goal.invariant-loop
invariant-loop g l = IsAt l.fn.board false l.pass × (rights l.pass ≡ rights l.fn.pass)
