use Rattle.std.proofs.Common.{◌≡◌, ◌+◌, ◌*◌, ◌≤◌, true}
use Rattle.em_board_rows.specs.Passes.{IsAt, left_of, rights}
use Rattle.em_board_rows.proofs.threads.send_all.Given as goal

abbrev pub invariant-loop-kind : goal.invariant-loop-kind
invariant-loop-kind g l =
    IsAt l.fn.board true l.pass × (256 ≤ left_of l.pass + 3 * l.kind) × (l.kind ≤ 8) × (rights l.pass ≡ rights l.fn.pass)
