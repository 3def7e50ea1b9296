use Rattle.std.proofs.Common.{◌∙◌}
use Rattle.em_board_rows.proofs.Passes.{same-all}
use Rattle.em_board_rows.proofs.runs.run.Goals as goal

pub close-requires : goal.close-requires
close-requires g c =
    record { all = same-all c.in_ok-board.board c.in_ok-board.passes c.is_halted-passes.result.0 (c.is_halted-passes.ensures.same ∙ c.work_in_threads-passes.ensures.same) c.in_ok-board.ensures.all }
