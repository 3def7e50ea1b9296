use Rattle.std.proofs.Common.{drop}
use Rattle.em_desk.specs.State.{DeskState}
use Rattle.em_desk_rows.specs.Moves.{Drives, Makes}
use Rattle.em_desk_rows.proofs.moves.drive.Given as goal

-- the moves that are left may be made, and with those so far they are all
abbrev pub invariant-loop-core : goal.invariant-loop-core
invariant-loop-core l =
    record {
      drives : Drives l.desk (drop l.core-index l.moves);
      makes : (end : DeskState) → Makes l.desk (drop l.core-index l.moves) end → Makes l.fn.desk l.moves end;
    }
