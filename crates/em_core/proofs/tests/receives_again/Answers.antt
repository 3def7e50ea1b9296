use Rattle.std.proofs.Common.{◌∷◌, Some, List, refl, ap, ◌∙◌}
use Rattle.em_log.specs.declared.ask.Answer.{Answer}
use Rattle.em_log.specs.Handles.{held}
use Rattle.em_core.specs.declared.core_run.Step.{Step}
use Rattle.em_core.specs.FixedAsks.{receive_of}
use Rattle.em_core.specs.Pieces.{Piece, history}
use Rattle.em_core.specs.Steps.{awaited, AreHandles, Grows}
use Rattle.em_core.proofs.FixedAsks.{ready}
use Rattle.em_core.proofs.tests.receives_again.Goals as goal

handles : (m : List Piece) → AreHandles (held (history 0 m) 0) (Some Step.Take) (Answer.Context (receive_of 1))
handles m = record { different = tt; among = tt; new = tt }

grows : (m : List Piece) → Grows 0 (Some Step.Take) (Answer.Context (receive_of 1)) m (Piece.Opened (receive_of 1) ∷ m)
grows m = refl

pub returns-in-Take : goal.returns-in-Take
returns-in-Take g c is =
    let m = c.requires.0 in
    let was = c.requires.1 in
    let n : List Piece = Piece.Opened (receive_of 1) ∷ m in (
      n,
      ready g.W.Work was.fixed c.next.new.self m Step.Take c.reply.result.answer (Answer.Context (receive_of 1)) c.told.new.self n
          (c.next.ensures.stands 0 was.fixed m was.stands)
          (c.next.ensures.unreplied ∙ ap awaited c.in-Take.is) (rw c.receive.ensures at (ap (λ r. r.answer) c.reply.ensures))
          (handles m) (grows m) (c.told.ensures.stands 0 was.fixed m n) c.told.ensures.unreplied,
    )
