-- The steps of a run over a work whose asks stand from the start.
use Rattle.std.proofs.Common.{◌≡◌, List, Option, Some, None, sym, subst}
use Rattle.em_log.specs.declared.ask.Answer.{Answer}
use Rattle.em_log.specs.declared.work.Work.{Ghosts}
use Rattle.em_log.specs.Handles.{held}
use Rattle.em_core.specs.declared.core_run.CoreRun.{CoreRun}
use Rattle.em_core.specs.declared.core_run.Step.{Step}
use Rattle.em_core.specs.FixedAsks.{IsReady}
use Rattle.em_core.specs.Pieces.{Piece, history}
use Rattle.em_core.specs.Stands.{Stands, HoldsHandles}
use Rattle.em_core.specs.Steps.{unreplied, AreHandles, Grows}

module _ {W : Type 0} (k : Ghosts W) (f : k.Fixed) (run : CoreRun W) (m : List Piece) (s : Step) (x y : Answer) where
  -- a reply whose handles the list has
  pub holds : Stands k run 0 f m → unreplied k run ≡ Some s → x ≡ y → AreHandles (held (history 0 m) 0) (Some s) y → HoldsHandles k run x
  holds stands is same handles =
      record {
        core = 0;
        fixed = f;
        pieces = m;
        stands = stands;
        handles = subst (λ (u : Option Step). AreHandles (held (history 0 m) 0) u x) (sym is)
            (subst (λ (z : Answer). AreHandles (held (history 0 m) 0) (Some s) z) (sym same) handles);
      }

  -- the run after it
  pub ready : (now : CoreRun W) (n : List Piece) → Stands k run 0 f m → unreplied k run ≡ Some s → x ≡ y
      → AreHandles (held (history 0 m) 0) (Some s) y → Grows 0 (Some s) y m n
      → (Stands k run 0 f m → AreHandles (held (history 0 m) 0) (unreplied k run) x → Grows 0 (unreplied k run) x m n → Stands k now 0 f n)
      → unreplied k now ≡ None → IsReady k now n
  unfolding holds
  ready now n stands is same handles grows told replied =
      record {
        fixed = f;
        stands = told stands (holds stands is same handles).handles
            (subst (λ (u : Option Step). Grows 0 u x m n) (sym is) (subst (λ (z : Answer). Grows 0 (Some s) z m n) (sym same) grows));
        replied = replied;
      }
