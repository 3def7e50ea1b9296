use Rattle.std.proofs.Common.{◌≡◌, inl, inr, List, refl, sym, ap, subst}
use Rattle.em_log.specs.declared.ask.Answer.{Answer}
use Rattle.em_core.specs.declared.core_run.Stage.{Stage}
use Rattle.em_core.specs.Pieces.{Piece}
use Rattle.em_core.specs.Stands.{Stands}
use Rattle.em_core.specs.Steps.{GrowsByTake, over_by}
use Rattle.em_core.proofs.Replies.{take-rests}
use Rattle.em_core.proofs.Standing.{run_with, stands-acked, stands-closed}
use Rattle.em_core.proofs.core_run.CoreRun.took.Goals as goal

pub returns-in_default : goal.returns-in_default
returns-in_default g c =
    let k = g.W.Work in
    let run = c.args.self.now in
    let x = c.args.answer.now in
    let rests = take-rests x c.requires.fits c.in_default.not-Context c.in_default.not-Quiet c.in_default.not-Limit c.in_default.not-Halted in
    record {
      stands = λ d f m n stands grows. elim rests [
        | inl is ↦ (let same : n ≡ m = subst (λ (y : Answer). GrowsByTake y m n) is grows in
            subst (λ (l : List Piece). Stands k (run_with k run run.work Stage.Between run.held) d f l) (sym same)
            (stands-closed k run d f m Stage.Between c.requires.taking (λ closed. closed) stands))
        | inr is ↦ stands-acked k run d f m n is.0 c.requires.taking (subst (λ (y : Answer). GrowsByTake y m n) is.1 grows) stands
      ];
      unreplied = refl;
      over = elim rests [ inl is ↦ ap over_by (sym is) | inr is ↦ ap over_by (sym is.1) ];
    }
