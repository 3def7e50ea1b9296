use Rattle.std.proofs.Common.{Option, subst}
use Rattle.em_log.specs.Handles.{held}
use Rattle.em_core.specs.declared.core_run.Stage.{Stage}
use Rattle.em_core.specs.declared.core_run.Step.{Step}
use Rattle.em_core.specs.Pieces.{history}
use Rattle.em_core.specs.Steps.{unreplied_at, AreHandles, Grows}
use Rattle.em_core.proofs.Replies.{open-asks, no-step}
use Rattle.em_core.proofs.Standing.{stands-ended}
use Rattle.em_core.proofs.core_run.CoreRun.told.Goals as goal

pub returns-in-Taking-clause-stands : goal.returns-in-Taking-clause-stands
returns-in-Taking-clause-stands g c d f m n stands handles grows =
    let k = g.W.Work in
    let x = c.args.reply.now.answer in
    let u = k.unanswered (k.state c.args.self.now.work) in
    c.took.ensures.stands d f m n stands (subst (λ (s : Stage). Grows d (unreplied_at u s) x m n) c.in-Taking.is grows)

pub returns-in-Open-clause-stands : goal.returns-in-Open-clause-stands
returns-in-Open-clause-stands g c d f m n stands handles grows =
    let k = g.W.Work in
    let x = c.args.reply.now.answer in
    let u = k.unanswered (k.state c.args.self.now.work) in
    let asks = open-asks u c.args.self.now.stage c.in-Open.words x c.in-Open.is c.requires.fits in
    c.answered.ensures.stands d f m n asks.ask asks.unanswered stands
    (subst (λ (s : Option Step). AreHandles (held (history d m) d) s x) asks.step handles)
    (subst (λ (s : Option Step). Grows d s x m n) asks.step grows)

pub returns-in-Ending-clause-stands : goal.returns-in-Ending-clause-stands
returns-in-Ending-clause-stands g c d f m n stands handles grows =
    let k = g.W.Work in
    let x = c.args.reply.now.answer in
    let u = k.unanswered (k.state c.args.self.now.work) in
    stands-ended k c.args.self.now d f m n c.in-Ending.field-0 x c.in-Ending.is
    (subst (λ (s : Stage). Grows d (unreplied_at u s) x m n) c.in-Ending.is grows) stands

pub returns-in_default : goal.returns-in_default
returns-in_default g c =
    let k = g.W.Work in
    absurd (no-step (k.unanswered (k.state c.args.self.now.work)) c.args.self.now.stage c.args.reply.now.answer c.requires.fits
    c.in_default.not-Taking c.in_default.not-Open c.in_default.not-Ending)
