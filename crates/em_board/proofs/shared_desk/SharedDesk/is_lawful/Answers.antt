use Rattle.std.proofs.Common.{subst}
use Rattle.em_log.specs.Lawful.{Lawful}
use Rattle.em_desk.specs.State.{DeskState}
use Rattle.em_board.specs.Marked.{history}
use Rattle.em_board.specs.SharedDesks.{SharedState, HasOwner}
use Rattle.em_board.proofs.Marked.{marked-by}
use Rattle.em_board.proofs.SharedDesks.{lawful-shown}
use Rattle.em_board.proofs.shared_desk.SharedDesk.is_lawful.Goals as goal

pub returns-clause-lawful : goal.returns-clause-lawful
returns-clause-lawful c =
    subst (λ (s : SharedState). Lawful s.fixed.declarations s.fixed.limits (history s.items)) c.self.view_is
    (lawful-shown c.self.inside.desk.value c.self.inside.mark (subst (λ (x : DeskState). Lawful x.declarations x.limits x.past) c.deref.ensures c.log-log.ensures.lawful))

pub returns-clause-owner : goal.returns-clause-owner
returns-clause-owner c =
    subst HasOwner c.self.view_is (marked-by c.self.inside.desk.value.past c.self.inside.mark c.self.inside.desk.value.declarations.cores c.self.invariant.core)
